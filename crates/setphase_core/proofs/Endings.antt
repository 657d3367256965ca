-- What a Set leaves, reported by its variables in place of its entries.
use Rattle.std.proofs.Common.{◌≡◌, ℕ, zero, suc, ◌-◌, ◌<◌, ◌∙◌, sym, ap, subst, refl, Bool, true, false, ◌||◌, cond, if◌then◌else◌, List, [], ◌∷◌, ◌++◌, length, map, take, drop, reverse, slice_get, Option, Some, None, arith}
use Rattle.std.proofs.lemmas.List.{length-map, take-map}
use Rattle.setting_keys.specs.declared.SettingKey.{SettingKey}
use Rattle.setphase_core.specs.declared.object.Assignment.{Assignment}
use Rattle.setphase_core.specs.declared.staging.Staged.{Staged}
use Rattle.setphase_core.specs.declared.world.World.{World}
use Rattle.setphase_core.specs.Calls.{Call, commit_call, undo_call, calls_by, object_after_calls, object_after_set, FollowPlans}
use Rattle.setphase_core.specs.Objects.{ObjectRow, ObjectState, object_after_release}
use Rattle.setphase_core.specs.Registry.{rows_of, prefixes_of}
use Rattle.setphase_core.specs.Searching.{IsOwnerPlace}
use Rattle.setphase_core.specs.Settings.{same_setting}
use Rattle.setphase_core.specs.Variables.{NamedAssignment}
use Rattle.setphase_core.specs.Together.{assign, assignments}
use Rattle.setphase_core.specs.Outcomes.{has_key, keys_of, firsts, committed_of, writers_of, stuck, CanFail}
use Rattle.setphase_core.specs.Staging.{CallAt, entry_at, assignment_of_entry, assignments_of, Without, IsDistinct, AreCommitted, HasFailed, AreCalled, commit_at, commits_at, undo_at, undos_at, entries_of}
use Rattle.setphase_core.specs.Tested.{AreStaged, IsNumber}
use Rattle.setphase_core.proofs.Puts.{same-exact}
use Rattle.setphase_core.proofs.Assigns.{without_before}
use Rattle.setphase_core.proofs.Called.{CallsFor, calls_for-append, called_for, called-append, undos-cons, undo_calls-cons, set_released, plans_released}
use Rattle.setphase_core.proofs.Released.{rows_of-released}
use Rattle.setphase_core.proofs.Stuck.{entry_keys, absent}

-- ---- entries and their variables

-- The entries are those of these variables: each writes what its variable does, at its object.
abbrev pub AreFor : List ObjectRow → List Staged → List NamedAssignment → Type 0
AreFor rows [] [] = Unit {0}
AreFor rows (e ∷ es) (x ∷ xs) =
    (assignment_of_entry e ≡ x.assignment) × IsOwnerPlace (prefixes_of rows) x.name (Some e.object)
    × AreFor rows es xs
AreFor rows es xs = ⊥

are_for : (rows : List ObjectRow) (es : List Staged) (xs : List NamedAssignment) →
    assignments_of es ≡ assignments xs →
    ((k : ℕ) (x : NamedAssignment) → slice_get xs k ≡ Some x →
    IsOwnerPlace (prefixes_of rows) x.name (Some (entry_at es k).object)) → AreFor rows es xs
are_for rows [] [] q placed = tt
are_for rows [] (x ∷ xs) q placed = absurd (cc)
are_for rows (e ∷ es) [] q placed = absurd (cc)
are_for rows (e ∷ es) (x ∷ xs) q placed =
    let head : assignment_of_entry e ≡ x.assignment = cc in
    let tail : assignments_of es ≡ assignments xs = cc in
    (head, placed 0 x refl, are_for rows es xs tail (λ k y at. placed (suc k) y at))

are_for-take : (rows : List ObjectRow) (k : ℕ) (es : List Staged) (xs : List NamedAssignment) →
    AreFor rows es xs → AreFor rows (take k es) (take k xs)
are_for-take rows zero es xs h = tt
are_for-take rows (suc k) [] [] h = tt
are_for-take rows (suc k) [] (x ∷ xs) h = absurd h
are_for-take rows (suc k) (e ∷ es) [] h = absurd h
are_for-take rows (suc k) (e ∷ es) (x ∷ xs) h = (h.0, h.1, are_for-take rows k es xs h.2)

are_for-one : (rows : List ObjectRow) (b : Bool) (e : Staged) (x : NamedAssignment) (es : List Staged)
    (xs : List NamedAssignment) → assignment_of_entry e ≡ x.assignment →
    IsOwnerPlace (prefixes_of rows) x.name (Some e.object) → AreFor rows es xs →
    AreFor rows (cond b (e ∷ es) es) (cond b (x ∷ xs) xs)
are_for-one rows true e x es xs same owner h = (same, owner, h)
are_for-one rows false e x es xs same owner h = h

-- Those whose settings are among some.
are_for-picked : (rows : List ObjectRow) (keys : List SettingKey) (es : List Staged)
    (xs : List NamedAssignment) → AreFor rows es xs → AreFor rows (entries_of keys es) (writers_of keys xs)
are_for-picked rows keys [] [] h = tt
are_for-picked rows keys [] (x ∷ xs) h = absurd h
are_for-picked rows keys (e ∷ es) [] h = absurd h
are_for-picked rows keys (e ∷ es) (x ∷ xs) h =
    subst (λ b. AreFor rows (cond (has_key keys e.slot.key) (e ∷ entries_of keys es) (entries_of keys es)) (cond b (x ∷ writers_of keys xs) (writers_of keys xs))) (ap (λ (a : Assignment). has_key keys a.key) h.0) (are_for-one rows (has_key keys e.slot.key) e x (entries_of keys es) (writers_of keys xs) h.0 h.1 (are_for-picked rows keys es xs h.2))

assignments_for : (rows : List ObjectRow) (es : List Staged) (xs : List NamedAssignment) →
    AreFor rows es xs → assignments_of es ≡ assignments xs
assignments_for rows [] [] h = refl
assignments_for rows [] (x ∷ xs) h = absurd h
assignments_for rows (e ∷ es) [] h = absurd h
assignments_for rows (e ∷ es) (x ∷ xs) h =
    ap (λ a. a ∷ assignments_of es) h.0
    ∙ ap (λ ps. x.assignment ∷ ps) (assignments_for rows es xs h.2)

keys_for : (rows : List ObjectRow) (es : List Staged) (xs : List NamedAssignment) →
    AreFor rows es xs → entry_keys es ≡ keys_of xs
keys_for rows [] [] h = refl
keys_for rows [] (x ∷ xs) h = absurd h
keys_for rows (e ∷ es) [] h = absurd h
keys_for rows (e ∷ es) (x ∷ xs) h =
    ap (λ (a : Assignment). a.key ∷ entry_keys es) h.0
    ∙ ap (λ ks. x.assignment.key ∷ ks) (keys_for rows es xs h.2)

key_for : (rows : List ObjectRow) (es : List Staged) (xs : List NamedAssignment) (k : ℕ) (x : NamedAssignment) →
    AreFor rows es xs → slice_get xs k ≡ Some x → (entry_at es k).slot.key ≡ x.assignment.key
key_for rows [] [] k x h at = absurd (cc)
key_for rows [] (y ∷ xs) k x h at = absurd h
key_for rows (e ∷ es) [] k x h at = absurd h
key_for rows (e ∷ es) (y ∷ xs) zero x h at =
    let same : y ≡ x = cc in
    ap (λ (a : Assignment). a.key) h.0 ∙ ap (λ (z : NamedAssignment). z.assignment.key) same
key_for rows (e ∷ es) (y ∷ xs) (suc k) x h at = key_for rows es xs k x h.2 at

-- ---- the calls of entries, by the names of their variables

commits_for : (rows : List ObjectRow) (fails : Bool) (es : List Staged) (xs : List NamedAssignment) →
    AreFor rows es xs → CallsFor rows (map (commit_at fails) es) (map (commit_call fails) xs)
commits_for rows fails [] [] h = tt
commits_for rows fails [] (x ∷ xs) h = absurd h
commits_for rows fails (e ∷ es) [] h = absurd h
commits_for rows fails (e ∷ es) (x ∷ xs) h = (refl, h.1, commits_for rows fails es xs h.2)

undos_for : (rows : List ObjectRow) (keys : List SettingKey) (es : List Staged)
    (xs : List NamedAssignment) → AreFor rows es xs →
    CallsFor rows (undos_at keys es) (map (undo_call keys) (reverse xs))
undos_for rows keys [] [] h = tt
undos_for rows keys [] (x ∷ xs) h = absurd h
undos_for rows keys (e ∷ es) [] h = absurd h
undos_for rows keys (e ∷ es) (x ∷ xs) h =
    subst (λ ps. CallsFor rows ps (map (undo_call keys) (reverse (x ∷ xs)))) (sym (undos-cons keys e es))
    (subst (CallsFor rows (undos_at keys es ++ undo_at keys e ∷ [])) (sym (undo_calls-cons keys x xs))
    (calls_for-append rows (undos_at keys es) (undo_at keys e ∷ []) (map (undo_call keys) (reverse xs)) (undo_call keys x ∷ []) (undos_for rows keys es xs h.2) (ap (λ (a : Assignment). has_key keys a.key) h.0, h.1, tt)))

-- The objects after a Set whose calls were these.
after_set : (os ns : List ObjectState) (ps : List CallAt) (cs : List Call) →
    CallsFor (rows_of os) ps cs → AreCalled ps (map object_after_release os) ns →
    (ns ≡ map (object_after_set cs) os) × FollowPlans cs os
after_set os ns ps cs h called =
    let by_names : (ns ≡ map (object_after_calls cs) (map object_after_release os)) × FollowPlans cs (map object_after_release os)
    = called_for (map object_after_release os) ns ps cs (subst (λ rows. CallsFor rows ps cs) (sym (rows_of-released os)) h) called in
    (by_names.0 ∙ set_released cs os, plans_released cs os by_names.1)

-- A refused Set.
pub refused_objects : (os : List ObjectState) → map object_after_release os ≡ map (object_after_set []) os
refused_objects [] = refl
refused_objects (o ∷ os) = ap (λ zs. object_after_release o ∷ zs) (refused_objects os)

-- A Set of whose commits none failed.
pub done_objects : (os ns : List ObjectState) (ws : List NamedAssignment) (es : List Staged) →
    AreStaged (rows_of os) ws es →
    AreCalled (commits_at es None) (map object_after_release os) (map object_after_release ns) →
    (map object_after_release ns ≡ map (object_after_set (calls_by ws None [])) os)
    × FollowPlans (calls_by ws None []) os
done_objects os ns ws es staged called =
    after_set os (map object_after_release ns) (commits_at es None) (calls_by ws None [])
    (commits_for (rows_of os) false es (committed_of ws) (are_for (rows_of os) es (committed_of ws) staged.written staged.placed))
    called

-- ---- the settings that variables write, and those of them that are committed

or_assoc : (a b c : Bool) → ((a || b) || c) ≡ (a || (b || c))
or_assoc true b c = refl
or_assoc false b c = refl

has_key-last : (xs : List NamedAssignment) (x : NamedAssignment) (k : SettingKey) →
    has_key (keys_of (xs ++ x ∷ [])) k ≡ (has_key (keys_of xs) k || same_setting x.assignment.key k)
has_key-last [] x k = or_false (same_setting x.assignment.key k)
  where
    or_false : (b : Bool) → (b || false) ≡ b
    or_false true = refl
    or_false false = refl
has_key-last (y ∷ xs) x k =
    ap (λ b. same_setting y.assignment.key k || b) (has_key-last xs x k)
    ∙ sym (or_assoc (same_setting y.assignment.key k) (has_key (keys_of xs) k) (same_setting x.assignment.key k))

-- A setting that is there needs no second lookup.
seen_twice : (a b : Bool) (r s : Bool) → (b ≡ true → a ≡ true) →
    ((a || b) || r) ≡ ((a || b) || s) → (a || r) ≡ (a || (b || s))
seen_twice true b r s h e = refl
seen_twice false true r s h e = let no : false ≡ true = h refl in absurd (cc)
seen_twice false false r s h e = e

firsts_one : (xs later ws : List NamedAssignment) (x : NamedAssignment) (k : SettingKey) (b : Bool) →
    has_key (keys_of xs) x.assignment.key ≡ b →
    ((has_key (keys_of xs) k || same_setting x.assignment.key k) || has_key (keys_of later) k)
    ≡ ((has_key (keys_of xs) k || same_setting x.assignment.key k) || has_key (keys_of ws) k) →
    (has_key (keys_of xs) k || has_key (keys_of ((if b then [] else x ∷ []) ++ later)) k)
    ≡ (has_key (keys_of xs) k || (same_setting x.assignment.key k || has_key (keys_of ws) k))
firsts_one xs later ws x k true at e =
    seen_twice (has_key (keys_of xs) k) (same_setting x.assignment.key k) (has_key (keys_of later) k) (has_key (keys_of ws) k)
    (λ q. ap (has_key (keys_of xs)) (sym ((same-exact x.assignment.key k).0 q)) ∙ at) e
firsts_one xs later ws x k false at e =
    sym (or_assoc (has_key (keys_of xs) k) (same_setting x.assignment.key k) (has_key (keys_of later) k))
    ∙ e
    ∙ or_assoc (has_key (keys_of xs) k) (same_setting x.assignment.key k) (has_key (keys_of ws) k)

firsts_have : (xs ws : List NamedAssignment) (k : SettingKey) →
    (has_key (keys_of xs) k || has_key (keys_of (firsts xs ws)) k)
    ≡ (has_key (keys_of xs) k || has_key (keys_of ws) k)
firsts_have xs [] k = refl
firsts_have xs (x ∷ ws) k =
    firsts_one xs (firsts (xs ++ x ∷ []) ws) ws x k (has_key (keys_of xs) x.assignment.key) refl
    (subst (λ b. (b || has_key (keys_of (firsts (xs ++ x ∷ []) ws)) k) ≡ (b || has_key (keys_of ws) k)) (has_key-last xs x k) (firsts_have (xs ++ x ∷ []) ws k))

committed_have : (ws : List NamedAssignment) (k : SettingKey) →
    has_key (keys_of (committed_of ws)) k ≡ has_key (keys_of ws) k
committed_have ws k = firsts_have [] ws k

-- ---- what stands at a place

there_at : {X : Type 0} (xs : List X) (i : ℕ) → i < length xs → (x : X) × (slice_get xs i ≡ Some x)
there_at [] i h = absurd (omega arith)
there_at (x ∷ xs) zero h = (x, refl)
there_at (x ∷ xs) (suc i) h = there_at xs i (omega arith)

one_at : {X : Type 0} (xs : List X) (i : ℕ) (x : X) → slice_get xs i ≡ Some x →
    take 1 (drop i xs) ≡ x ∷ []
one_at [] i x h = absurd (cc)
one_at (y ∷ xs) zero x h = let same : y ≡ x = cc in ap (λ z. z ∷ []) same
one_at (y ∷ xs) (suc i) x h = one_at xs i x h

-- ---- a Set whose commit of the entry at a place failed

module _ (os : List ObjectState) (ws : List NamedAssignment) (es : List Staged) (i : ℕ)
    (keys : List SettingKey) (staged : AreStaged (rows_of os) ws es) (within : i < length es)
    (distinct : IsDistinct (assignments_of es)) where
  all_for : AreFor (rows_of os) es (committed_of ws)
  all_for = are_for (rows_of os) es (committed_of ws) staged.written staged.placed

  at : (x : NamedAssignment) × (slice_get (committed_of ws) i ≡ Some x)
  at =
      there_at (committed_of ws) i (omega (arith, within, ap length staged.written, length-map es assignment_of_entry, length-map (committed_of ws) (λ (x : NamedAssignment). x.assignment)))

  number_is : IsNumber ws (committed_of ws) i (entry_at es i).number at.0
  number_is = staged.numbered i at.0 at.1

  stuck_for : AreFor (rows_of os) (entries_of keys (take i es)) (stuck ws (entry_at es i).number keys)
  stuck_for =
      subst (λ cs. AreFor (rows_of os) (entries_of keys (take i es)) (writers_of keys cs)) (sym number_is.before) (are_for-picked (rows_of os) keys (take i es) (take i (committed_of ws)) (are_for-take (rows_of os) i es (committed_of ws) all_for))

  -- What the settings that could not be undone are given.
  pub stuck_assignments : assignments_of (entries_of keys (take i es))
      ≡ assignments (stuck ws (entry_at es i).number keys)
  stuck_assignments =
      assignments_for (rows_of os) (entries_of keys (take i es)) (stuck ws (entry_at es i).number keys) stuck_for

  pub stuck_keys : keys ≡ entry_keys (entries_of keys (take i es)) →
      keys ≡ keys_of (stuck ws (entry_at es i).number keys)
  stuck_keys reported =
      reported
      ∙ keys_for (rows_of os) (entries_of keys (take i es)) (stuck ws (entry_at es i).number keys) stuck_for

  -- No variable before it writes the setting whose commit failed.
  first_of_its_key : has_key (keys_of (take ((entry_at es i).number - 1) ws)) (entry_at es i).slot.key ≡ false
  first_of_its_key =
      let key = (entry_at es i).slot.key in
      sym (committed_have (take ((entry_at es i).number - 1) ws) key)
      ∙ ap (λ cs. has_key (keys_of cs) key) number_is.before
      ∙ ap (λ ks. has_key ks key) (sym (keys_for (rows_of os) (take i es) (take i (committed_of ws)) (are_for-take (rows_of os) i es (committed_of ws) all_for)))
      ∙ absent (take i es) key (subst (Without key) (take-map assignment_of_entry i es) (without_before es i distinct within))

  -- These are notes that the Set can have.
  pub can_fail : keys ≡ entry_keys (entries_of keys (take i es)) →
      CanFail ws (Some (entry_at es i).number) keys
  can_fail reported = (
    number_is.least,
    number_is.most,
    (λ x there.
        let same : at.0 ≡ x = same_value (slice_get ws ((entry_at es i).number - 1)) at.0 x number_is.there there in
        ap (has_key (keys_of (take ((entry_at es i).number - 1) ws))) (sym (key_for (rows_of os) es (committed_of ws) i at.0 all_for at.1 ∙ ap (λ (z : NamedAssignment). z.assignment.key) same))
        ∙ first_of_its_key),
    stuck_keys reported,
  )
    where
      same_value : (o : Option NamedAssignment) (x y : NamedAssignment) → o ≡ Some x → o ≡ Some y → x ≡ y
      same_value o x y p q = cc

  calls_are : CallsFor (rows_of os) (commits_at es (Some i) ++ undos_at keys (take i es)) (calls_by ws (Some (entry_at es i).number) keys)
  calls_are =
      let rows = rows_of os in
      let front : List NamedAssignment = committed_of (take ((entry_at es i).number - 1) ws) in
      let for_front : AreFor (rows_of os) (take i es) (committed_of (take ((entry_at es i).number - 1) ws))
      = subst (AreFor (rows_of os) (take i es)) (sym number_is.before) (are_for-take (rows_of os) i es (committed_of ws) all_for) in
      let failing : CallsFor (rows_of os) (commit_at true (entry_at es i) ∷ []) (map (commit_call true) (take 1 (drop ((entry_at es i).number - 1) ws)))
      = subst (λ xs. CallsFor (rows_of os) (commit_at true (entry_at es i) ∷ []) (map (commit_call true) xs)) (sym (one_at ws ((entry_at es i).number - 1) at.0 number_is.there)) (refl, staged.placed i at.0 at.1, tt) in
      calls_for-append rows (commits_at es (Some i)) (undos_at keys (take i es)) (map (commit_call false) front ++ map (commit_call true) (take 1 (drop ((entry_at es i).number - 1) ws))) (map (undo_call keys) (reverse front))
      (calls_for-append rows (map (commit_at false) (take i es)) (commit_at true (entry_at es i) ∷ []) (map (commit_call false) front) (map (commit_call true) (take 1 (drop ((entry_at es i).number - 1) ws))) (commits_for rows false (take i es) front for_front) failing)
      (undos_for rows keys (take i es) front for_front)

  -- What the objects are, by the calls of their devices.
  pub calls_reported : (made undone : List ObjectState) →
      AreCalled (commits_at es (Some i)) (map object_after_release os) made →
      AreCalled (undos_at keys (take i es)) made undone →
      (undone ≡ map (object_after_set (calls_by ws (Some (entry_at es i).number) keys)) os)
      × FollowPlans (calls_by ws (Some (entry_at es i).number) keys) os
  calls_reported made undone commits undos =
      after_set os undone (commits_at es (Some i) ++ undos_at keys (take i es)) (calls_by ws (Some (entry_at es i).number) keys) calls_are
      (called-append (commits_at es (Some i)) (undos_at keys (take i es)) (map object_after_release os) made undone commits undos)

  -- What the world is: the settings that could not be undone keep their new values.
  pub world_reported : (w v u : World) (rs : List ObjectState) → HasFailed w v rs es i →
      ((before : World) → AreCommitted before v rs es i →
      v ≡ assign (take i (assignments_of es)) before →
      u ≡ assign (assignments_of (entries_of keys (take i es))) before) →
      u ≡ assign (assignments (stuck ws (entry_at es i).number keys)) w
  world_reported w v u rs failed undone =
      undone w failed.stands failed.world ∙ ap (λ ps. assign ps w) stuck_assignments
