-- The entries that are staged, of the variables that were tested so far.
use Rattle.std.proofs.Common.{◌≡◌, ℕ, zero, suc, ◌-◌, ◌<◌, ◌≤◌, ◌∙◌, sym, ap, subst, refl, ◌≢◌, Bool, true, false, cond, List, [], ◌∷◌, ◌++◌, length, map, take, slice_get, slice_set, Some, None, arith, ◌⊎◌, inl, inr, length-append}
use Rattle.std.proofs.lemmas.List.{length-set, length-map, get_or-set_same, get_or-set_other, map-append}
use Rattle.std.proofs.lemmas.Bool.Decides.{eqb_tells}
use Rattle.std.proofs.lemmas.Option.{slice_get_within}
use Rattle.setphase_core.specs.declared.object.Slot.{Slot}
use Rattle.setphase_core.specs.declared.staging.Staged.{Staged}
use Rattle.setphase_core.specs.Objects.{ObjectRow, ObjectState, reserve, pending_reservation}
use Rattle.oid_core.specs.Order.{is_prefix}
use Rattle.setphase_core.specs.declared.object.Reservation.{Reservation}
use Rattle.setphase_core.specs.Registry.{rows_of, prefixes_of}
use Rattle.setphase_core.specs.Searching.{IsOwnerPlace}
use Rattle.setphase_core.specs.Variables.{NamedAssignment, written_under}
use Rattle.setphase_core.specs.Together.{assignments}
use Rattle.setphase_core.specs.Outcomes.{has_key, keys_of, committed_of}
use Rattle.setphase_core.specs.Staging.{object_at, no_object, entry_at, assignment_of_entry}
use Rattle.setphase_core.specs.Tested.{AreStaged, IsNumber}
use Rattle.setphase_core.proofs.Firsts.{committed-last}
use Rattle.setphase_core.proofs.States.{prefix_of_object}
use Rattle.setphase_core.proofs.Writings.{owner_within, reserved_for}

-- ---- lists with one more at the end

pub slice_get-append : {X : Type 0} (xs ys : List X) (i : ℕ) (r : X) → slice_get xs i ≡ Some r →
    slice_get (xs ++ ys) i ≡ Some r
slice_get-append [] ys i r e = absurd (cc)
slice_get-append (x ∷ xs) ys zero r e = e
slice_get-append (x ∷ xs) ys (suc i) r e = slice_get-append xs ys i r e

pub slice_get-last : {X : Type 0} (xs : List X) (r : X) → slice_get (xs ++ r ∷ []) (length xs) ≡ Some r
slice_get-last [] r = refl
slice_get-last (x ∷ xs) r = slice_get-last xs r

-- What stands in a list with one more at the end, stood there before, or is that one.
last_or : {X : Type 0} (xs : List X) (r : X) (i : ℕ) (y : X) → slice_get (xs ++ r ∷ []) i ≡ Some y →
    (slice_get xs i ≡ Some y) ⊎ ((i ≡ length xs) × (r ≡ y))
last_or [] r zero y e = inr (refl, cc)
last_or [] r (suc i) y e = absurd (cc)
last_or (x ∷ xs) r zero y e = inl e
last_or (x ∷ xs) r (suc i) y e = elim (last_or xs r i y e) [
  | inl h ↦ inl h
  | inr h ↦ inr (ap suc h.0, h.1)
]

take-front : {X : Type 0} (xs ys : List X) (n : ℕ) → n ≤ length xs → take n (xs ++ ys) ≡ take n xs
take-front [] ys zero h = refl
take-front [] ys (suc n) h = absurd (omega (arith, h))
take-front (x ∷ xs) ys zero h = refl
take-front (x ∷ xs) ys (suc n) h = ap (λ zs. x ∷ zs) (take-front xs ys n (omega (arith, h)))

take-whole : {X : Type 0} (xs ys : List X) → take (length xs) (xs ++ ys) ≡ xs
take-whole [] ys = refl
take-whole (x ∷ xs) ys = ap (λ zs. x ∷ zs) (take-whole xs ys)

append_none : {X : Type 0} (xs : List X) → xs ++ [] ≡ xs
append_none [] = refl
append_none (x ∷ xs) = ap (λ ys. x ∷ ys) (append_none xs)

pub entry_at-append : (es : List Staged) (e : Staged) (k : ℕ) → k < length es →
    entry_at (es ++ e ∷ []) k ≡ entry_at es k
entry_at-append [] e k h = absurd (omega arith)
entry_at-append (d ∷ es) e zero h = refl
entry_at-append (d ∷ es) e (suc k) h = entry_at-append es e k (omega arith)

pub entry_at-last : (es : List Staged) (e : Staged) → entry_at (es ++ e ∷ []) (length es) ≡ e
entry_at-last [] e = refl
entry_at-last (d ∷ es) e = entry_at-last es e

less : (n : ℕ) → suc n - 1 ≡ n
less n = omega arith

-- ---- slots that are reserved

under-last : (prefix : List ℕ) (ws : List NamedAssignment) (x : NamedAssignment) →
    reserved_for prefix (ws ++ x ∷ [])
    ≡ reserved_for prefix ws
    ++ cond (is_prefix prefix x.name) (record { key = x.assignment.key; value = x.assignment.value; old = None } ∷ []) []
under-last prefix [] x = only (is_prefix prefix x.name)
  where
    only : (b : Bool) →
        map {B = Reservation} (λ (y : NamedAssignment). record { key = y.assignment.key; value = y.assignment.value; old = None }) (cond b (x ∷ []) [])
        ≡ cond b (record { key = x.assignment.key; value = x.assignment.value; old = None } ∷ []) []
    only true = refl
    only false = refl
under-last prefix (y ∷ ws) x = first (is_prefix prefix y.name) (under-last prefix ws x)
  where
    first : (b : Bool) →
        reserved_for prefix (ws ++ x ∷ [])
        ≡ reserved_for prefix ws
        ++ cond (is_prefix prefix x.name) (record { key = x.assignment.key; value = x.assignment.value; old = None } ∷ []) [] →
        map {B = Reservation} (λ (z : NamedAssignment). record { key = z.assignment.key; value = z.assignment.value; old = None }) (cond b (y ∷ written_under prefix (ws ++ x ∷ [])) (written_under prefix (ws ++ x ∷ [])))
        ≡ map {B = Reservation} (λ (z : NamedAssignment). record { key = z.assignment.key; value = z.assignment.value; old = None }) (cond b (y ∷ written_under prefix ws) (written_under prefix ws))
        ++ cond (is_prefix prefix x.name) (record { key = x.assignment.key; value = x.assignment.value; old = None } ∷ []) []
    first true rest = ap (λ (zs : List Reservation). record { key = y.assignment.key; value = y.assignment.value; old = None } ∷ zs) rest
    first false rest = rest

-- One slot more, of a variable whose object stands at a place.
pub reserves_more : (os : List ObjectState) (p : ℕ) (s : Slot) (name : List ℕ) (ws : List NamedAssignment) →
    IsOwnerPlace (prefixes_of (rows_of os)) name (Some p) →
    ((q : ℕ) → q < length os → (object_at os q).reserved ≡ reserved_for (object_at os q).row.prefix ws) →
    (q : ℕ) → q < length (slice_set os p (reserve (object_at os p) s)) →
    (object_at (slice_set os p (reserve (object_at os p) s)) q).reserved
    ≡ reserved_for (object_at (slice_set os p (reserve (object_at os p) s)) q).row.prefix
    (ws ++ record { name = name; assignment = record { key = s.key; value = s.value } } ∷ [])
reserves_more os p s name ws owner all q h =
    let within : p < length os = owner_within os name p owner in
    let x : NamedAssignment = record { name = name; assignment = record { key = s.key; value = s.value } } in
    let there : q < length os = omega (arith, h, length-set {A = ObjectState}) in
    elim (eqb_tells q p) [
      | inl e ↦
          subst (λ z. z.reserved ≡ reserved_for z.row.prefix (ws ++ record { name = name; assignment = record { key = s.key; value = s.value } } ∷ []))
          (sym (ap (object_at (slice_set os p (reserve (object_at os p) s))) e.1 ∙ get_or-set_same os p (reserve (object_at os p) s) no_object within))
          (ap (λ zs. zs ++ pending_reservation s ∷ []) (all p within)
          ∙ ap (λ (b : Bool). reserved_for (object_at os p).row.prefix ws ++ cond b (pending_reservation s ∷ []) []) (sym (begins_here os name p owner))
          ∙ sym (under-last (object_at os p).row.prefix ws x))
      | inr e ↦
          subst (λ z. z.reserved ≡ reserved_for z.row.prefix (ws ++ record { name = name; assignment = record { key = s.key; value = s.value } } ∷ []))
          (sym (get_or-set_other os p q (reserve (object_at os p) s) no_object e.1))
          (all q there
          ∙ sym (append_none (reserved_for (object_at os q).row.prefix ws))
          ∙ ap (λ (b : Bool). reserved_for (object_at os q).row.prefix ws ++ cond b (pending_reservation s ∷ []) []) (sym (begins_no_other os name p q owner there e.1))
          ∙ sym (under-last (object_at os q).row.prefix ws x))
    ]
  where
    begins_here : (os : List ObjectState) (name : List ℕ) (p : ℕ) → IsOwnerPlace (prefixes_of (rows_of os)) name (Some p) →
        is_prefix (object_at os p).row.prefix name ≡ true
    begins_here os name p owner = ap (λ prefix. is_prefix prefix name) (sym (prefix_of_object os p)) ∙ owner.1

    begins_no_other : (os : List ObjectState) (name : List ℕ) (p q : ℕ) → IsOwnerPlace (prefixes_of (rows_of os)) name (Some p) →
        q < length os → q ≢ p → is_prefix (object_at os q).row.prefix name ≡ false
    begins_no_other os name p q owner h ne =
        ap (λ prefix. is_prefix prefix name) (sym (prefix_of_object os q))
        ∙ owner.2 q (omega (arith, h, places os)) ne
      where
        places : (os : List ObjectState) → length (prefixes_of (rows_of os)) ≡ length os
        places [] = refl
        places (o ∷ os) = ap suc (places os)

fewer_under : (prefix : List ℕ) (ws : List NamedAssignment) → length (reserved_for prefix ws) ≤ length ws
fewer_under prefix [] = omega arith
fewer_under prefix (x ∷ ws) = first (is_prefix prefix x.name) (fewer_under prefix ws)
  where
    first : (b : Bool) → length (reserved_for prefix ws) ≤ length ws →
        length {A = Reservation} (map {B = Reservation} (λ (z : NamedAssignment). record { key = z.assignment.key; value = z.assignment.value; old = None }) (cond b (x ∷ written_under prefix ws) (written_under prefix ws))) ≤ suc (length ws)
    first true rest = omega (arith, rest)
    first false rest = omega (arith, rest)

-- So no object has reserved more than there are variables.
pub few : (os : List ObjectState) (ws : List NamedAssignment) (p : ℕ) →
    (object_at os p).reserved ≡ reserved_for (object_at os p).row.prefix ws →
    length (object_at os p).reserved ≤ length ws
few os ws p e = omega (arith, ap (length {A = Reservation}) e, fewer_under (object_at os p).row.prefix ws)

-- ---- entries and variables

module _ (rows : List ObjectRow) (ws : List NamedAssignment) (es : List Staged) (x : NamedAssignment)
    (all : AreStaged rows ws es) where
  as_many : length es ≡ length (committed_of ws)
  as_many =
      sym (length-map es assignment_of_entry)
      ∙ ap length all.written
      ∙ length-map (committed_of ws) (λ y. y.assignment)

  -- A variable keeps its number where more follow.
  number_stays : (cs : List NamedAssignment) (k : ℕ) (n : ℕ) (y : NamedAssignment) →
      slice_get (committed_of ws) k ≡ Some y → IsNumber ws (committed_of ws) k n y →
      IsNumber (ws ++ x ∷ []) (committed_of ws ++ cs) k n y
  number_stays cs k n y at h = record {
    least = h.least;
    most = omega (arith, h.most, length-append ws (x ∷ []));
    there = slice_get-append ws (x ∷ []) (n - 1) y h.there;
    before =
        ap committed_of (take-front ws (x ∷ []) (n - 1) (omega (arith, h.most)))
        ∙ h.before
        ∙ sym (take-front (committed_of ws) cs k (omega (arith, slice_get_within (committed_of ws) k y at)));
  }

  -- The setting is staged already.
  pub staged_again : has_key (keys_of ws) x.assignment.key ≡ true →
      AreStaged rows (ws ++ x ∷ []) es
  staged_again known =
      let same : committed_of (ws ++ x ∷ []) ≡ committed_of ws =
      committed-last ws x ∙ ap (λ b. committed_of ws ++ cond b [] (x ∷ [])) known ∙ append_none (committed_of ws) in
      record {
        written = all.written ∙ ap assignments (sym same);
        placed = λ k y at. all.placed k y (ap (λ cs. slice_get cs k) (sym same) ∙ at);
        numbered = λ k y at.
            let there = ap (λ cs. slice_get cs k) (sym same) ∙ at in
            subst (λ cs. IsNumber (ws ++ x ∷ []) cs k (entry_at es k).number y) (append_none (committed_of ws) ∙ sym same)
            (number_stays [] k (entry_at es k).number y there (all.numbered k y there));
      }

  -- It is not: the variable is the first of it.
  pub staged_first : (e : Staged) → has_key (keys_of ws) x.assignment.key ≡ false →
      assignment_of_entry e ≡ x.assignment → e.number ≡ suc (length ws) →
      IsOwnerPlace (prefixes_of rows) x.name (Some e.object) →
      AreStaged rows (ws ++ x ∷ []) (es ++ e ∷ [])
  staged_first e known is number owner =
      let more : committed_of (ws ++ x ∷ []) ≡ committed_of ws ++ x ∷ [] =
      committed-last ws x ∙ ap (λ b. committed_of ws ++ cond b [] (x ∷ [])) known in
      let which : (k : ℕ) (y : NamedAssignment) → slice_get (committed_of (ws ++ x ∷ [])) k ≡ Some y →
      (slice_get (committed_of ws) k ≡ Some y) ⊎ ((k ≡ length (committed_of ws)) × (x ≡ y))
      = λ k y at. last_or (committed_of ws) x k y (ap (λ cs. slice_get cs k) (sym more) ∙ at) in
      let old : (k : ℕ) (y : NamedAssignment) → slice_get (committed_of ws) k ≡ Some y → entry_at (es ++ e ∷ []) k ≡ entry_at es k
      = λ k y at. entry_at-append es e k (omega (arith, as_many, slice_get_within (committed_of ws) k y at)) in
      let new : (k : ℕ) → k ≡ length (committed_of ws) → entry_at (es ++ e ∷ []) k ≡ e
      = λ k at. ap (entry_at (es ++ e ∷ [])) (at ∙ sym as_many) ∙ entry_at-last es e in
      record {
        written =
            map-append assignment_of_entry es (e ∷ [])
            ∙ ap (λ ps. ps ++ assignment_of_entry e ∷ []) all.written
            ∙ ap (λ a. assignments (committed_of ws) ++ a ∷ []) is
            ∙ sym (map-append (λ y. y.assignment) (committed_of ws) (x ∷ []))
            ∙ ap assignments (sym more);
        placed = λ k y at. elim (which k y at) [
          | inl h ↦ subst (λ z. IsOwnerPlace (prefixes_of rows) y.name (Some z.object)) (sym (old k y h)) (all.placed k y h)
          | inr h ↦ subst (λ z. IsOwnerPlace (prefixes_of rows) y.name (Some z.object)) (sym (new k h.0)) (subst (λ z. IsOwnerPlace (prefixes_of rows) z.name (Some e.object)) h.1 owner)
        ];
        numbered = λ k y at. elim (which k y at) [
          | inl h ↦
              subst (λ cs. IsNumber (ws ++ x ∷ []) cs k (entry_at (es ++ e ∷ []) k).number y) (sym more)
              (subst (λ z. IsNumber (ws ++ x ∷ []) (committed_of ws ++ x ∷ []) k z.number y) (sym (old k y h))
              (number_stays (x ∷ []) k (entry_at es k).number y h (all.numbered k y h)))
          | inr h ↦
              subst (λ cs. IsNumber (ws ++ x ∷ []) cs k (entry_at (es ++ e ∷ []) k).number y) (sym more)
              (subst (λ z. IsNumber (ws ++ x ∷ []) (committed_of ws ++ x ∷ []) k z.number y) (sym (new k h.0))
              (subst (λ j. IsNumber (ws ++ x ∷ []) (committed_of ws ++ x ∷ []) j e.number y) (sym h.0)
              (subst (λ z. IsNumber (ws ++ x ∷ []) (committed_of ws ++ x ∷ []) (length (committed_of ws)) e.number z) h.1
              (subst (λ n. IsNumber (ws ++ x ∷ []) (committed_of ws ++ x ∷ []) (length (committed_of ws)) n x) (sym number) (record {
                least = omega arith;
                most = omega (arith, length-append ws (x ∷ []));
                there = ap (slice_get (ws ++ x ∷ [])) (less (length ws)) ∙ slice_get-last ws x;
                before = ap (λ n. committed_of (take n (ws ++ x ∷ []))) (less (length ws)) ∙ ap committed_of (take-whole ws (x ∷ [])) ∙ sym (take-whole (committed_of ws) (x ∷ []));
              })))))
        ];
      }
