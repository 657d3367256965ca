-- The tests of the variables of a Set, one after the other.
use Rattle.std.proofs.Common.{◌≡◌, ℕ, zero, suc, ◌+◌, ◌<◌, ◌≤◌, ◌∙◌, sym, ap, subst, refl, Bool, true, false, cond, List, [], ◌∷◌, ◌++◌, length, map, drop, drop-cons, get_or, slice_get, Option, Some, None, is_some, Ok, arith, add-one, length-append, append_assoc}
use Rattle.std.proofs.lemmas.List.{map-append}
use Rattle.message_core.specs.declared.binding.Binding.{Binding}
use Rattle.setphase_core.specs.declared.world.World.{World}
use Rattle.setphase_core.specs.declared.object.Assignment.{Assignment}
use Rattle.setphase_core.specs.declared.object.Slot.{Slot}
use Rattle.setphase_core.specs.declared.staging.Staged.{Staged}
use Rattle.setphase_core.specs.declared.staging.Standing.{Standing}
use Rattle.setphase_core.specs.declared.staging.Standing.TheVariants.{First, Repeats, Contradicts}
use Rattle.setphase_core.specs.declared.staging.TestedVariable.{TestedVariable}
use Rattle.setphase_core.specs.declared.staging.VariableFault.{VariableFault}
use Rattle.setphase_core.specs.Objects.{ObjectRow, ObjectState, reserve, object_after_release}
use Rattle.setphase_core.specs.Registry.{rows_of, prefixes_of}
use Rattle.setphase_core.specs.Searching.{IsOwnerPlace}
use Rattle.setphase_core.specs.Settings.{put}
use Rattle.setphase_core.specs.Variables.{NamedAssignment, writings_of, writings, variable, assignment_for, refusals_for, refusal_for, single_refusals}
use Rattle.setphase_core.specs.Together.{assign, assignments, contradicts, contradicting, is_timer, timer_numbers}
use Rattle.setphase_core.specs.Staging.{object_at, entry_at, assignments_of, assignment_of_entry, IsDistinct, IsLegal, AreLegal, IsUnderWay}
use Rattle.setphase_core.specs.Tested.{first_in, value_among, standing_by, is_contradicting, staged_by, IsPassed, IsFaulty, AreStaged, ArePassed}
use Rattle.setphase_core.proofs.Firsts.{first_in-append, is_first, is_repeated, is_contradicted, IsKnown, known_first, known_again, Agrees, agrees_more, agrees_last, value_last, contradicts_is, assign-append, put_among, distinct_last}
use Rattle.setphase_core.proofs.Slotted.{reserves_more, few, staged_again, staged_first}
use Rattle.setphase_core.proofs.States.{rows_of-set}
use Rattle.setphase_core.proofs.Writings.{reserved_for, owner_within, assigned_ok, variable_ok, variable_err}

-- What stands when so many variables were tested.
pub record Stages (rows : List ObjectRow) (w : World) (view : List ℕ) (bs : List Binding)
    (os : List ObjectState) (es : List Staged) (contradiction timer : Option ℕ) (i : ℕ) :
    Type 0 where
  pub earlier : List NamedAssignment
  pub all : writings rows w bs ≡ earlier ++ writings rows w (drop i bs)
  pub count : length earlier ≡ i
  pub single : single_refusals rows w view i earlier (drop i bs)
      ≡ single_refusals rows w view 0 [] bs
  pub contradictions : first_in contradiction (contradicting (assignments earlier) (assignments (writings rows w (drop i bs))))
      ≡ slice_get (contradicting [] (assignments (writings rows w bs))) 0
  pub timers : first_in timer (timer_numbers (suc i) (assignments (writings rows w (drop i bs))))
      ≡ slice_get (timer_numbers 1 (assignments (writings rows w bs))) 0
  pub kept : rows_of os ≡ rows
  pub reserves : (p : ℕ) → p < length os → (object_at os p).reserved ≡ reserved_for (object_at os p).row.prefix earlier
  pub legal : AreLegal w (assignments_of es)
  pub staged : AreStaged rows earlier es
  pub distinct : IsDistinct (assignments_of es)
  pub known : IsKnown earlier (assignments_of es)
  pub agrees : contradiction ≡ None → Agrees (assignments_of es) earlier
  pub same : contradiction ≡ None → assign (assignments earlier) w ≡ assign (assignments_of es) w

none_reserved : (os : List ObjectState) (p : ℕ) → p < length (map object_after_release os) → (object_at (map object_after_release os) p).reserved ≡ []
none_reserved [] p h = absurd (omega arith)
none_reserved (o ∷ os) zero h = refl
none_reserved (o ∷ os) (suc p) h = none_reserved os p (omega arith)

-- Before the first test.
pub stages_begin : (w : World) (view : List ℕ) (bs : List Binding) (os : List ObjectState) →
    os ≡ map object_after_release os → Stages (rows_of os) w view bs os [] None None 0
stages_begin w view bs os released = record {
  earlier = [];
  all = refl;
  count = refl;
  single = refl;
  contradictions = refl;
  timers = refl;
  kept = refl;
  reserves = λ p h.
      ap (λ zs. (object_at zs p).reserved) released
      ∙ none_reserved os p (subst (λ zs. p < length zs) released h);
  legal = tt;
  staged = record {
    written = refl;
    placed = λ k x at. absurd (nothing x at);
    numbered = λ k x at. absurd (nothing x at);
  };
  distinct = tt;
  known = λ k. refl;
  agrees = λ none. tt;
  same = λ none. refl;
}
  where
    nothing : (x : NamedAssignment) → None ≡ Some x → ⊥
    nothing x e = cc

-- ---- one variable more

first_same : (c : Option ℕ) (xs ys : List ℕ) → (c ≡ None → xs ≡ ys) → first_in c xs ≡ first_in c ys
first_same None xs ys h = ap (first_in None) (h refl)
first_same (Some n) xs ys h = refl

-- Where nothing is found with one more, nothing was found before, and that one does not count.
none_before : (c : Option ℕ) (b : Bool) (n : ℕ) → first_in c (cond b (n ∷ []) []) ≡ None →
    (c ≡ None) × (b ≡ false)
none_before None true n e = absurd (cc)
none_before None false n e = (refl, refl)
none_before (Some m) b n e = absurd (cc)

assignments-last : (ws : List NamedAssignment) (x : NamedAssignment) →
    assignments (ws ++ x ∷ []) ≡ assignments ws ++ x.assignment ∷ []
assignments-last ws x = map-append (λ y. y.assignment) ws (x ∷ [])

module _ (rows : List ObjectRow) (w : World) (ws : List NamedAssignment) (es : List Staged) where
  -- What is known of the entries alone.
  pub record Entries (vs : List NamedAssignment) (fs : List Staged) (counts : Bool) : Type 0 where
    pub legal : AreLegal w (assignments_of fs)
    pub staged : AreStaged rows vs fs
    pub distinct : IsDistinct (assignments_of fs)
    pub known : IsKnown vs (assignments_of fs)
    pub agrees : counts ≡ false → Agrees (assignments_of es) ws → Agrees (assignments_of fs) vs
    pub same : counts ≡ false → assign (assignments ws) w ≡ assign (assignments_of es) w →
        assign (assignments vs) w ≡ assign (assignments_of fs) w

legal_entries : (w : World) (es : List Staged) →
    ((k : ℕ) → k < length es → IsLegal w (assignment_of_entry (entry_at es k))) →
    AreLegal w (assignments_of es)
legal_entries w [] h = tt
legal_entries w (e ∷ es) h = (h 0 (omega arith), legal_entries w es (λ k below. h (suc k) (omega (arith, below))))

-- What is staged of a Set that is under way may be written.
pub legal_staged : (w : World) (os : List ObjectState) (es : List Staged) (t n : ℕ) →
    IsUnderWay w os es t n → AreLegal w (assignments_of es)
legal_staged w os es t n u = legal_entries w es (λ k below.
    let there = u.reserved k below in
    record { key = there.reserved.key; value = there.reserved.value })

module _ (rows : List ObjectRow) (w : World) (ws : List NamedAssignment) (es : List Staged)
    (name : List ℕ) (p : ℕ) (slot : Slot)
    (owner : IsOwnerPlace (prefixes_of rows) name (Some p))
    (takes : AreLegal w (assignments_of es))
    (staged : AreStaged rows ws es) (distinct : IsDistinct (assignments_of es))
    (known : IsKnown ws (assignments_of es)) where
  abbrev pub a : Assignment
  a = record { key = slot.key; value = slot.value }

  abbrev pub x : NamedAssignment
  x = record { name = name; assignment = a }

  abbrev pub e : Staged
  e = record { object = p; slot = slot; number = suc (length ws) }

  entries-last : assignments_of (es ++ e ∷ []) ≡ assignments_of es ++ a ∷ []
  entries-last = map-append assignment_of_entry es (e ∷ [])

  pub entries_first : value_among (assignments_of es) slot.key ≡ None →
      AreLegal w (assignments_of (es ++ e ∷ [])) →
      Entries rows w ws es (ws ++ x ∷ []) (es ++ e ∷ []) false
  entries_first none legal = record {
    legal = legal;
    staged = staged_first rows ws es x staged e (known slot.key ∙ ap is_some none) refl refl owner;
    distinct = subst IsDistinct (sym entries-last) (distinct_last (assignments_of es) a distinct none);
    known = subst (IsKnown (ws ++ x ∷ [])) (sym entries-last) (known_first ws (assignments_of es) x known);
    agrees = λ counts before. subst (λ ps. Agrees ps (ws ++ x ∷ [])) (sym entries-last)
        (agrees_last (assignments_of es ++ a ∷ []) ws x (agrees_more (assignments_of es) ws a before) (value_last (assignments_of es) a none));
    same = λ counts before.
        ap (λ ps. assign ps w) (assignments-last ws x)
        ∙ assign-append (assignments ws) (a ∷ []) w
        ∙ ap (λ v. put v slot.key slot.value) before
        ∙ sym (assign-append (assignments_of es) (a ∷ []) w)
        ∙ ap (λ ps. assign ps w) (sym entries-last);
  }

  pub entries_again : (counts : Bool) →
      is_some (value_among (assignments_of es) slot.key) ≡ true →
      (counts ≡ false → value_among (assignments_of es) slot.key ≡ Some slot.value) →
      Entries rows w ws es (ws ++ x ∷ []) es counts
  entries_again counts there gives = record {
    legal = takes;
    staged = staged_again rows ws es x staged (known slot.key ∙ there);
    distinct = distinct;
    known = known_again ws (assignments_of es) x known there;
    agrees = λ none before. agrees_last (assignments_of es) ws x before (gives none);
    same = λ none before.
        ap (λ ps. assign ps w) (assignments-last ws x)
        ∙ assign-append (assignments ws) (a ∷ []) w
        ∙ ap (λ v. put v slot.key slot.value) before
        ∙ put_among (assignments_of es) w slot.key slot.value distinct takes (gives none);
  }

  pub entries_by : (st : Standing) →
      st ≡ standing_by (value_among (assignments_of es) slot.key) slot.value →
      AreLegal w (assignments_of (staged_by st es e)) →
      Entries rows w ws es (ws ++ x ∷ []) (staged_by st es e) (is_contradicting st)
  entries_by First is legal = entries_first (is_first (value_among (assignments_of es) slot.key) slot.value (sym is)) legal
  entries_by Repeats is legal =
      let gives = is_repeated (value_among (assignments_of es) slot.key) slot.value (sym is) in
      entries_again false (ap is_some gives) (λ none. gives)
  entries_by Contradicts is legal =
      entries_again true (is_contradicted (value_among (assignments_of es) slot.key) slot.value (sym is)) (λ none. absurd (cc))

module _ (rows : List ObjectRow) (w : World) (view : List ℕ) (bs : List Binding)
    (os ns : List ObjectState) (es fs : List Staged) (c t : Option ℕ) (i : ℕ) (d : Binding)
    (v : TestedVariable) (legal : AreLegal w (assignments_of fs))
    (below : i < length bs) (before : Stages rows w view bs os es c t i)
    (passed : IsPassed os ns w view i (get_or bs i d) es fs v) where
  abbrev b : Binding
  b = get_or bs i d

  abbrev written_now : NamedAssignment
  written_now = record { name = b.name; assignment = record { key = passed.slot.key; value = passed.slot.value } }

  rest : drop i bs ≡ b ∷ drop (suc i) bs
  rest = drop-cons bs i d below

  of_rows : {X : Type 0} (f : List ObjectRow → X) → f (rows_of os) ≡ f rows
  of_rows f = ap f before.kept

  assigned : assignment_for rows w b ≡ Ok written_now.assignment
  assigned =
      sym (of_rows (λ rs. assignment_for rs w b))
      ∙ assigned_ok os w view before.earlier b passed.place passed.slot passed.at.owner passed.at.answer

  fine : variable rows w view before.earlier b ≡ Ok written_now.assignment
  fine =
      sym (of_rows (λ rs. variable rs w view before.earlier b))
      ∙ variable_ok os w view before.earlier b passed.place passed.slot passed.seen (omega (arith, passed.space, before.count)) passed.at.owner
      (before.reserves passed.place (owner_within os b.name passed.place passed.at.owner)) passed.at.answer

  writings-rest : writings rows w (drop i bs) ≡ written_now ∷ writings rows w (drop (suc i) bs)
  writings-rest =
      ap (writings rows w) rest
      ∙ ap (λ r. writings_of b.name r ++ writings rows w (drop (suc i) bs)) assigned

  entries : Entries rows w before.earlier es (before.earlier ++ written_now ∷ []) fs (is_contradicting v.standing)
  entries =
      subst (λ zs. Entries rows w before.earlier es (before.earlier ++ written_now ∷ []) zs (is_contradicting v.standing)) (sym staged_now)
      (entries_by rows w before.earlier es b.name passed.place passed.slot
      (subst (λ rs. IsOwnerPlace (prefixes_of rs) b.name (Some passed.place)) before.kept passed.at.owner)
      before.legal
      before.staged before.distinct before.known
      v.standing passed.at.standing (subst (λ zs. AreLegal w (assignments_of zs)) staged_now legal))
    where
      number : i + 1 ≡ suc (length before.earlier)
      number = omega (arith, before.count)

      staged_now : fs ≡ staged_by v.standing es (record { object = passed.place; slot = passed.slot; number = suc (length before.earlier) })
      staged_now = passed.at.staged ∙ ap (λ n. staged_by v.standing es (record { object = passed.place; slot = passed.slot; number = n })) number

  contradicts_same : c ≡ None →
      is_contradicting v.standing ≡ contradicts (assignments before.earlier) written_now.assignment
  contradicts_same none =
      ap is_contradicting passed.at.standing
      ∙ sym (contradicts_is before.earlier (assignments_of es) written_now.assignment before.known (before.agrees none))

  pub stage_step : Stages rows w view bs ns fs (first_in c (cond (is_contradicting v.standing) (suc i ∷ []) [])) (first_in t (cond (is_timer v.key) (suc i ∷ []) [])) (suc i)
  stage_step = record {
    earlier = before.earlier ++ written_now ∷ [];
    all =
        before.all
        ∙ ap (λ zs. before.earlier ++ zs) writings-rest
        ∙ sym (append_assoc before.earlier (written_now ∷ []) (writings rows w (drop (suc i) bs)));
    count = omega (arith, before.count, length-append before.earlier (written_now ∷ []));
    single =
        sym (ap (single_refusals rows w view i before.earlier) rest
        ∙ ap (λ r. refusals_for (i + 1) r ++ single_refusals rows w view (i + 1) (before.earlier ++ writings_of b.name (assignment_for rows w b)) (drop (suc i) bs)) fine
        ∙ ap (λ r. single_refusals rows w view (i + 1) (before.earlier ++ writings_of b.name r) (drop (suc i) bs)) assigned
        ∙ ap (λ n. single_refusals rows w view n (before.earlier ++ written_now ∷ []) (drop (suc i) bs)) (add-one i))
        ∙ before.single;
    contradictions =
        first_in-append c (cond (is_contradicting v.standing) (suc i ∷ []) []) _
        ∙ first_same c _ _ (λ none.
        ap (λ (q : Bool). cond q (suc i ∷ []) [] ++ contradicting (assignments (before.earlier ++ written_now ∷ [])) (assignments (writings rows w (drop (suc i) bs)))) (contradicts_same none)
        ∙ ap (λ n. cond (contradicts (assignments before.earlier) written_now.assignment) (n ∷ []) [] ++ contradicting (assignments (before.earlier ++ written_now ∷ [])) (assignments (writings rows w (drop (suc i) bs)))) numbered
        ∙ ap (λ ps. cond (contradicts (assignments before.earlier) written_now.assignment) ((length (assignments before.earlier) + 1) ∷ []) [] ++ contradicting ps (assignments (writings rows w (drop (suc i) bs)))) (assignments-last before.earlier written_now)
        ∙ ap (λ zs. contradicting (assignments before.earlier) (assignments zs)) (sym writings-rest))
        ∙ before.contradictions;
    timers =
        first_in-append t (cond (is_timer v.key) (suc i ∷ []) []) _
        ∙ ap (λ k. first_in t (cond (is_timer k) (suc i ∷ []) [] ++ timer_numbers (suc (suc i)) (assignments (writings rows w (drop (suc i) bs))))) passed.at.key
        ∙ ap (λ n. first_in t (cond (is_timer passed.slot.key) (suc i ∷ []) [] ++ timer_numbers n (assignments (writings rows w (drop (suc i) bs))))) (sym (add-one (suc i)))
        ∙ ap (λ zs. first_in t (timer_numbers (suc i) (assignments zs))) (sym writings-rest)
        ∙ before.timers;
    kept = ap rows_of passed.at.reserved ∙ rows_of-set os passed.place (reserve (object_at os passed.place) passed.slot) refl ∙ before.kept;
    reserves = λ q h.
        ap (λ zs. (object_at zs q).reserved) passed.at.reserved
        ∙ reserves_more os passed.place passed.slot b.name before.earlier passed.at.owner before.reserves q (subst (λ zs. q < length zs) passed.at.reserved h)
        ∙ ap (λ zs. reserved_for (object_at zs q).row.prefix (before.earlier ++ written_now ∷ [])) (sym passed.at.reserved);
    legal = entries.legal;
    staged = entries.staged;
    distinct = entries.distinct;
    known = entries.known;
    agrees = λ none. entries.agrees (none_before c (is_contradicting v.standing) (suc i) none).1 (before.agrees (none_before c (is_contradicting v.standing) (suc i) none).0);
    same = λ none. entries.same (none_before c (is_contradicting v.standing) (suc i) none).1 (before.same (none_before c (is_contradicting v.standing) (suc i) none).0);
  }
    where
      numbered : suc i ≡ length (assignments before.earlier) + 1
      numbered = omega (arith, before.count, length-assignments before.earlier)
        where
          length-assignments : (ws : List NamedAssignment) → length (assignments ws) ≡ length ws
          length-assignments [] = refl
          length-assignments (y ∷ ws) = ap suc (length-assignments ws)

-- The variable at hand has a fault: the Set is refused for it.
pub stage_refused : (rows : List ObjectRow) (w : World) (view : List ℕ) (bs : List Binding)
    (os : List ObjectState) (es : List Staged) (c t : Option ℕ) (i : ℕ) (d : Binding)
    (fault : VariableFault) → i < length bs → Stages rows w view bs os es c t i →
    IsFaulty os w view i (get_or bs i d) fault →
    Some (refusal_for (i + 1) fault) ≡ slice_get (single_refusals rows w view 0 [] bs) 0
stage_refused rows w view bs os es c t i d fault below before faulty =
    sym (ap (λ zs. slice_get zs 0) (sym before.single
    ∙ ap (single_refusals rows w view i before.earlier) (drop-cons bs i d below)
    ∙ ap (λ r. refusals_for (i + 1) r ++ single_refusals rows w view (i + 1) (before.earlier ++ writings_of (get_or bs i d).name (assignment_for rows w (get_or bs i d))) (drop (suc i) bs))
    (sym (ap (λ rs. variable rs w view before.earlier (get_or bs i d)) before.kept)
    ∙ variable_err os w view before.earlier (get_or bs i d) fault before.reserves (λ p h. few os before.earlier p (before.reserves p h))
    (subst (λ n. IsFaulty os w view n (get_or bs i d) fault) (sym before.count) faulty))))

-- All variables passed.
pub stages_end : (rows : List ObjectRow) (w : World) (view : List ℕ) (bs : List Binding)
    (os : List ObjectState) (es : List Staged) (c t : Option ℕ) (i : ℕ) → length bs ≤ i →
    Stages rows w view bs os es c t i → ArePassed rows w view bs es c t
stages_end rows w view bs os es c t i done h = record {
  single = sym h.single ∙ ap (single_refusals rows w view i h.earlier) none;
  contradictions = found c ∙ ap (λ zs. first_in c (contradicting (assignments h.earlier) (assignments (writings rows w zs)))) (sym none) ∙ h.contradictions;
  timers = found t ∙ ap (λ zs. first_in t (timer_numbers (suc i) (assignments (writings rows w zs)))) (sym none) ∙ h.timers;
  distinct = h.distinct;
  legal = h.legal;
  staged = subst (λ ws. AreStaged rows ws es) (sym everything) h.staged;
  same = λ free. ap (λ ws. assign (assignments ws) w) everything ∙ h.same free;
}
  where
    past : {X : Type 0} (xs : List X) (n : ℕ) → length xs ≤ n → drop n xs ≡ []
    past [] zero h = refl
    past [] (suc n) h = refl
    past (x ∷ xs) zero h = absurd (omega (arith, h))
    past (x ∷ xs) (suc n) h = past xs n (omega (arith, h))

    none : drop i bs ≡ []
    none = past bs i done

    append_none : {X : Type 0} (xs : List X) → xs ++ [] ≡ xs
    append_none [] = refl
    append_none (x ∷ xs) = ap (λ ys. x ∷ ys) (append_none xs)

    everything : writings rows w bs ≡ h.earlier
    everything = h.all ∙ ap (λ zs. h.earlier ++ writings rows w zs) none ∙ append_none h.earlier

    found : (o : Option ℕ) → o ≡ first_in o []
    found None = refl
    found (Some n) = refl
