-- What a variable that passed writes, and why one that did not pass is refused.
use Rattle.std.proofs.Common.{◌≡◌, ℕ, zero, suc, ◌<◌, ◌≤◌, ◌∙◌, sym, ap, refl, Bool, true, false, cond, nat_lt, not, ◌&&◌, List, [], ◌∷◌, map, length, drop, Some, None, Result, Ok, Err, arith, ◌⊎◌, inl, inr}
use Rattle.std.proofs.lemmas.Bool.Decides.{nat_tests}
use Rattle.message_core.specs.declared.binding.Binding.{Binding}
use Rattle.vacm_core.specs.Families.{family_answer, in_view, is_included}
use Rattle.vacm_core.specs.declared.verdict.FamilyAnswer.{FamilyAnswer}
use Rattle.setphase_core.specs.declared.limits.TheConstants.{MAX_SLOTS, MAX_VARIABLES}
use Rattle.setphase_core.specs.declared.object.Assignment.{Assignment}
use Rattle.setphase_core.specs.declared.object.Reservation.{Reservation}
use Rattle.setphase_core.specs.declared.object.SetFault.{SetFault}
use Rattle.setphase_core.specs.declared.object.SetFault.TheVariants.{NotWritable, ResourceUnavailable}
use Rattle.setphase_core.specs.declared.object.Slot.{Slot}
use Rattle.setphase_core.specs.declared.staging.VariableFault.{VariableFault}
use Rattle.setphase_core.specs.declared.staging.VariableFault.TheVariants.{NoAccess, Refused}
use Rattle.setphase_core.specs.declared.world.World.{World}
use Rattle.setphase_core.specs.Objects.{ObjectState}
use Rattle.setphase_core.specs.Registry.{rows_of, prefixes_of}
use Rattle.setphase_core.specs.Searching.{IsOwnerPlace}
use Rattle.setphase_core.specs.Staging.{object_at}
use Rattle.setphase_core.specs.Tested.{answer_at, IsFaulty}
use Rattle.setphase_core.specs.Variables.{NamedAssignment, written_under, written_by, object_of, assignment_in, assignment_for, with_space, in_answer, variable}
use Rattle.setphase_core.specs.Writing.{assignment_of, makes_row, has_rows_left, within_rows, assignments_in, next_slot}

-- ---- the object of a name

pub owner_row : (os : List ObjectState) (name : List ℕ) (p : ℕ) →
    IsOwnerPlace (prefixes_of (rows_of os)) name (Some p) →
    object_of (rows_of os) name ≡ Some (object_at os p).row
owner_row [] name p (within, begins, others) = absurd (omega (arith, within))
owner_row (o ∷ os) name zero (within, begins, others) = rw begins refl
owner_row (o ∷ os) name (suc p) (within, begins, others) =
    rw (others 0 (omega arith) (omega arith))
    (owner_row os name p (omega (arith, within), begins, λ k below other. others (suc k) (omega (arith, below)) (λ e. other (omega (arith, e)))))

pub no_owner_row : (os : List ObjectState) (name : List ℕ) →
    IsOwnerPlace (prefixes_of (rows_of os)) name None → object_of (rows_of os) name ≡ None
no_owner_row [] name none = refl
no_owner_row (o ∷ os) name none =
    rw (none 0 (omega arith)) (no_owner_row os name (λ k below. none (suc k) (omega (arith, below))))

-- The place of the object of a name is one of theirs.
pub owner_within : (os : List ObjectState) (name : List ℕ) (p : ℕ) →
    IsOwnerPlace (prefixes_of (rows_of os)) name (Some p) → p < length os
owner_within os name p owner = omega (arith, owner.0, places os)
  where
    places : (os : List ObjectState) → length (prefixes_of (rows_of os)) ≡ length os
    places [] = refl
    places (o ∷ os) = ap suc (places os)

-- ---- places

-- What was placed is what was to be, at the next place.
pub record IsPlacedAs (r : Result Assignment SetFault) (reserved : List Reservation)
    (slot : Slot) : Type 0 where
  pub assigned : r ≡ Ok (record { key = slot.key; value = slot.value })
  pub place : slot.place ≡ length reserved

-- What passed the limit of rows was to be written.
pub within_ok : (w : World) (earlier : List Assignment) (r : Result Assignment SetFault) (a : Assignment) →
    within_rows w earlier r ≡ Ok a → r ≡ Ok a
within_ok w earlier (Err f) a e = absurd (cc)
within_ok w earlier (Ok b) a e = pick (makes_row w b.key b.value && not (has_rows_left w (b ∷ earlier))) e
  where
    pick : (t : Bool) → cond {A = Result Assignment SetFault} t (Err ResourceUnavailable) (Ok b) ≡ Ok a →
        ◌≡◌ {A = Result Assignment SetFault} (Ok b) (Ok a)
    pick true e = absurd (cc)
    pick false e = e

placed_as : (a : Assignment) (reserved : List Reservation) (slot : Slot) (b : Bool) →
    cond {A = Result Slot SetFault} b (Ok (record { key = a.key; value = a.value; place = length reserved })) (Err ResourceUnavailable) ≡ Ok slot →
    IsPlacedAs (Ok a) reserved slot
placed_as a reserved slot true e =
    let same : record { key = a.key; value = a.value; place = length reserved } ≡ slot = cc in
    record {
      assigned = ap (λ (s : Slot). Ok (record { key = s.key; value = s.value })) same;
      place = ap (λ (s : Slot). s.place) (sym same);
    }
placed_as a reserved slot false e = absurd (cc)

pub placed_ok : (r : Result Assignment SetFault) (reserved : List Reservation) (slot : Slot) →
    next_slot reserved r ≡ Ok slot → IsPlacedAs r reserved slot
placed_ok (Ok a) reserved slot e = placed_as a reserved slot (nat_lt (length reserved) MAX_SLOTS) e
placed_ok (Err f) reserved slot e = absurd (cc)

-- Why a slot was not placed: a fault, or all places were taken.
full_or_not : (a : Assignment) (reserved : List Reservation) (f : SetFault) (b : Bool) →
    nat_lt (length reserved) MAX_SLOTS ≡ b →
    cond {A = Result Slot SetFault} b (Ok (record { key = a.key; value = a.value; place = length reserved })) (Err ResourceUnavailable) ≡ Err f →
    (f ≡ ResourceUnavailable) × (MAX_SLOTS ≤ length reserved)
full_or_not a reserved f true is e = absurd (cc)
full_or_not a reserved f false is e = (cc, grind (arith, nat_tests, is))

with_none_left : (a : Assignment) (before : List NamedAssignment) → MAX_VARIABLES ≤ length before →
    with_space before (Ok a) ≡ Err (Refused ResourceUnavailable)
with_none_left a before full =
    let none : nat_lt (length before) MAX_VARIABLES ≡ false = grind (arith, nat_tests, full) in rw none refl

with_some_left : (a : Assignment) (before : List NamedAssignment) → length before < MAX_VARIABLES →
    with_space before (Ok a) ≡ Ok a
with_some_left a before space =
    let some : nat_lt (length before) MAX_VARIABLES ≡ true = grind (arith, nat_tests, space) in rw some refl

refused_by : (r : Result Assignment SetFault) (reserved : List Reservation) (before : List NamedAssignment)
    (f : SetFault) → length reserved ≤ length before → next_slot reserved r ≡ Err f →
    with_space before r ≡ Err (Refused f)
refused_by (Err g) reserved before f few e = ap (λ (h : SetFault). Err (Refused h)) (same e)
  where
    same : ◌≡◌ {A = Result Slot SetFault} (Err g) (Err f) → g ≡ f
    same e = cc
refused_by (Ok a) reserved before f few e =
    let full = full_or_not a reserved f (nat_lt (length reserved) MAX_SLOTS) refl e in
    with_none_left a before (omega (arith, full.1, few)) ∙ ap (λ (h : SetFault). Err (Refused h)) (sym full.0)

-- ---- slots that are reserved

-- What an object of this name has reserved: what the variables under it write, in their order.
abbrev pub reserved_for : List ℕ → List NamedAssignment → List Reservation
reserved_for prefix ws =
    map (λ x. record { key = x.assignment.key; value = x.assignment.value; old = None }) (written_under prefix ws)

written_in : (xs : List NamedAssignment) →
    assignments_in (map (λ x. record { key = x.assignment.key; value = x.assignment.value; old = None }) xs)
    ≡ map (λ x. x.assignment) xs
written_in [] = refl
written_in (x ∷ xs) = ap (λ ps. x.assignment ∷ ps) (written_in xs)

-- ---- variables

module _ (os : List ObjectState) (w : World) (view : List ℕ) (before : List NamedAssignment) (b : Binding) where
  -- What the object at the place of a variable's name writes is what the variable writes.
  at_owner : (p : ℕ) → IsOwnerPlace (prefixes_of (rows_of os)) b.name (Some p) →
      assignment_for (rows_of os) w b
      ≡ assignment_of (object_at os p).row.column w (drop (length (object_at os p).row.prefix) b.name) b.value
  at_owner p owner = ap (λ row. assignment_in row w b) (owner_row os b.name p owner)

  -- What the object at the place answers is what the variable writes behind the earlier ones of it.
  answer_is : (p : ℕ) → IsOwnerPlace (prefixes_of (rows_of os)) b.name (Some p) →
      (object_at os p).reserved ≡ reserved_for (object_at os p).row.prefix before →
      answer_at os p w b
      ≡ next_slot (object_at os p).reserved (within_rows w (written_by (object_of (rows_of os) b.name) before) (assignment_for (rows_of os) w b))
  answer_is p owner reserved =
      ap (next_slot (object_at os p).reserved)
      (ap (λ ps. within_rows w ps (assignment_of (object_at os p).row.column w (drop (length (object_at os p).row.prefix) b.name) b.value))
      (ap assignments_in reserved ∙ written_in (written_under (object_at os p).row.prefix before) ∙ ap (λ row. written_by row before) (sym (owner_row os b.name p owner)))
      ∙ ap (within_rows w (written_by (object_of (rows_of os) b.name) before)) (sym (at_owner p owner)))

  pub assigned_ok : (p : ℕ) (slot : Slot) →
      IsOwnerPlace (prefixes_of (rows_of os)) b.name (Some p) → answer_at os p w b ≡ Ok slot →
      assignment_for (rows_of os) w b ≡ Ok (record { key = slot.key; value = slot.value })
  assigned_ok p slot owner answer =
      at_owner p owner
      ∙ within_ok w (assignments_in (object_at os p).reserved) _ _ (placed_ok _ (object_at os p).reserved slot answer).assigned

  within_too : (p : ℕ) (slot : Slot) →
      IsOwnerPlace (prefixes_of (rows_of os)) b.name (Some p) →
      (object_at os p).reserved ≡ reserved_for (object_at os p).row.prefix before →
      answer_at os p w b ≡ Ok slot →
      within_rows w (written_by (object_of (rows_of os) b.name) before) (assignment_for (rows_of os) w b)
      ≡ Ok (record { key = slot.key; value = slot.value })
  within_too p slot owner reserved answer =
      (placed_ok _ (object_at os p).reserved slot (sym (answer_is p owner reserved) ∙ answer)).assigned

  seen_through : (r : Result Assignment VariableFault) →
      in_view w.policy.vacm.families view b.name ≡ true →
      in_answer (family_answer w.policy.vacm.families view b.name) r ≡ r
  seen_through r seen = rw seen refl

  pub variable_ok : (p : ℕ) (slot : Slot) → in_view w.policy.vacm.families view b.name ≡ true →
      length before < MAX_VARIABLES → IsOwnerPlace (prefixes_of (rows_of os)) b.name (Some p) →
      (object_at os p).reserved ≡ reserved_for (object_at os p).row.prefix before →
      answer_at os p w b ≡ Ok slot →
      variable (rows_of os) w view before b ≡ Ok (record { key = slot.key; value = slot.value })
  variable_ok p slot seen space owner reserved answer =
      seen_through _ seen
      ∙ ap (with_space before) (within_too p slot owner reserved answer)
      ∙ with_some_left _ before space

  pub variable_err : (fault : VariableFault) →
      ((p : ℕ) → p < length os → (object_at os p).reserved ≡ reserved_for (object_at os p).row.prefix before) →
      ((p : ℕ) → p < length os → length (object_at os p).reserved ≤ length before) →
      IsFaulty os w view (length before) b fault → variable (rows_of os) w view before b ≡ Err fault
  variable_err (NoAccess answer) all few (is, hidden) =
      rw (ap is_included (sym is) ∙ hidden) (ap (λ (a : FamilyAnswer). Err (NoAccess a)) (sym is))
  variable_err (Refused f) all few (seen, why) = seen_through _ seen ∙ because why
    where
      because : ((f ≡ NotWritable) × IsOwnerPlace (prefixes_of (rows_of os)) b.name None)
          ⊎ ((p : ℕ) × IsOwnerPlace (prefixes_of (rows_of os)) b.name (Some p)
          × ((answer_at os p w b ≡ Err f)
          ⊎ ((f ≡ ResourceUnavailable) × (MAX_VARIABLES ≤ length before)
          × ((slot : Slot) × (answer_at os p w b ≡ Ok slot))))) →
          with_space before (within_rows w (written_by (object_of (rows_of os) b.name) before) (assignment_for (rows_of os) w b)) ≡ Err (Refused f)
      because (inl (is, none)) =
          ap (λ row. with_space before (within_rows w (written_by row before) (assignment_in row w b))) (no_owner_row os b.name none)
          ∙ ap (λ (h : SetFault). Err (Refused h)) (sym is)
      because (inr (p, owner, inl answer)) =
          let within : p < length os = owner_within os b.name p owner in
          refused_by _ (object_at os p).reserved before f (few p within) (sym (answer_is p owner (all p within)) ∙ answer)
      because (inr (p, owner, inr (is, full, (slot, answer)))) =
          ap (with_space before) (within_too p slot owner (all p (owner_within os b.name p owner)) answer)
          ∙ with_none_left _ before full
          ∙ ap (λ (h : SetFault). Err (Refused h)) (sym is)
