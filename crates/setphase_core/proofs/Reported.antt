-- What a Set reports: which variable a refusal or a failed commit is of, and by which family row a
-- name is not in the view.
use Rattle.std.proofs.Common.{◌≡◌, ◌↔◌, ℕ, ◌+◌, ◌≤◌, refl, arith, Bool, true, false, cond, List, [], ◌∷◌, ◌++◌, length, map, slice_get, Option, Some, None, Result, Ok, Err, IfSome, IsSome, length-append, nat_lt}
use Rattle.std.specs.List.{AllByRecursion}
use Rattle.std.proofs.lemmas.Option.{slice_get_within}
use Rattle.std.proofs.lemmas.List.{length-map}
use Rattle.message_core.specs.declared.binding.Binding.{Binding}
use Rattle.message_core.specs.declared.status.ErrorStatus.{ErrorStatus}
use Rattle.message_core.specs.declared.status.ErrorStatus.TheVariants as status
use Rattle.vacm_core.specs.declared.tables.FamilyRow.{FamilyRow}
use Rattle.vacm_core.specs.declared.verdict.FamilyAnswer.{FamilyAnswer}
use Rattle.vacm_core.specs.declared.verdict.FamilyAnswer.TheVariants.{Included, Excluded}
use Rattle.vacm_core.specs.Families.{by_type, by_family, family_answer, deciding_family, is_included, NamesFamilyOf}
use Rattle.setting_keys.specs.declared.SettingKey.{SettingKey}
use Rattle.setphase_core.specs.Settings.{bridge_keys}
use Rattle.setphase_core.specs.declared.limits.TheConstants.{MAX_VARIABLES}
use Rattle.setphase_core.specs.declared.object.Assignment.{Assignment}
use Rattle.setphase_core.specs.declared.object.SetFault.{SetFault}
use Rattle.setphase_core.specs.declared.object.SetFault.TheVariants as fault
use Rattle.setphase_core.specs.declared.sets.SetRefusal.{SetRefusal}
use Rattle.setphase_core.specs.declared.staging.VariableFault.{VariableFault}
use Rattle.setphase_core.specs.declared.staging.VariableFault.TheVariants.{NoAccess, Refused}
use Rattle.setphase_core.specs.declared.world.World.{World}
use Rattle.setphase_core.specs.Objects.{ObjectRow}
use Rattle.setphase_core.specs.Variables.{NamedAssignment, writings_of, writings, assignment_for, with_space, variable, status_of, refusal_for, refusals_for, single_refusals, object_of, written_by}
use Rattle.setphase_core.specs.Writing.{within_rows}
use Rattle.setphase_core.specs.Together.{assign, assignments, contradicts, contradicting, numbers_where, lacks_row, lacking_row, is_timer, timer_numbers, timers_agree, disagreeing, joint_refusal, joint_refusals, refusal_of}
use Rattle.setphase_core.specs.Outcomes.{SetNotes, CanFail, AreNotes}

-- ---- lists

all_append : {X : Type 0} (P : X → Type 0) (xs ys : List X) → AllByRecursion P xs →
    AllByRecursion P ys → AllByRecursion P (xs ++ ys)
all_append P [] ys h k = k
all_append P (x ∷ xs) ys h k = (h.0, all_append P xs ys h.1 k)

all_map : {X Y : Type 0} (f : X → Y) (P : Y → Type 0) (xs : List X) →
    AllByRecursion (λ x. P (f x)) xs → AllByRecursion P (map f xs)
all_map f P [] h = tt
all_map f P (x ∷ xs) h = (h.0, all_map f P xs h.1)

all_first : {X : Type 0} (P : X → Type 0) (xs : List X) → AllByRecursion P xs →
    IfSome (slice_get xs 0) P
all_first P [] h = tt
all_first P (x ∷ xs) h = h.0

-- one number, or none
all_where : (P : ℕ → Type 0) (b : Bool) (n : ℕ) → P n →
    AllByRecursion P (cond b (n ∷ []) [])
all_where P true n h = (h, tt)
all_where P false n h = tt

-- ---- numbers of variables

-- The number of one of n variables, counted from 1.
abbrev pub IsNumberOf : ℕ → ℕ → Type 0
IsNumberOf n i = (1 ≤ i) × (i ≤ n)

contradicting_within : (earlier ps : List Assignment) (n : ℕ) → length earlier + length ps ≤ n →
    AllByRecursion (IsNumberOf n) (contradicting earlier ps)
contradicting_within earlier [] n h = tt
contradicting_within earlier (a ∷ ps) n h =
    all_append (IsNumberOf n) (cond (contradicts earlier a) ((length earlier + 1) ∷ []) []) (contradicting (earlier ++ a ∷ []) ps)
    (all_where (IsNumberOf n) (contradicts earlier a) (length earlier + 1) (omega arith, omega (arith, h)))
    (contradicting_within (earlier ++ a ∷ []) ps n (omega (arith, h, length-append earlier (a ∷ []))))

numbers_within : (test : SettingKey → Bool) (first : ℕ) (ps : List Assignment) (n : ℕ) → 1 ≤ first →
    first + length ps ≤ n + 1 → AllByRecursion (IsNumberOf n) (numbers_where test first ps)
numbers_within test first [] n least h = tt
numbers_within test first (a ∷ ps) n least h =
    all_append (IsNumberOf n) (cond (test a.key) (first ∷ []) []) (numbers_where test (first + 1) ps)
    (all_where (IsNumberOf n) (test a.key) first (least, omega (arith, h)))
    (numbers_within test (first + 1) ps n (omega arith) (omega (arith, h)))

lacking_within : (w : World) (ps : List Assignment) (n : ℕ) → length ps ≤ n →
    AllByRecursion (IsNumberOf n) (lacking_row w ps)
lacking_within w ps n h = numbers_within (lacks_row (assign ps w)) 1 ps n (omega arith) (omega (arith, h))

disagreeing_within : (ps : List Assignment) (b : Bool) (n : ℕ) → length ps ≤ n →
    AllByRecursion (IsNumberOf n) (cond b [] (timer_numbers 1 ps))
disagreeing_within ps true n h = tt
disagreeing_within ps false n h = numbers_within is_timer 1 ps n (omega arith) (omega (arith, h))

written_most : (name : List ℕ) (r : Result Assignment SetFault) → length (writings_of name r) ≤ 1
written_most name (Ok a) = omega arith
written_most name (Err f) = omega arith

-- No more variables write than there are.
pub writings_most : (rows : List ObjectRow) (w : World) (bs : List Binding) →
    length (writings rows w bs) ≤ length bs
writings_most rows w [] = omega arith
writings_most rows w (b ∷ bs) =
    omega (arith, length-append (writings_of b.name (assignment_for rows w b)) (writings rows w bs), written_most b.name (assignment_for rows w b), writings_most rows w bs)

-- ---- the refusal

single_numbered : (n i : ℕ) (r : Result Assignment VariableFault) → IsNumberOf n i →
    AllByRecursion (λ (r : SetRefusal). IsNumberOf n r.index) (refusals_for i r)
single_numbered n i (Ok a) h = tt
single_numbered n i (Err (NoAccess answer)) h = (h, tt)
single_numbered n i (Err (Refused f)) h = (h, tt)

singles_numbered : (rows : List ObjectRow) (w : World) (view : List ℕ) (before : ℕ)
    (earlier : List NamedAssignment) (bs : List Binding) (n : ℕ) → before + length bs ≤ n →
    AllByRecursion (λ (r : SetRefusal). IsNumberOf n r.index) (single_refusals rows w view before earlier bs)
singles_numbered rows w view before earlier [] n h = tt
singles_numbered rows w view before earlier (b ∷ bs) n h =
    let more : List NamedAssignment = earlier ++ writings_of b.name (assignment_for rows w b) in
    all_append (λ (r : SetRefusal). IsNumberOf n r.index) (refusals_for (before + 1) (variable rows w view earlier b)) (single_refusals rows w view (before + 1) more bs)
    (single_numbered n (before + 1) (variable rows w view earlier b) (omega arith, omega (arith, h)))
    (singles_numbered rows w view (before + 1) more bs n (omega (arith, h)))

joint_numbered : (s : ErrorStatus) (numbers : List ℕ) (n : ℕ) → AllByRecursion (IsNumberOf n) numbers →
    AllByRecursion (λ (r : SetRefusal). IsNumberOf n r.index) (map (joint_refusal s) numbers)
joint_numbered s numbers n h = all_map (joint_refusal s) (λ (r : SetRefusal). IsNumberOf n r.index) numbers h

joints_numbered : (w : World) (ps : List Assignment) (n : ℕ) → length ps ≤ n →
    AllByRecursion (λ (r : SetRefusal). IsNumberOf n r.index) (joint_refusals w ps)
joints_numbered w ps n h =
    let value : ℕ → SetRefusal = joint_refusal status.InconsistentValue in
    let name : ℕ → SetRefusal = joint_refusal status.InconsistentName in
    all_append (λ (r : SetRefusal). IsNumberOf n r.index) (map value (contradicting [] ps) ++ map name (lacking_row w ps)) (map value (disagreeing w ps))
    (all_append (λ (r : SetRefusal). IsNumberOf n r.index) (map value (contradicting [] ps)) (map name (lacking_row w ps))
    (joint_numbered status.InconsistentValue (contradicting [] ps) n (contradicting_within [] ps n (omega (arith, h))))
    (joint_numbered status.InconsistentName (lacking_row w ps) n (lacking_within w ps n h)))
    (joint_numbered status.InconsistentValue (disagreeing w ps) n (disagreeing_within ps (timers_agree (assign ps w)) n h))

-- A refusal is of one of the variables.
pub refusal_numbered : (rows : List ObjectRow) (w : World) (view : List ℕ) (bs : List Binding) →
    IfSome (refusal_of rows w view bs) (λ (r : SetRefusal). (1 ≤ r.index) × (r.index ≤ length bs))
refusal_numbered rows w view bs =
    all_first (λ (r : SetRefusal). IsNumberOf (length bs) r.index) (single_refusals rows w view 0 [] bs ++ joint_refusals w (assignments (writings rows w bs)))
    (all_append (λ (r : SetRefusal). IsNumberOf (length bs) r.index) (single_refusals rows w view 0 [] bs) (joint_refusals w (assignments (writings rows w bs)))
    (singles_numbered rows w view 0 [] bs (length bs) (omega arith))
    (joints_numbered w (assignments (writings rows w bs)) (length bs) (omega (arith, length-map (writings rows w bs) (λ (x : NamedAssignment). x.assignment), writings_most rows w bs))))

-- ---- the failed commit

can_fail_within : (ws : List NamedAssignment) (commit : Option ℕ) (undos : List SettingKey) (n : ℕ) → length ws ≤ n →
    CanFail ws commit undos → IfSome commit (λ i. (1 ≤ i) × (i ≤ n))
can_fail_within ws None undos n h can = tt
can_fail_within ws (Some i) undos n h can = (can.0, omega (arith, h, can.1))

-- A commit that failed is of one of the variables.
pub failed_numbered : (rows : List ObjectRow) (w : World) (bs : List Binding) (notes : SetNotes) →
    AreNotes (writings rows w bs) notes → IfSome notes.commit (λ i. (1 ≤ i) × (i ≤ length bs))
failed_numbered rows w bs notes are =
    can_fail_within (writings rows w bs) notes.commit (bridge_keys notes.undos) (length bs) (writings_most rows w bs) are

-- ---- the family row

-- What is known of a refusal's family row.
pub record NamesFamily (families : List FamilyRow) (r : SetRefusal) : Type 0 where
  pub row : IfSome r.family (NamesFamilyOf families)
  pub reported : r.status ≡ status.NoAccess → IsSome r.family
  pub alone : IsSome r.family → r.status ≡ status.NoAccess

row_named : (families : List FamilyRow) (n : ℕ) (row : Option FamilyRow) →
    slice_get families n ≡ row → NamesFamilyOf families (by_type n row)
row_named families n None e = tt
row_named families n (Some row) e = included row.included where
  included : (b : Bool) → NamesFamilyOf families (cond b (Included n) (Excluded n))
  included true = slice_get_within families n row e
  included false = slice_get_within families n row e

family_named : (families : List FamilyRow) (place : Option ℕ) →
    NamesFamilyOf families (by_family families place)
family_named families None = tt
family_named families (Some n) = row_named families n (slice_get families n) refl

-- A fault of an object is never reported as noAccess.
other_status : (f : SetFault) → status_of f ≡ status.NoAccess → ⊥
other_status fault.NotWritable e = cc
other_status fault.WrongType e = cc
other_status fault.WrongLength e = cc
other_status fault.WrongValue e = cc
other_status fault.NoCreation e = cc
other_status fault.InconsistentName e = cc
other_status fault.InconsistentValue e = cc
other_status fault.ResourceUnavailable e = cc

no_some : false ≡ true → ⊥
no_some e = cc

faulty_decides : (families : List FamilyRow) (i : ℕ) (f : SetFault) →
    NamesFamily families (refusal_for i (Refused f))
faulty_decides families i f =
    record { row = tt; reported = λ e. absurd (other_status f e); alone = λ h. absurd (no_some h) }

with_space_decides : (families : List FamilyRow) (i : ℕ) (before : List NamedAssignment) (r : Result Assignment SetFault) →
    AllByRecursion (NamesFamily families) (refusals_for i (with_space before r))
with_space_decides families i before (Err f) = (faulty_decides families i f, tt)
with_space_decides families i before (Ok a) = by_place (nat_lt (length before) MAX_VARIABLES) where
  by_place : (b : Bool) → AllByRecursion (NamesFamily families)
      (refusals_for i (cond b (Ok a) (Err (Refused fault.ResourceUnavailable))))
  by_place true = tt
  by_place false = (faulty_decides families i fault.ResourceUnavailable, tt)

answer_decides : (families : List FamilyRow) (i : ℕ) (before : List NamedAssignment)
    (r : Result Assignment SetFault) (b : Bool) (answer : FamilyAnswer) → NamesFamilyOf families answer →
    AllByRecursion (NamesFamily families)
    (refusals_for i (cond b (with_space before r) (Err (NoAccess answer))))
answer_decides families i before r true answer named = with_space_decides families i before r
answer_decides families i before r false answer named =
    (record { row = named; reported = λ e. refl; alone = λ h. refl }, tt)

singles_decide : (rows : List ObjectRow) (w : World) (view : List ℕ) (before : ℕ)
    (earlier : List NamedAssignment) (bs : List Binding) → AllByRecursion (NamesFamily w.policy.vacm.families)
    (single_refusals rows w view before earlier bs)
singles_decide rows w view before earlier [] = tt
singles_decide rows w view before earlier (b ∷ bs) =
    let more : List NamedAssignment = earlier ++ writings_of b.name (assignment_for rows w b) in
    let families = w.policy.vacm.families in
    let answer = family_answer families view b.name in
    all_append (NamesFamily families) (refusals_for (before + 1) (variable rows w view earlier b)) (single_refusals rows w view (before + 1) more bs)
    (answer_decides families (before + 1) earlier (within_rows w (written_by (object_of rows b.name) earlier) (assignment_for rows w b)) (is_included answer) answer (family_named families (deciding_family families view b.name)))
    (singles_decide rows w view (before + 1) more bs)

joint_decides : (families : List FamilyRow) (s : ErrorStatus) (numbers : List ℕ) → (s ≡ status.NoAccess → ⊥) →
    AllByRecursion (NamesFamily families) (map (joint_refusal s) numbers)
joint_decides families s [] other = tt
joint_decides families s (i ∷ numbers) other = (
  record { row = tt; reported = λ e. absurd (other e); alone = λ h. absurd (no_some h) },
  joint_decides families s numbers other,
)

joints_decide : (families : List FamilyRow) (w : World) (ps : List Assignment) →
    AllByRecursion (NamesFamily families) (joint_refusals w ps)
joints_decide families w ps =
    let value : ℕ → SetRefusal = joint_refusal status.InconsistentValue in
    let name : ℕ → SetRefusal = joint_refusal status.InconsistentName in
    all_append (NamesFamily families) (map value (contradicting [] ps) ++ map name (lacking_row w ps)) (map value (disagreeing w ps))
    (all_append (NamesFamily families) (map value (contradicting [] ps)) (map name (lacking_row w ps))
    (joint_decides families status.InconsistentValue (contradicting [] ps) (other_status fault.InconsistentValue))
    (joint_decides families status.InconsistentName (lacking_row w ps) (other_status fault.InconsistentName)))
    (joint_decides families status.InconsistentValue (disagreeing w ps) (other_status fault.InconsistentValue))

refusal_decides : (rows : List ObjectRow) (w : World) (view : List ℕ) (bs : List Binding) →
    IfSome (refusal_of rows w view bs) (NamesFamily w.policy.vacm.families)
refusal_decides rows w view bs =
    let families = w.policy.vacm.families in
    let ps = assignments (writings rows w bs) in
    all_first (NamesFamily families) (single_refusals rows w view 0 [] bs ++ joint_refusals w ps)
    (all_append (NamesFamily families) (single_refusals rows w view 0 [] bs) (joint_refusals w ps)
    (singles_decide rows w view 0 [] bs)
    (joints_decide families w ps))

if_some : {X : Type 0} (P Q : X → Type 0) (o : Option X) → ((x : X) → P x → Q x) → IfSome o P → IfSome o Q
if_some P Q None f h = tt
if_some P Q (Some x) f h = f x h

-- The family row that a refusal names is one of the view's table.
pub refusal_family : (rows : List ObjectRow) (w : World) (view : List ℕ) (bs : List Binding) →
    IfSome (refusal_of rows w view bs) (λ (r : SetRefusal). IfSome r.family (λ answer. NamesFamilyOf w.policy.vacm.families answer))
refusal_family rows w view bs =
    if_some (NamesFamily w.policy.vacm.families) (λ (r : SetRefusal). IfSome r.family (NamesFamilyOf w.policy.vacm.families)) (refusal_of rows w view bs) (λ r h. h.row) (refusal_decides rows w view bs)

-- A refusal reports of a family row exactly where it is for noAccess.
pub refusal_no_access : (rows : List ObjectRow) (w : World) (view : List ℕ) (bs : List Binding) →
    IfSome (refusal_of rows w view bs) (λ (r : SetRefusal). (r.status ≡ status.NoAccess) ↔ IsSome r.family)
refusal_no_access rows w view bs =
    if_some (NamesFamily w.policy.vacm.families) (λ (r : SetRefusal). (r.status ≡ status.NoAccess) ↔ IsSome r.family) (refusal_of rows w view bs) (λ r h. (h.reported, h.alone)) (refusal_decides rows w view bs)
