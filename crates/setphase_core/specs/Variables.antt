-- The variables of a Set one by one: what each writes, or its first fault (RFC 3416, 4.2.5).
use Rattle.std.specs.Prelude.{ℕ, ◌+◌, nat_lt, if◌then◌else◌, List, [], ◌∷◌, ◌++◌, length, map, drop, filter, find, Option, Some, None, Result, Ok, Err}
use Rattle.std.specs.List.{flat_map}
use Rattle.oid_core.specs.Order.{is_prefix}
use Rattle.message_core.specs.declared.binding.Binding.{Binding}
use Rattle.message_core.specs.declared.status.ErrorStatus.{ErrorStatus}
use Rattle.message_core.specs.declared.status.ErrorStatus.TheVariants as status
use Rattle.vacm_core.specs.Families.{family_answer, is_included}
use Rattle.vacm_core.specs.declared.verdict.FamilyAnswer.{FamilyAnswer}
use Rattle.setphase_core.specs.declared.world.World.{World}
use Rattle.setphase_core.specs.declared.limits.TheConstants.{MAX_VARIABLES}
use Rattle.setphase_core.specs.declared.object.Assignment.{Assignment}
use Rattle.setphase_core.specs.declared.object.SetFault.{SetFault}
use Rattle.setphase_core.specs.declared.object.SetFault.TheVariants as fault
use Rattle.setphase_core.specs.declared.sets.SetRefusal.{SetRefusal}
use Rattle.setphase_core.specs.declared.staging.VariableFault.{VariableFault}
use Rattle.setphase_core.specs.declared.staging.VariableFault.TheVariants.{NoAccess, Refused}
use Rattle.setphase_core.specs.Objects.{ObjectRow}
use Rattle.setphase_core.specs.Writing.{assignment_of, within_rows}

-- The object of a name: its own name begins it.
abbrev pub object_of : List ObjectRow → List ℕ → Option ObjectRow
object_of rows name = find (λ row. is_prefix row.prefix name) rows

-- What a variable writes, by its object. One that no object has is not writable.
abbrev pub assignment_in : Option ObjectRow → World → Binding → Result Assignment SetFault
assignment_in None w b = Err fault.NotWritable
assignment_in (Some row) w b = assignment_of row.column w (drop (length row.prefix) b.name) b.value

abbrev pub assignment_for : List ObjectRow → World → Binding → Result Assignment SetFault
assignment_for rows w b = assignment_in (object_of rows b.name) w b

-- What the variable of a name writes.
pub record NamedAssignment : Type 0 where
  pub name : List ℕ
  pub assignment : Assignment

abbrev pub writings_of : List ℕ → Result Assignment SetFault → List NamedAssignment
writings_of name (Ok a) = record { name = name; assignment = a } ∷ []
writings_of name (Err f) = []

-- Of these those of the variables of one object: its name begins theirs.
abbrev pub written_under : List ℕ → List NamedAssignment → List NamedAssignment
written_under prefix ws = filter (λ x. is_prefix prefix x.name) ws

-- A Set has space for so many variables: one behind as many others, that passed the rest, has none.
abbrev pub with_space : List NamedAssignment → Result Assignment SetFault → Result Assignment VariableFault
with_space earlier (Err f) = Err (Refused f)
with_space earlier (Ok a) =
    if nat_lt (length earlier) MAX_VARIABLES then Ok a else Err (Refused fault.ResourceUnavailable)

-- A variable whose name is not in the view is not examined.
abbrev pub in_answer : FamilyAnswer → Result Assignment VariableFault →
    Result Assignment VariableFault
in_answer answer seen = if is_included answer then seen else Err (NoAccess answer)

-- Of what earlier variables write, what those of this object do.
abbrev pub written_by : Option ObjectRow → List NamedAssignment → List Assignment
written_by None earlier = []
written_by (Some row) earlier = map (λ x. x.assignment) (written_under row.prefix earlier)

-- What a variable writes behind others that write this, or its first fault.
abbrev pub variable : List ObjectRow → World → List ℕ → List NamedAssignment → Binding →
    Result Assignment VariableFault
variable rows w view earlier b =
    in_answer (family_answer w.policy.vacm.families view b.name)
    (with_space earlier
    (within_rows w (written_by (object_of rows b.name) earlier) (assignment_for rows w b)))

-- The error-status of a fault (RFC 3416, section 3).
abbrev pub status_of : SetFault → ErrorStatus
status_of fault.NotWritable = status.NotWritable
status_of fault.WrongType = status.WrongType
status_of fault.WrongLength = status.WrongLength
status_of fault.WrongValue = status.WrongValue
status_of fault.NoCreation = status.NoCreation
status_of fault.InconsistentName = status.InconsistentName
status_of fault.InconsistentValue = status.InconsistentValue
status_of fault.ResourceUnavailable = status.ResourceUnavailable

-- The refusal of a Set for the fault of the variable of this number, counted from 1.
abbrev pub refusal_for : ℕ → VariableFault → SetRefusal
refusal_for i (NoAccess answer) =
    record { status = status.NoAccess; index = i; family = Some answer }
refusal_for i (Refused f) = record { status = status_of f; index = i; family = None }

abbrev pub refusals_for : ℕ → Result Assignment VariableFault → List SetRefusal
refusals_for i (Ok a) = []
refusals_for i (Err f) = refusal_for i f ∷ []

-- The refusals for the faults of variables that stand behind so many others, which write this, by
-- rising number.
abbrev pub single_refusals : List ObjectRow → World → List ℕ → ℕ → List NamedAssignment →
    List Binding → List SetRefusal
single_refusals rows w view before earlier [] = []
single_refusals rows w view before earlier (b ∷ bs) =
    refusals_for (before + 1) (variable rows w view earlier b)
    ++ single_refusals rows w view (before + 1)
    (earlier ++ writings_of b.name (assignment_for rows w b)) bs

-- What the variables of a Set write, in their order.
abbrev pub writings : List ObjectRow → World → List Binding → List NamedAssignment
writings rows w bs = flat_map (λ b. writings_of b.name (assignment_for rows w b)) bs
