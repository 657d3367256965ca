-- What is staged of the variables that passed their tests.
use Rattle.std.specs.Prelude.{◌≡◌, ℕ, ◌+◌, ◌-◌, ◌<◌, ◌≤◌, ◌⊎◌, Bool, true, false, if◌then◌else◌, List, [], ◌∷◌, ◌++◌, length, take, drop, slice_get, slice_set, Option, Some, None, Result, Ok, Err}
use Rattle.std.specs.Option.{option_map}
use Rattle.message_core.specs.declared.binding.Binding.{Binding}
use Rattle.message_core.specs.declared.status.ErrorStatus.TheVariants as status
use Rattle.setting_keys.specs.declared.SettingKey.{SettingKey}
use Rattle.setting_keys.specs.declared.SettingValue.{SettingValue}
use Rattle.setphase_core.specs.declared.world.World.{World}
use Rattle.setphase_core.specs.declared.object.Assignment.{Assignment}
use Rattle.setphase_core.specs.declared.object.SetFault.{SetFault}
use Rattle.setphase_core.specs.declared.object.SetFault.TheVariants.{NotWritable, ResourceUnavailable}
use Rattle.setphase_core.specs.declared.object.Slot.{Slot}
use Rattle.setphase_core.specs.declared.sets.SetRefusal.{SetRefusal}
use Rattle.setphase_core.specs.declared.limits.TheConstants.{MAX_VARIABLES}
use Rattle.setphase_core.specs.declared.staging.TestedVariable.{TestedVariable}
use Rattle.setphase_core.specs.declared.staging.Staged.{Staged}
use Rattle.setphase_core.specs.declared.staging.Standing.{Standing}
use Rattle.setphase_core.specs.declared.staging.Standing.TheVariants.{First, Repeats, Contradicts}
use Rattle.setphase_core.specs.declared.staging.VariableFault.{VariableFault}
use Rattle.setphase_core.specs.declared.staging.VariableFault.TheVariants.{NoAccess, Refused}
use Rattle.vacm_core.specs.Families.{family_answer, in_view, is_included}
use Rattle.setphase_core.specs.Objects.{ObjectRow, ObjectState, reserve}
use Rattle.setphase_core.specs.Registry.{rows_of, prefixes_of}
use Rattle.setphase_core.specs.Searching.{IsOwnerPlace}
use Rattle.setphase_core.specs.Settings.{same_setting, same_value}
use Rattle.setphase_core.specs.Writing.{test_answer}
use Rattle.setphase_core.specs.Variables.{NamedAssignment, writings, single_refusals}
use Rattle.setphase_core.specs.Together.{assignments, assign, contradicting, lacks_row, timer_numbers, joint_refusal}
use Rattle.setphase_core.specs.Outcomes.{committed_of}
use Rattle.setphase_core.specs.Staging.{object_at, entry_at, assignments_of, IsDistinct, AreLegal}

-- The number that was found, or else the first of these.
abbrev pub first_in : Option ℕ → List ℕ → Option ℕ
first_in None ns = slice_get ns 0
first_in (Some n) ns = Some n

-- The value that the first of these assignments to a setting gives it.
abbrev pub value_among : List Assignment → SettingKey → Option SettingValue
value_among [] k = None
value_among (a ∷ ps) k = if same_setting a.key k then Some a.value else value_among ps k

-- What a variable that gives a setting this value is to those before it.
abbrev pub standing_by : Option SettingValue → SettingValue → Standing
standing_by None v = First
standing_by (Some given) v = if same_value given v then Repeats else Contradicts

abbrev pub is_contradicting : Standing → Bool
is_contradicting First = false
is_contradicting Repeats = false
is_contradicting Contradicts = true

-- The first of those that write one setting is staged.
abbrev pub staged_by : Standing → List Staged → Staged → List Staged
staged_by First es e = es ++ e ∷ []
staged_by Repeats es e = es
staged_by Contradicts es e = es

-- What an object answers to the test of a variable whose name its own begins.
abbrev pub answer_of : ObjectState → World → Binding → Result Slot SetFault
answer_of o w b =
    test_answer o.row.column w o.reserved (drop (length o.row.prefix) b.name) b.value

abbrev pub answer_at : List ObjectState → ℕ → World → Binding → Result Slot SetFault
answer_at os p w b = answer_of (object_at os p) w b

-- A variable behind so many others passed at the object of this place: it is in the view and its
-- object reserved a slot for it, which is staged as the settings that are staged ask.
pub record IsPassedAt (os ns : List ObjectState) (w : World) (b : Binding)
    (es fs : List Staged) (before p : ℕ) (slot : Slot) (passed : TestedVariable) : Type 0 where
  pub owner : IsOwnerPlace (prefixes_of (rows_of os)) b.name (Some p)
  pub answer : answer_at os p w b ≡ Ok slot
  pub reserved : ns ≡ slice_set os p (reserve (object_at os p) slot)
  pub key : passed.key ≡ slot.key
  pub standing : passed.standing
      ≡ standing_by (value_among (assignments_of es) slot.key) slot.value
  pub staged : fs ≡ staged_by passed.standing es
      (record { object = p; slot = slot; number = before + 1 })

pub record IsPassed (os ns : List ObjectState) (w : World) (view : List ℕ) (before : ℕ)
    (b : Binding) (es fs : List Staged) (passed : TestedVariable) : Type 0 where
  pub seen : in_view w.policy.vacm.families view b.name ≡ true
  pub space : before < MAX_VARIABLES
  pub place : ℕ
  pub slot : Slot
  pub at : IsPassedAt os ns w b es fs before place slot passed

-- Why a variable behind so many others did not pass: it is not in the view; or no object has it; or
-- its object refused it; or the Set has no space.
abbrev pub IsFaulty : List ObjectState → World → List ℕ → ℕ → Binding → VariableFault → Type 0
IsFaulty os w view before b (NoAccess answer) =
    (answer ≡ family_answer w.policy.vacm.families view b.name) × (is_included answer ≡ false)
IsFaulty os w view before b (Refused fault) =
    (in_view w.policy.vacm.families view b.name ≡ true)
    × (((fault ≡ NotWritable) × IsOwnerPlace (prefixes_of (rows_of os)) b.name None)
    ⊎ ((p : ℕ) × IsOwnerPlace (prefixes_of (rows_of os)) b.name (Some p)
    × ((answer_at os p w b ≡ Err fault)
    ⊎ ((fault ≡ ResourceUnavailable) × (MAX_VARIABLES ≤ before)
    × ((slot : Slot) × (answer_at os p w b ≡ Ok slot))))))

-- The variable of this number, counted from 1, is the one that is committed at place k.
pub record IsNumber (ws cs : List NamedAssignment) (k n : ℕ) (x : NamedAssignment) : Type 0 where
  pub least : 1 ≤ n
  pub most : n ≤ length ws
  pub there : slice_get ws (n - 1) ≡ Some x
  pub before : committed_of (take (n - 1) ws) ≡ take k cs

-- The entries are those of the variables that are to be committed: each writes what its variable
-- does, its object is the variable's, and its number is the variable's among all.
pub record AreStaged (rows : List ObjectRow) (ws : List NamedAssignment) (es : List Staged) :
    Type 0 where
  pub written : assignments_of es ≡ assignments (committed_of ws)
  pub placed : (k : ℕ) (x : NamedAssignment) → slice_get (committed_of ws) k ≡ Some x →
      IsOwnerPlace (prefixes_of rows) x.name (Some (entry_at es k).object)
  pub numbered : (k : ℕ) (x : NamedAssignment) → slice_get (committed_of ws) k ≡ Some x →
      IsNumber ws (committed_of ws) k (entry_at es k).number x

-- The variables of a Set passed their tests: none has a fault of its own; the first that
-- contradicts an earlier one and the first that writes a timer are these; and the entries write no
-- setting twice, and together what all variables do, where none contradicts another.
pub record ArePassed (rows : List ObjectRow) (w : World) (view : List ℕ) (bs : List Binding)
    (es : List Staged) (contradiction timer : Option ℕ) : Type 0 where
  pub single : single_refusals rows w view 0 [] bs ≡ []
  pub contradictions : contradiction
      ≡ slice_get (contradicting [] (assignments (writings rows w bs))) 0
  pub timers : timer ≡ slice_get (timer_numbers 1 (assignments (writings rows w bs))) 0
  pub distinct : IsDistinct (assignments_of es)
  pub legal : AreLegal w (assignments_of es)
  pub staged : AreStaged rows (writings rows w bs) es
  pub same : contradiction ≡ None
      → assign (assignments (writings rows w bs)) w ≡ assign (assignments_of es) w

-- The number of the first entry that writes the ports of a static row that is not there in a world.
abbrev pub first_lacking : World → List Staged → Option ℕ
first_lacking w [] = None
first_lacking w (e ∷ es) = if lacks_row w e.slot.key then Some e.number else first_lacking w es

-- Why the variables of a Set do not go together: one contradicts an earlier one; or else one lacks
-- its row; or else the timers do not agree, of which this is the first.
abbrev pub inconsistency : Option ℕ → Option ℕ → Bool → Option ℕ → Option SetRefusal
inconsistency (Some n) lacking agree timer = Some (joint_refusal status.InconsistentValue n)
inconsistency None (Some n) agree timer = Some (joint_refusal status.InconsistentName n)
inconsistency None None agree timer =
    if agree then None else option_map (joint_refusal status.InconsistentValue) timer

-- A Set that is not refused: its entries write no setting twice, each a value that it may have, and
-- together what its variables do.
pub record AreReady (rows : List ObjectRow) (w : World) (bs : List Binding) (es : List Staged) :
    Type 0 where
  pub distinct : IsDistinct (assignments_of es)
  pub legal : AreLegal w (assignments_of es)
  pub staged : AreStaged rows (writings rows w bs) es
  pub same : assign (assignments (writings rows w bs)) w ≡ assign (assignments_of es) w
