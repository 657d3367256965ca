-- How a Set ends: what it leaves of the world, and what it reports (RFC 3416, 4.2.5).
use Rattle.std.specs.Prelude.{◌≡◌, ℕ, ◌-◌, ◌≤◌, Bool, false, if◌then◌else◌, List, [], ◌∷◌, ◌++◌, length, map, take, filter, slice_get, Option, Some, None}
use Rattle.std.specs.List.{list_any}
use Rattle.rstp_settings.specs.declared.key.Key.{Key}
use Rattle.setting_keys.specs.declared.SettingKey.{SettingKey}
use Rattle.setphase_core.specs.declared.world.World.{World}
use Rattle.setphase_core.specs.declared.sets.SetRefusal.{SetRefusal}
use Rattle.setphase_core.specs.declared.sets.SetOutcome.{SetOutcome}
use Rattle.setphase_core.specs.declared.sets.SetOutcome.TheVariants.{Done, Refused, CommitFailed, UndoFailed}
use Rattle.setphase_core.specs.Settings.{same_setting, bridge_keys}
use Rattle.setphase_core.specs.Variables.{NamedAssignment}
use Rattle.setphase_core.specs.Together.{assign, assignments}

-- Which calls of devices failed in a Set: the commit of the variable of this number, counted from
-- 1, and the undoing of these settings, which are all of the bridge.
pub record SetNotes : Type 0 where
  pub commit : Option ℕ
  pub undos : List Key

abbrev pub has_key : List SettingKey → SettingKey → Bool
has_key keys k = list_any (λ other. same_setting other k) keys

abbrev pub keys_of : List NamedAssignment → List SettingKey
keys_of ws = map (λ x. x.assignment.key) ws

-- Of the variables that write one setting the first alone is committed.
abbrev pub firsts : List NamedAssignment → List NamedAssignment → List NamedAssignment
firsts earlier [] = []
firsts earlier (x ∷ ws) =
    (if has_key (keys_of earlier) x.assignment.key then [] else x ∷ [])
    ++ firsts (earlier ++ x ∷ []) ws

abbrev pub committed_of : List NamedAssignment → List NamedAssignment
committed_of ws = firsts [] ws

-- The variables whose setting is one of these.
abbrev pub writers_of : List SettingKey → List NamedAssignment → List NamedAssignment
writers_of keys ws = filter (λ x. has_key keys x.assignment.key) ws

-- The variables that were committed before the commit of this number failed, and could not be
-- undone.
abbrev pub stuck : List NamedAssignment → ℕ → List SettingKey → List NamedAssignment
stuck ws i undos = writers_of undos (committed_of (take (i - 1) ws))

-- Notes that a Set of these variables can have. Without a failed commit nothing is undone. A commit
-- that failed is of the first variable that writes its setting, and what was not undone are
-- settings that variables before it write, in their order.
abbrev pub CanFail : List NamedAssignment → Option ℕ → List SettingKey → Type 0
CanFail ws None undos = undos ≡ []
CanFail ws (Some i) undos =
    (1 ≤ i) × (i ≤ length ws)
    × ((x : NamedAssignment) → slice_get ws (i - 1) ≡ Some x
    → has_key (keys_of (take (i - 1) ws)) x.assignment.key ≡ false)
    × (undos ≡ keys_of (stuck ws i undos))

abbrev pub AreNotes : List NamedAssignment → SetNotes → Type 0
AreNotes ws notes = CanFail ws notes.commit (bridge_keys notes.undos)

-- The world after the commits: all settings that the variables name have their values; where a
-- commit failed, those alone that could not be undone.
abbrev pub world_by : List NamedAssignment → World → Option ℕ → List SettingKey → World
world_by ws w None undos = assign (assignments ws) w
world_by ws w (Some i) undos = assign (assignments (stuck ws i undos)) w

-- The world after a Set: a refusal changes nothing.
abbrev pub world_after_set : Option SetRefusal → List NamedAssignment → World → SetNotes → World
world_after_set (Some refusal) ws w notes = w
world_after_set None ws w notes = world_by ws w notes.commit (bridge_keys notes.undos)

-- What an outcome reports: the refusal, and the failed calls.
abbrev pub refusal_in : SetOutcome → Option SetRefusal
refusal_in (Done changed) = None
refusal_in (Refused refusal) = Some refusal
refusal_in (CommitFailed i) = None
refusal_in (UndoFailed i keys) = None

abbrev pub notes_in : SetOutcome → SetNotes
notes_in (Done changed) = record { commit = None; undos = [] }
notes_in (Refused refusal) = record { commit = None; undos = [] }
notes_in (CommitFailed i) = record { commit = Some i; undos = [] }
notes_in (UndoFailed i keys) = record { commit = Some i; undos = keys }

-- Whether a setting has another value than before, as an outcome reports it; where undoing failed, it
-- does not.
abbrev pub changed_in : SetOutcome → Option Bool
changed_in (Done changed) = Some changed
changed_in (Refused refusal) = Some false
changed_in (CommitFailed i) = Some false
changed_in (UndoFailed i keys) = None

-- An outcome that says that undoing failed names a setting at least.
abbrev pub NamesASetting : SetOutcome → Type 0
NamesASetting (UndoFailed i keys) = 1 ≤ length keys
NamesASetting other = Unit {0}
