-- The calls of devices that a Set makes, in their order, and what they leave of the objects (RFC
-- 3416, 4.2.5).
use Rattle.std.specs.Prelude.{◌≡◌, ℕ, ◌-◌, Bool, true, false, if◌then◌else◌, List, [], ◌∷◌, ◌++◌, map, take, drop, reverse, Option, Some, None}
use Rattle.std.specs.List.{AllByRecursion}
use Rattle.oid_core.specs.Order.{is_prefix}
use Rattle.setting_keys.specs.declared.SettingKey.{SettingKey}
use Rattle.setphase_core.specs.declared.sets.SetRefusal.{SetRefusal}
use Rattle.setphase_core.specs.Objects.{ObjectState, object_after_release, object_called, IsByPlan}
use Rattle.setphase_core.specs.Outcomes.{SetNotes, has_key, committed_of}
use Rattle.setphase_core.specs.Settings.{bridge_keys}
use Rattle.setphase_core.specs.Variables.{NamedAssignment}

-- One call of a device: the name of the variable for which its object is called, and whether it
-- failed.
pub record Call : Type 0 where
  pub name : List ℕ
  pub fails : Bool

abbrev pub commit_call : Bool → NamedAssignment → Call
commit_call fails x = record { name = x.name; fails = fails }

-- The undoing of the commit of a variable fails where its setting is among these.
abbrev pub undo_call : List SettingKey → NamedAssignment → Call
undo_call undos x = record { name = x.name; fails = has_key undos x.assignment.key }

-- The calls of a Set whose calls failed so: all commits, in the order of the variables; where the
-- commit of variable i failed, the commits before it, that one, and then the undos of those before
-- it, from the last to the first.
abbrev pub calls_by : List NamedAssignment → Option ℕ → List SettingKey → List Call
calls_by ws None undos = map (commit_call false) (committed_of ws)
calls_by ws (Some i) undos =
    map (commit_call false) (committed_of (take (i - 1) ws))
    ++ map (commit_call true) (take 1 (drop (i - 1) ws))
    ++ map (undo_call undos) (reverse (committed_of (take (i - 1) ws)))

-- A refused Set makes none.
abbrev pub calls_of : Option SetRefusal → List NamedAssignment → SetNotes → List Call
calls_of (Some refusal) ws notes = []
calls_of None ws notes = calls_by ws notes.commit (bridge_keys notes.undos)

-- An object after a call: its own are those of names that its name begins.
abbrev pub object_after_call : Call → ObjectState → ObjectState
object_after_call call o =
    if is_prefix o.row.prefix call.name then object_called call.fails o else o

abbrev pub object_after_calls : List Call → ObjectState → ObjectState
object_after_calls [] o = o
object_after_calls (call ∷ calls) o = object_after_calls calls (object_after_call call o)

-- An object after a Set of these calls: nothing is reserved, its failures rose by those of its own
-- calls, and its plan is what they left.
abbrev pub object_after_set : List Call → ObjectState → ObjectState
object_after_set calls o = object_after_calls calls (object_after_release o)

-- Each call of the object failed exactly where its plan stated so, if it has one.
abbrev pub AreByPlan : List Call → ObjectState → Type 0
AreByPlan [] o = Unit {0}
AreByPlan (call ∷ calls) o =
    (is_prefix o.row.prefix call.name ≡ true → IsByPlan o call.fails)
    × AreByPlan calls (object_after_call call o)

-- Each call failed exactly where the plan of its object stated so, if that has one. So the order of
-- an object's calls shows wherever its plan says different things of them.
abbrev pub FollowPlans : List Call → List ObjectState → Type 0
FollowPlans calls os = AllByRecursion (AreByPlan calls) os
