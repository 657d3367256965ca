-- Runs of instances that a view hides, and the hidden instances that are in none of them.
use Rattle.std.specs.Prelude.{◌≡◌, ℕ, Bool, true, false, if◌then◌else◌, not, ◌&&◌, List, All, Contains, Option, Some, None, IsTrue, ◌≤◌, length, vec_capacity}
use Rattle.std.specs.List.{list_any, count_by}
use Rattle.oid_core.specs.Order.{name_lt}
use Rattle.setphase_core.specs.declared.passing.Spot.{Spot}
use Rattle.message_core.specs.Instances.{next_of}
use Rattle.message_core.specs.declared.binding.Binding.{Binding}
use Rattle.agent_core.specs.declared.hidden.HiddenRun.{HiddenRun}
use Rattle.agent_core.specs.declared.hidden.HiddenRuns.{HiddenRuns}
use Rattle.agent_core.specs.declared.source.Stand.{Stand}
use Rattle.agent_core.specs.Reading.{visible}

-- A name is not less than the first, nor greater than the last.
abbrev pub is_within : List ℕ → List ℕ → List ℕ → Bool
is_within first last name = not (name_lt name first) && not (name_lt last name)

abbrev pub in_run : HiddenRun → List ℕ → Bool
in_run run name = is_within run.first run.last name

-- An instance is hidden, and stands in none of the runs.
abbrev pub is_left : (List ℕ → Bool) → List HiddenRun → Binding → Bool
is_left shows runs row =
    not (shows row.name) && not (list_any (λ run. in_run run row.name) runs)

-- How many hidden instances stand in none of the runs.
unfoldable pub hidden_left : (List ℕ → Bool) → List Binding → List HiddenRun → ℕ
hidden_left shows rows runs = count_by (is_left shows runs) rows

-- The same but for those from the first of two names to the last.
unfoldable pub hidden_beside : (List ℕ → Bool) → List Binding → List HiddenRun → List ℕ →
    List ℕ → ℕ
hidden_beside shows rows runs first last =
    count_by (λ row. is_left shows runs row && not (is_within first last row.name)) rows

-- No instance from the first of two names to the last is shown.
abbrev pub IsNoneShown : (List ℕ → Bool) → List Binding → List ℕ → List ℕ → Type 0
IsNoneShown shows rows first last =
    (row : Binding) → Contains rows row → is_within first last row.name ≡ true →
    shows row.name ≡ false

-- From the first instance of a run to the last none is shown; and the first behind them that is shown
-- stands at the run's spot, if there is one.
pub record IsHiddenRun (shows : List ℕ → Bool) (rows : List Binding) (at : Spot → Binding)
    (is_there : Spot → Type 0) (is_at : Stand → List ℕ → Type 0) (run : HiddenRun) : Type 0 where
  pub first : Binding
  pub contained : Contains rows first
  pub named : first.name ≡ run.first
  pub ordered : name_lt run.last run.first ≡ false
  pub none : IsNoneShown shows rows run.first run.last
  pub behind : (if run.found then Some (at run.spot) else None)
      ≡ next_of (visible shows rows) run.first
  pub there : IsTrue run.found → is_there run.spot
  pub stands : IsTrue run.found → is_at run.stand (at run.spot).name

abbrev pub AreHiddenRuns : (List ℕ → Bool) → List Binding → (Spot → Binding) → (Spot → Type 0) →
    (Stand → List ℕ → Type 0) → List HiddenRun → Type 0
AreHiddenRuns shows rows at is_there is_at runs =
    All (IsHiddenRun shows rows at is_there is_at) runs

-- A run begins behind a name, and none of the others that do begins in front of it.
pub record IsAhead (runs : List HiddenRun) (name : List ℕ) (run : HiddenRun) : Type 0 where
  pub contained : Contains runs run
  pub behind : name_lt name run.first ≡ true
  pub least : All (λ other. name_lt name other.first ≡ true →
      name_lt other.first run.first ≡ false) runs

-- None of the runs begins behind a name; or this is one that does, and none of the others that do begins
-- in front of it.
abbrev pub IsAheadOf : List HiddenRun → List ℕ → Option HiddenRun → Type 0
IsAheadOf runs name None = All (λ run. name_lt name run.first ≡ false) runs
IsAheadOf runs name (Some run) = IsAhead runs name run

-- A run begins behind a name, if there is one.
abbrev pub BeginsBehind : List ℕ → Option HiddenRun → Type 0
BeginsBehind name None = Unit {0}
BeginsBehind name (Some run) = name_lt name run.first ≡ true

-- Runs of hidden instances, of which there are not more than bindings that were sent, and memory for so
-- many.
pub record AreRunsFor (shows : List ℕ → Bool) (rows : List Binding) (at : Spot → Binding)
    (is_there : Spot → Type 0) (is_at : Stand → List ℕ → Type 0) (most sent : ℕ)
    (hidden : HiddenRuns) : Type 0 where
  pub runs : AreHiddenRuns shows rows at is_there is_at hidden.runs.items
  pub few : length hidden.runs.items ≤ sent
  pub space : most ≤ vec_capacity hidden.runs
