use Rattle.std.proofs.Common.{◌≡◌, false, All, take}
use Rattle.agent_core.specs.Hidden.{in_run}
use Rattle.agent_core.proofs.hidden.HiddenRuns.around.Given as goal

abbrev pub invariant-loop-run : goal.invariant-loop-run
invariant-loop-run l = All (λ run. in_run run l.name ≡ false) (take l.run-index l.self.runs.items)
