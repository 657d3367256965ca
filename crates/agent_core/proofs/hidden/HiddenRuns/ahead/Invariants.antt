use Rattle.std.proofs.Common.{take}
use Rattle.std.specs.Option.{option_copied}
use Rattle.agent_core.specs.Hidden.{IsAheadOf}
use Rattle.agent_core.proofs.hidden.HiddenRuns.ahead.Given as goal

abbrev pub invariant-loop-run : goal.invariant-loop-run
invariant-loop-run l = IsAheadOf (take l.run-index l.self.runs.items) l.name (option_copied l.least)
