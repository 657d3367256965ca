use Rattle.std.proofs.Common.{◌≡◌, ◌≤◌, false, All, length, take, subst, arith}
use Rattle.std.proofs.lemmas.List.{take_all}
use Rattle.std.proofs.lemmas.List.Folds.{list_any_none}
use Rattle.agent_core.specs.declared.hidden.HiddenRun.{HiddenRun}
use Rattle.agent_core.specs.Hidden.{in_run}
use Rattle.agent_core.proofs.hidden.HiddenRuns.around.Goals as goal

pub returns : goal.returns
returns c =
    let runs = c.args.self.now.runs.items in
    list_any_none (λ (run : HiddenRun). in_run run c.args.name.now) runs
    (subst (All (λ (run : HiddenRun). in_run run c.args.name.now ≡ false)) (take_all c.loop-run.run-index runs (omega arith)) c.loop-run.invariant)
