use Rattle.std.proofs.Common.{◌≡◌, ◌∙◌, ◌+◌, ◌<◌, Option, List, length, take, get_or, sym, ap, subst}
use Rattle.std.specs.Option.{option_copied}
use Rattle.std.proofs.lemmas.Bool.{false≢true}
use Rattle.agent_core.specs.declared.hidden.HiddenRun.{HiddenRun}
use Rattle.agent_core.specs.Hidden.{IsAheadOf}
use Rattle.agent_core.proofs.HiddenWalks.{ahead_yes, ahead_no}
use Rattle.agent_core.proofs.hidden.HiddenRuns.ahead.Goals as goal
use Rattle.agent_core.proofs.hidden.HiddenRuns.ahead.Goals.{then-is_between, else-is_between}

pub loop-run-preserved : goal.loop-run-preserved
loop-run-preserved c =
    let runs : List HiddenRun = c.args.self.now.runs.items in
    let same : c.deref-run-items.result.now ≡ runs = c.deref-run-items.ensures.value in
    let lt : c.loop-run.run-index < length runs = subst (λ (xs : List HiddenRun). c.loop-run.run-index < length xs) same c.loop-run-test.true in
    let is : get_or runs c.loop-run.run-index c.run-item.result ≡ c.run-item.result =
    subst (λ (xs : List HiddenRun). get_or xs c.loop-run.run-index c.run-item.result ≡ c.run-item.result) same (sym c.run-item.is) in
    elim c.if-is_between.branch [
      | then-is_between w ↦
          subst (λ (o : Option HiddenRun). IsAheadOf (take (c.loop-run.run-index + 1) runs) c.args.name.now o) (sym (ap option_copied w.least-is))
          (let both = c.is_between.ensures.0 w.if-is_between.true in
          ahead_yes runs c.loop-run.run-index c.run-item.result c.args.name.now (option_copied c.loop-run.least) lt is c.loop-run.invariant both.0 both.1)
      | else-is_between w ↦
          subst (λ (o : Option HiddenRun). IsAheadOf (take (c.loop-run.run-index + 1) runs) c.args.name.now o) (sym (ap option_copied w.least-is))
          (ahead_no runs c.loop-run.run-index c.run-item.result c.args.name.now (option_copied c.loop-run.least) lt is c.loop-run.invariant
          (λ both. false≢true (sym w.if-is_between.false ∙ c.is_between.ensures.1 both)))
    ]
