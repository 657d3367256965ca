use Rattle.std.proofs.Common.{◌∙◌, ap}
use Rattle.rstp_rules.specs.Roles.{or_better}
use Rattle.rstp_core.proofs.Bests.{best_more, best_whole}
use Rattle.rstp_core.proofs.roles.root_of.Goals as goal

pub loop-row-preserved : goal.loop-row-preserved
loop-row-preserved c = c.or_better-best.ensures ∙ ap (or_better c.loop-row.best) c.candidate.ensures ∙ best_more _ _ _ _ _ c.loop-row-test.true c.loop-row.invariant

pub returns : goal.returns
returns c = best_whole _ _ _ _ c.loop-row-test.false c.loop-row.invariant
