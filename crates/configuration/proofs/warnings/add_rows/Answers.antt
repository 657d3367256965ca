use Rattle.configuration.specs.Warnings.{row_warning}
use Rattle.configuration.proofs.FoundLemmas.{found_step}
use Rattle.configuration.proofs.warnings.add_rows.Goals as goal

pub loop-n-preserved : goal.loop-n-preserved
loop-n-preserved c =
    found_step (row_warning c.args.rows.now c.args.warning) _ _ _ c.loop-n.n _ c.loop-n.invariant c.row_warning.ensures c.in_ok-add.ensures
