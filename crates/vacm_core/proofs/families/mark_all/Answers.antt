use Rattle.vacm_core.specs.Trees.{reaches}
use Rattle.vacm_core.proofs.FamilyWays.{marked_none, marked_more, marked_end}
use Rattle.vacm_core.proofs.families.mark_all.Goals as goal

pub loop-row-init : goal.loop-row-init
loop-row-init c = marked_none (reaches c.args.tree.now) c.args.rows.now c.requires

pub loop-row-preserved : goal.loop-row-preserved
loop-row-preserved c =
    marked_more (reaches c.loop-row.tree) (reaches c.mark_row.new.tree) c.args.rows.now c.loop-row.row-index c.row-item.result c.loop-row-test.true c.row-item.is c.mark_row.ensures.kept
    c.mark_row.ensures.marked c.loop-row.invariant

pub returns : goal.returns
returns c = marked_end (reaches c.loop-row.tree) c.args.rows.now c.loop-row.row-index c.loop-row-test.false c.loop-row.invariant
