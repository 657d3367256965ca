use Rattle.std.proofs.Common.{◌∙◌}
use Rattle.vacm_core.specs.Trees.{reaches}
use Rattle.vacm_core.proofs.FamilyWays.{marked_placed}
use Rattle.vacm_core.proofs.families.mark_row.Goals as goal

pub returns-clause-marked : goal.returns-clause-marked
returns-clause-marked c n h =
    marked_placed (reaches c.args.tree.now) (reaches c.mark.new.self) c.args.row.now c.as_slice.result.now (c.as_slice.ensures.value ∙ c.put_way.ensures.way) c.mark.ensures.marked n h
