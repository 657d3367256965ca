use Rattle.vacm_core.specs.Trees.{reaches}
use Rattle.vacm_core.proofs.FamilyWays.{numbered_clear}
use Rattle.vacm_core.proofs.Puts.{all_marked}
use Rattle.vacm_core.proofs.families.mark_changed.Goals as goal

pub mark_all-requires : goal.mark_all-requires
mark_all-requires c n d lt = numbered_clear (reaches c.args.tree.now) (reaches c.clear.new.self) c.clear.ensures _ n (c.requires.tree.all n d lt)

pub returns-else-renews : goal.returns-else-renews
returns-else-renews c =
    all_marked (reaches c.args.tree.now) (reaches c.mark_row.new.tree) c.args.rows.now c.args.n c.index-rows-n.result c.requires.within c.index-rows-n.is c.requires.tree
    c.mark_row.ensures.kept c.mark_row.ensures.marked
