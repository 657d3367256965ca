use Rattle.std.proofs.Common.{◌∙◌}
use Rattle.vacm_core.proofs.FamilyWays.{place_keeps}
use Rattle.vacm_core.proofs.families.place.Goals as goal

pub returns-clause-kept : goal.returns-clause-kept
returns-clause-kept c =
    place_keeps c.args.tree.now c.insert.new.self c.args.rows.now c.requires.differ c.args.n c.index-rows-n.result c.as_slice.result.now c.requires.within c.index-rows-n.is
    (c.as_slice.ensures.value ∙ c.put_way.ensures.way) c.put_way.ensures.some c.insert.result c.insert.ensures.leads c.insert.ensures.kept
