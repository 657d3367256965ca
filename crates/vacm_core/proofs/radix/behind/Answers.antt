use Rattle.std.specs.Cmp.{unsigned_Decides}
use Rattle.std.proofs.lemmas.Slice.Eq.{strip_prefix_is}
use Rattle.vacm_core.proofs.radix.behind.Goals as goal

pub returns : goal.returns
returns c = strip_prefix_is unsigned_Decides c.args.list.now c.args.numbers.now c.strip_prefix.result c.strip_prefix.ensures.cases
