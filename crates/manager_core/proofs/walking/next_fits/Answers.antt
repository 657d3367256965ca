use Rattle.std.proofs.Common.{arith}
use Rattle.manager_core.proofs.Sizes as sizes
use Rattle.manager_core.proofs.walking.next_fits.Goals as goal

pub returns : goal.returns
returns c =
    sizes.next_fits c.args._community.now c.args.name.now c.args._id c.requires.community c.requires.encodable (λ i. omega (arith, c.type_inv.name i)) c.requires.most
