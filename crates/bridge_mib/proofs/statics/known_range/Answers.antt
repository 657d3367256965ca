use Rattle.std.proofs.Common.{arith}
use Rattle.bridge_mib.proofs.StaticRows.{all_fit}
use Rattle.bridge_mib.proofs.statics.known_range.Goals as goal

pub returns : goal.returns
returns c = all_fit c.args.numbers.now (λ i. omega (arith, c.type_inv.numbers i))
