use Rattle.std.proofs.Common.{arith}
use Rattle.hex.proofs.HexLemmas.{decode_of-encode_upper}
use Rattle.script_core.proofs.laws.reads_back_hex.Goals as goal

pub returns : goal.returns
returns c = rw (decode_of-encode_upper c.args.octets.now (λ i. omega (arith, c.type_inv.octets i)))
