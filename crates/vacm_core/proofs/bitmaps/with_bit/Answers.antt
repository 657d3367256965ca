use Rattle.std.proofs.Common.{w64}
use Rattle.std.proofs.lemmas.Nat.Bits.{bit_at_set_same, bit_at_set_other, bit_at_clear_other}
use Rattle.vacm_core.proofs.bitmaps.with_bit.Goals as goal

pub returns-then-on-clause-here : goal.returns-then-on-clause-here
returns-then-on-clause-here c on = bit_at_set_same w64 c.args.word c.args.bit c.requires

pub returns-then-on-clause-others : goal.returns-then-on-clause-others
returns-then-on-clause-others c other small apart = bit_at_set_other w64 c.args.word c.args.bit c.requires other apart

pub returns-else-on-clause-others : goal.returns-else-on-clause-others
returns-else-on-clause-others c other small apart = bit_at_clear_other w64 c.args.word c.args.bit c.requires other small apart
