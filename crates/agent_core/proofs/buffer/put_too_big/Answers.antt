use Rattle.std.proofs.Common.{pos, refl, arith, []}
use Rattle.message_core.specs.Canon.{answer_to}
use Rattle.message_core.specs.declared.status.ErrorStatus.TheVariants.{TooBig}
use Rattle.agent_core.proofs.buffer.put_too_big.Goals as goal

pub unreachable-requires : goal.unreachable-requires
unreachable-requires c =
    let e = c.in-Err.ensures in
    let fits = c.short_reply_fits.ensures (answer_to c.args.request.now TooBig (pos 0) []) c.requires refl in
    omega (arith, e.too_big, fits)
