use Rattle.std.proofs.Common.{arith}
use Rattle.setphase_core.proofs.StaticLimits.{few_fit}
use Rattle.setphase_core.proofs.static_limit.is_within_rows.Goals as goal

pub returns-then-reserved-left : goal.returns-then-reserved-left
returns-then-reserved-left c =
    few_fit c.args.world.now (record { key = c.args.key; value = c.args.value.now }) c.args.reserved.now
    (omega (arith, c.made_statics.ensures, c.checked_sub.ensures, c.in-Some.ensures, c.if-reserved-left.true))
