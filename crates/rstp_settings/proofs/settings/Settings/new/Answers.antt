use Rattle.std.proofs.Common.{arith}
use Rattle.rstp_settings.proofs.Opening.{IsValid-opening}
use Rattle.rstp_settings.proofs.settings.Settings.new.Goals as goal

pub invariant_of-result : goal.invariant_of-result
invariant_of-result c = rw c.opening_values.ensures (IsValid-opening c.args.ports)
