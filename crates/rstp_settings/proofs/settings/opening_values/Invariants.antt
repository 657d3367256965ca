use Rattle.std.proofs.Common.{◌≡◌, replicate}
use Rattle.rstp_settings.specs.Table.{opening_port}
use Rattle.rstp_settings.proofs.settings.opening_values.Given as goal

abbrev pub invariant-loop : goal.invariant-loop
invariant-loop l = l.values.items ≡ replicate l.counter opening_port
