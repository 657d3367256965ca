use Rattle.std.proofs.Common.{◌≡◌, length}
use Rattle.rstp_core.specs.Tree.{opening_ports}
use Rattle.rstp_core.proofs.rstp.opening_ports.Given as goal

abbrev pub invariant-loop-i : goal.invariant-loop-i
invariant-loop-i l = record {
  ports : l.ports.items ≡ opening_ports l.own l.times l.i;
  count : length l.ports.items ≡ l.i;
}
