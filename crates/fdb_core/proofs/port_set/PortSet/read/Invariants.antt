use Rattle.std.proofs.Common.{◌≡◌, ℕ, ◌<◌, length, get_or, false}
use Rattle.fdb_core.specs.PortSets.{has_bit_at}
use Rattle.fdb_core.proofs.port_set.PortSet.read.Given as goal

abbrev pub invariant-loop-i : goal.invariant-loop-i
invariant-loop-i l = record {
  size : length l.ports ≡ 32;
  so_far : (k : ℕ) → k < l.i → get_or l.ports k false ≡ has_bit_at l.octets k;
}
