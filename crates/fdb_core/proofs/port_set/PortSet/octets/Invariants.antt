use Rattle.std.proofs.Common.{◌≡◌, ◌*◌, length, map, take, drop}
use Rattle.std.specs.List.{range_with_len}
use Rattle.fdb_core.specs.PortSets.{octet_of_bits}
use Rattle.fdb_core.proofs.port_set.PortSet.octets.Given as goal

abbrev pub invariant-loop-i : goal.invariant-loop-i
invariant-loop-i l = record {
  so_far : l.octets.items ≡ map (λ k. octet_of_bits (take 8 (drop (8 * k) l.self.0))) (range_with_len 0 l.i);
  few : length l.octets.items ≡ l.i;
}
