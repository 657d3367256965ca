use Rattle.std.proofs.Common.{◌≡◌, ℕ, ◌<◌, length, get_or, false}
use Rattle.std.specs.Prelude.{nat_lt}
use Rattle.fdb_core.proofs.port_set.PortSet.first.Given as goal

abbrev pub invariant-loop-i : goal.invariant-loop-i
invariant-loop-i l = record {
  size : length l.ports ≡ 32;
  so_far : (k : ℕ) → k < l.i → get_or l.ports k false ≡ nat_lt k l.count;
}
