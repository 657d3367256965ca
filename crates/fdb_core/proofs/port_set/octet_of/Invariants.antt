use Rattle.std.proofs.Common.{◌≡◌, ◌<◌, ◌^◌, take}
use Rattle.fdb_core.specs.PortSets.{octet_of_bits}
use Rattle.fdb_core.proofs.port_set.octet_of.Given as goal

abbrev pub invariant-loop-bit : goal.invariant-loop-bit
invariant-loop-bit l = record {
  so_far : l.octet ≡ octet_of_bits (take l.bit-index l.bits);
  small : l.octet < 2 ^ l.bit-index;
}
