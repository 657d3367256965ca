use Rattle.std.proofs.Common.{◌≡◌, ◌≤◌, ◌++◌, take, length}
use Rattle.std.specs.List.{flat_map}
use Rattle.ber_core.specs.Writing.{written_octets, capacity, KeepsFront}
use Rattle.oid_core.specs.Name.{coded_numbers, canon_coded, canon_name}
use Rattle.oid_core.specs.Writing.{Extends}
use Rattle.oid_core.proofs.writing.put_numbers.Given as goal

abbrev pub invariant-loop-i : goal.invariant-loop-i
invariant-loop-i l = record {
  all : canon_name l.name ++ written_octets l.fn.out ≡ flat_map canon_coded (coded_numbers (take l.i l.name)) ++ written_octets l.out;
  space : capacity l.out ≡ capacity l.fn.out;
  front : KeepsFront l.fn.out l.out;
  behind : Extends (written_octets l.fn.out) (written_octets l.out);
  same : l.out.space.ghost_name ≡ l.fn.out.space.ghost_name;
  low : 2 ≤ l.i;
  high : l.i ≤ length l.name;
}

abbrev pub decreases-loop-i : goal.decreases-loop-i
decreases-loop-i l = l.i
