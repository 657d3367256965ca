use Rattle.std.proofs.Common.{◌≡◌, ◌≤◌, take, drop, length}
use Rattle.std.specs.List.{flat_map}
use Rattle.oid_core.specs.Name.{canon_coded}
use Rattle.oid_core.proofs.writing.put_tail.Given as goal

abbrev pub invariant-loop-left : goal.invariant-loop-left
invariant-loop-left l = record {
  octets : drop l.left l.octets ≡ flat_map canon_coded (drop l.left l.numbers);
  front : take l.left l.octets ≡ take l.left l.fn.octets;
  len : length l.octets ≡ length l.fn.octets;
  within : l.left ≤ length l.numbers;
}

abbrev pub decreases-loop-left : goal.decreases-loop-left
decreases-loop-left l = l.left
