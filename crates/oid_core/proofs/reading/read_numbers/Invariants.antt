use Rattle.std.proofs.Common.{◌≡◌, ◌≤◌, ◌-◌, length, take}
use Rattle.oid_core.specs.Reading.{all_coded_at, name_at}
use Rattle.oid_core.proofs.Loop.{with_front}
use Rattle.oid_core.proofs.reading.read_numbers.Given as goal

abbrev pub invariant-loop-rest : goal.invariant-loop-rest
invariant-loop-rest l = record {
  same : with_front (take l.count l.space) (all_coded_at (128 - length (take l.count l.space)) l.rest) ≡ name_at l.content;
  some : 1 ≤ l.count;
  most : l.count ≤ 128;
  len : length l.space ≡ length l.fn.space;
}

abbrev pub decreases-loop-rest : goal.decreases-loop-rest
decreases-loop-rest l = length l.rest
