use Rattle.std.proofs.Common.{◌≡◌, ◌+◌, ◌++◌, map}
use Rattle.std.specs.Int.Digits.{digits_of}
use Rattle.ber_core.specs.Writing.{written_octets, capacity, KeepsFront}
use Rattle.oid_core.specs.Name.{canon_coded}
use Rattle.oid_core.specs.Writing.{Extends}
use Rattle.oid_core.proofs.writing.put_coded.Given as goal

abbrev pub invariant-loop-left : goal.invariant-loop-left
invariant-loop-left l = record {
  all : canon_coded l.number ++ written_octets l.fn.out ≡ map (λ d. 128 + d) (digits_of 128 l.left) ++ written_octets l.out;
  space : capacity l.out ≡ capacity l.fn.out;
  front : KeepsFront l.fn.out l.out;
  behind : Extends (written_octets l.fn.out) (written_octets l.out);
  same : l.out.space.ghost_name ≡ l.fn.out.space.ghost_name;
}

abbrev pub decreases-loop-left : goal.decreases-loop-left
decreases-loop-left l = l.left
