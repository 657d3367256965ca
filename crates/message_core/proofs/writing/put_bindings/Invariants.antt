use Rattle.std.proofs.Common.{◌≡◌, ◌≤◌, ◌++◌, take, length}
use Rattle.std.specs.List.{flat_map}
use Rattle.ber_core.specs.Writing.{written_octets, capacity}
use Rattle.message_core.specs.Canon.{canon_binding}
use Rattle.message_core.proofs.writing.put_bindings.Given as goal

abbrev pub invariant-loop-i : goal.invariant-loop-i
invariant-loop-i l = record {
  all : flat_map canon_binding l.bindings ++ written_octets l.fn.out ≡ flat_map canon_binding (take l.i l.bindings) ++ written_octets l.out;
  space : capacity l.out ≡ capacity l.fn.out;
  same : l.out.space.ghost_name ≡ l.fn.out.space.ghost_name;
  within : l.i ≤ length l.bindings;
}

abbrev pub decreases-loop-i : goal.decreases-loop-i
decreases-loop-i l = l.i
