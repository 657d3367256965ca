use Rattle.std.proofs.Common.{◌≡◌, ◌≤◌, take, length}
use Rattle.rstp_core.specs.Tree.{ports_of}
use Rattle.rstp_core.proofs.loops.ports_of.Given as goal

abbrev pub invariant-loop-row : goal.invariant-loop-row
invariant-loop-row l = record {
  ports : l.ports.items ≡ ports_of (take l.row-index l.rows);
  few : length l.ports.items ≤ l.row-index;
}
