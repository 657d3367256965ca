use Rattle.std.proofs.Common.{◌≡◌, take, length}
use Rattle.rstp_core.specs.Tree.{rows_from}
use Rattle.rstp_core.proofs.events.begin_all.Given as goal

abbrev pub invariant-loop-i : goal.invariant-loop-i
invariant-loop-i l = record {
  rows : l.rows.items ≡ rows_from l.settings l.settled 1 (take l.i l.config) (take l.i l.ports);
  count : length l.rows.items ≡ l.i;
}
