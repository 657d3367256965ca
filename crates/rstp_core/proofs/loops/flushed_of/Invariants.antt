use Rattle.std.proofs.Common.{◌≡◌, ◌≤◌, take, length}
use Rattle.rstp_rules.specs.Sends.{flushed_ports}
use Rattle.rstp_core.proofs.loops.flushed_of.Given as goal

abbrev pub invariant-loop-row : goal.invariant-loop-row
invariant-loop-row l = record {
  ports : l.ports.items ≡ flushed_ports (take l.row-index l.rows);
  few : length l.ports.items ≤ l.row-index;
}
