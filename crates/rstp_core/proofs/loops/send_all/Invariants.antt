use Rattle.std.proofs.Common.{◌≡◌, ◌++◌, map, take, drop, length, ◌≤◌}
use Rattle.rstp_rules.specs.Sends.{bpdu_of, after_sending}
use Rattle.rstp_core.proofs.loops.send_all.Given as goal

abbrev pub invariant-loop-row : goal.invariant-loop-row
invariant-loop-row l = record {
  rows : l.rows ≡ map (after_sending l.context) (take l.row-index l.fn.rows) ++ drop l.row-index l.fn.rows;
  bpdus : l.bpdus.items ≡ map (bpdu_of l.context) (take l.row-index l.fn.rows);
  few : length l.bpdus.items ≤ l.row-index;
}
