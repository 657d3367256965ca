use Rattle.std.proofs.Common.{◌≡◌, ◌≤◌, ◌++◌, take, drop, length}
use Rattle.bridge_core.specs.Counting.{sent_from}
use Rattle.bridge_core.specs.Forwarding.{ports_where}
use Rattle.bridge_core.specs.ForwardingInside.{leads, goes_by}
use Rattle.bridge_core.proofs.forwarding.send_to_each.Given as goal

abbrev pub invariant-loop-i : goal.invariant-loop-i
invariant-loop-i l = record {
  counters : l.counters ≡ sent_from (goes_by (leads l.way) l.from l.tree) 1 (take l.i l.fn.counters) ++ drop l.i l.fn.counters;
  egress : l.egress.items ≡ ports_where (goes_by (leads l.way) l.from l.tree) l.i;
  few : length l.egress.items ≤ l.i;
}
