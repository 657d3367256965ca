use Rattle.std.proofs.Common.{◌≡◌, ◌++◌, take, drop}
use Rattle.bridge_core.specs.Counting.{sent_from, has_bpdu}
use Rattle.bridge_core.proofs.counters.count_bpdus.Given as goal

abbrev pub invariant-loop-i : goal.invariant-loop-i
invariant-loop-i l = l.counters ≡ sent_from (has_bpdu l.bpdus) 1 (take l.i l.fn.counters) ++ drop l.i l.fn.counters
