use Rattle.std.proofs.Common.{◌≡◌, ◌++◌, take, vec_capacity}
use Rattle.agent_core.proofs.fitting.push_numbers.Given as goal

abbrev pub invariant-loop-number : goal.invariant-loop-number
invariant-loop-number l = record {
  items : l.numbers.items ≡ l.fn.numbers.items ++ take l.number-index l.more;
  capacity : vec_capacity l.numbers ≡ vec_capacity l.fn.numbers;
}
