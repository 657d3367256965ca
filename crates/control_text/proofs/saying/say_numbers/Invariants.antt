use Rattle.std.proofs.Common.{◌≡◌, ◌++◌, take}
use Rattle.std.specs.List.{flat_map}
use Rattle.control_text.specs.Answers.{space_and_number}
use Rattle.control_text.proofs.saying.say_numbers.Given as goal

-- what was there, and the numbers so far
abbrev pub invariant-loop-number : goal.invariant-loop-number
invariant-loop-number l = l.out.items ≡ l.initial.out.items ++ flat_map space_and_number (take l.number-index l.numbers)
