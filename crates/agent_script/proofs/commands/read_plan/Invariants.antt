use Rattle.std.proofs.Common.{◌≡◌, length}
use Rattle.std.specs.Option.{option_copied}
use Rattle.agent_script.specs.Commands.{words_of, words_left, countings_of}
use Rattle.agent_script.proofs.Plans.{plan_with}
use Rattle.agent_script.proofs.commands.read_plan.Given as goal

-- the calls that are left, added to the plan so far, make the plan of them all
abbrev pub invariant-loop-left : goal.invariant-loop-left
invariant-loop-left l =
    plan_with 0 (countings_of 64 (words_of l.text)) ≡ plan_with l.plan (countings_of 64 (words_left (option_copied l.left)))

abbrev pub decreases-loop-left : goal.decreases-loop-left
decreases-loop-left l = length (words_left (option_copied l.left))
