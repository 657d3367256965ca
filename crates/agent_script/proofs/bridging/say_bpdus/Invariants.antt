use Rattle.std.proofs.Common.{◌≡◌, ◌+◌, ◌++◌, drop}
use Rattle.agent_script.specs.Outputs.{bpdu_lines}
use Rattle.agent_script.proofs.bridging.say_bpdus.Given as goal

-- what is written so far, and what the ports that are left send, is all
abbrev pub invariant-loop-i : goal.invariant-loop-i
invariant-loop-i l = l.out.items ++ bpdu_lines l.address (l.i + 1) (drop l.i l.bpdus) ≡ l.initial.out.items ++ bpdu_lines l.address 1 l.bpdus
