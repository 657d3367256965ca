use Rattle.std.proofs.Common.{◌≡◌, ◌++◌, take}
use Rattle.std.specs.List.{flat_map}
use Rattle.agent_script.specs.Outputs.{another_port}
use Rattle.agent_script.proofs.bridging.say_others.Given as goal

-- what was there, and the ports so far
abbrev pub invariant-loop-port : goal.invariant-loop-port
invariant-loop-port l = l.out.items ≡ l.initial.out.items ++ flat_map another_port (take l.port-index l.ports)
