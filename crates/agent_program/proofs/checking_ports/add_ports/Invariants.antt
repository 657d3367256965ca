use Rattle.std.proofs.Common.{◌≡◌, ◌+◌, ◌++◌, drop}
use Rattle.agent_program.specs.Reporting.{port_lines}
use Rattle.agent_program.proofs.checking_ports.add_ports.Given as goal

-- what is written so far, and the lines of the ports that are left, is all
abbrev pub invariant-loop-index : goal.invariant-loop-index
invariant-loop-index l = l.text.items ++ port_lines (l.index + 1) (drop l.index l.ports) ≡ l.initial.text.items ++ port_lines 1 l.ports
