use Rattle.std.proofs.Common.{◌≡◌, ◌++◌, take, flat_map}
use Rattle.agent_program.specs.Warned.{warning_line}
use Rattle.agent_program.proofs.warned.add_lines.Given as goal

-- what was there, and the lines so far
abbrev pub invariant-loop-warning : goal.invariant-loop-warning
invariant-loop-warning l =
    l.text.items ≡ l.fn.text.items ++ flat_map warning_line (take l.warning-index l.warnings)
