use Rattle.std.proofs.Common.{◌≡◌, ◌++◌, filter_map}
use Rattle.std.specs.List.{range_with_len}
use Rattle.configuration.specs.Warnings.{warning_of_port}
use Rattle.configuration.proofs.warnings.add_ports.Given as goal

-- what was there, and the ports so far that are warned of by this check
abbrev pub invariant-loop-n : goal.invariant-loop-n
invariant-loop-n l =
    l.warnings.items ≡ l.fn.warnings.items ++ filter_map (warning_of_port l.ports l.serve l.check) (range_with_len 0 l.n)
