use Rattle.std.proofs.Common.{◌≡◌, ◌++◌, take, flat_map}
use Rattle.configuration.specs.Warnings.{port_warnings}
use Rattle.configuration.proofs.warnings.add_all_ports.Given as goal

-- what was there, and the ports that are warned of by the checks so far
abbrev pub invariant-loop-check : goal.invariant-loop-check
invariant-loop-check l =
    l.warnings.items ≡ l.fn.warnings.items ++ flat_map (port_warnings l.ports l.serve) (take l.check-index l.checks)
