use Rattle.std.proofs.Common.{◌≡◌, ◌++◌, take, flat_map}
use Rattle.configuration.specs.Warnings.{row_warnings}
use Rattle.configuration.proofs.warnings.add_all_rows.Given as goal

-- what was there, and the rows that are warned of in the ways so far
abbrev pub invariant-loop-warning : goal.invariant-loop-warning
invariant-loop-warning l =
    l.warnings.items ≡ l.fn.warnings.items ++ flat_map (row_warnings l.rows) (take l.warning-index l.ways)
