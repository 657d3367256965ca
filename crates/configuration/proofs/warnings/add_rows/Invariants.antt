use Rattle.std.proofs.Common.{◌≡◌, ◌++◌, filter_map}
use Rattle.std.specs.List.{range_with_len}
use Rattle.configuration.specs.Warnings.{row_warning}
use Rattle.configuration.proofs.warnings.add_rows.Given as goal

-- what was there, and the rows so far that are warned of so
abbrev pub invariant-loop-n : goal.invariant-loop-n
invariant-loop-n l =
    l.warnings.items ≡ l.fn.warnings.items ++ filter_map (row_warning l.rows l.warning) (range_with_len 0 l.n)
