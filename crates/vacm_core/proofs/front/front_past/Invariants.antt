use Rattle.std.proofs.Common.{◌≡◌, drop, Some}
use Rattle.vacm_core.specs.Fronts.{is_rival, front_past}
use Rattle.vacm_core.proofs.front.front_past.Given as goal

-- the rows that are left decide
abbrev pub invariant-loop-row : goal.invariant-loop-row
invariant-loop-row l =
    front_past (is_rival l.rows l.view l.decides) l.name (Some l.least) l.rows
    ≡ front_past (is_rival l.rows l.view l.decides) l.name (Some l.front) (drop l.row-index l.rows)
