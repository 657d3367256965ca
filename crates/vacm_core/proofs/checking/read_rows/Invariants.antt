use Rattle.vacm_core.specs.Rules.{rules_of}
use Rattle.vacm_core.proofs.Right.{Reading}
use Rattle.vacm_core.proofs.checking.read_rows.Given as goal

-- the rows so far, and the written rows that are left
abbrev pub invariant-loop-row : goal.invariant-loop-row
invariant-loop-row g l =
    let w = g.W.WrittenRow in
    Reading (rules_of w.lengths w.fields w.row_of w.same_key) l.fn.written l.yielded l.row-iterator.rest.items l.row-iterator.rest.len l.rows.items
