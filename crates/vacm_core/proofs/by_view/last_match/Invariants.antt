use Rattle.vacm_core.specs.OfView.{HaveNot}
use Rattle.vacm_core.proofs.by_view.last_match.Given as goal

-- no row of those behind is of the view and has the name
abbrev pub invariant-loop-k : goal.invariant-loop-k
invariant-loop-k l = HaveNot l.rows l.view l.name l.numbers l.k
