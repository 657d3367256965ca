use Rattle.manager_core.proofs.Fronts.{IsPart}
use Rattle.manager_core.proofs.writing.write_front.Given as goal

-- what stands before the rest was taken
abbrev pub invariant-loop : goal.invariant-loop
invariant-loop g l = IsPart (g.O.Write.contents l.fn.out) (g.O.Write.contents l.out) l.fn.octets l.rest
