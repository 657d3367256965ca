use Rattle.agent_program.proofs.FrontLemmas.{IsPart}
use Rattle.agent_program.proofs.reporting.write_front.Given as goal

-- what stands before the rest was taken
abbrev pub invariant-loop : goal.invariant-loop
invariant-loop g l = IsPart (g.W.Write.contents l.fn.writer) (g.W.Write.contents l.writer) l.fn.octets l.rest
