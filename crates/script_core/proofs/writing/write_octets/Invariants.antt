use Rattle.std.proofs.Common.{◌≡◌, ◌++◌}
use Rattle.script_core.specs.Runs.{Writes}
use Rattle.script_core.proofs.writing.write_octets.Given as goal

-- what was written so far, and the octets that are left, are all
abbrev pub invariant-loop : goal.invariant-loop
invariant-loop g l = Writes (g.W.Write.contents l.fn.writer) (g.W.Write.contents l.writer) (λ text. l.octets ≡ text ++ l.rest)
