use Rattle.std.proofs.Common.{◌++◌, ◌∙◌, ap, sym, append_assoc}
use Rattle.script_core.proofs.RunsLemmas.{Writes-more}
use Rattle.script_core.proofs.writing.write_octets.Goals as goal

pub loop-preserved : goal.loop-preserved
loop-preserved g c =
    Writes-more _ c.loop.invariant c.in_ok-rest.ensures.took (λ s t p q. p ∙ ap (λ l. s ++ l) q ∙ sym (append_assoc s t _))
