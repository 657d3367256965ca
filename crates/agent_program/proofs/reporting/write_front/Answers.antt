use Rattle.std.proofs.Common.{◌≡◌, drop, ap, arith}
use Rattle.std.proofs.lemmas.Grind.{common_steps}
use Rattle.agent_program.proofs.FrontLemmas.{part_more, part_kept}
use Rattle.agent_program.proofs.reporting.write_front.Goals as goal
use Rattle.agent_program.proofs.reporting.write_front.Goals.{in-Ok, in-Err}

pub loop-preserved : goal.loop-preserved
loop-preserved g c =
    elim c.match-write.branch [
      | in-Ok w ↦
          let rest : c.match-write.rest.now ≡ drop w.in-Ok.n c.loop.rest.now = grind (arith, common_steps, ap (λ r. r.now) w.rest-is) in
          rw rest (part_more _ _ _ _ _ _ c.loop.invariant w.in-Ok.ensures.bytes)
      | in-Err w ↦ rw w.rest-is (part_kept _ _ _ _ _ c.loop.invariant w.in-Err.ensures.bytes)
    ]
