use Rattle.vacm_core.specs.Trees.{reaches}
use Rattle.vacm_core.proofs.Marks.{at_run, runs_cleared}
use Rattle.vacm_core.proofs.radix.Radix.+clear.Goals as goal

pub returns-in-Segment : goal.returns-in-Segment
returns-in-Segment t c way row e =
    let run = c.deref_mut-run.result.now in
    runs_cleared run.loose run.parts.items (λ rest. reaches run.below rest row) (λ rest. reaches c.clear.new.self rest row) (λ rest on. c.clear.ensures rest row on) way
    (at_run c.args.self.now c.in-Segment.run' c.in-Segment.is run c.deref_mut-run.ensures.value way row e)
