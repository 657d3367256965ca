use Rattle.std.proofs.Common.{◌∙◌, ap}
use Rattle.setphase_core.specs.Registry.{rows_of}
use Rattle.setphase_core.specs.Together.{assign, timers_agree}
use Rattle.setphase_core.specs.Staging.{assignments_of}
use Rattle.setphase_core.specs.Tested.{first_lacking, inconsistency}
use Rattle.setphase_core.proofs.Runs.{refused_together}
use Rattle.setphase_core.proofs.sets.refused.Goals as goal

pub returns-in-Ok-clause-refusal : goal.returns-in-Ok-clause-refusal
returns-in-Ok-clause-refusal g c =
    c.inconsistency.ensures
    ∙ ap (λ es. inconsistency c.in-Ok.joint.contradiction (first_lacking (assign (assignments_of es) c.args.world.now) es) (timers_agree (assign (assignments_of es) c.args.world.now)) c.in-Ok.joint.timer) c.as_slice.ensures.value
    ∙ refused_together (rows_of c.args.staging.now.registry.now) c.args.world.now c.args.view.now c.args.bindings.now c.stage_all.new.staging.staged.items c.in-Ok.joint.contradiction c.in-Ok.joint.timer c.in-Ok.ensures.passed
