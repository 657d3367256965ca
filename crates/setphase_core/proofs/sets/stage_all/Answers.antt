use Rattle.std.proofs.Common.{◌∙◌, refl, sym, ap, subst, add-one, cond, map, [], ◌∷◌, Some, None, ◌+◌, ℕ}
use Rattle.setphase_core.specs.Objects.{object_after_release}
use Rattle.setphase_core.specs.Registry.{rows_of}
use Rattle.setphase_core.specs.Together.{is_timer}
use Rattle.setphase_core.specs.Tested.{first_in, is_contradicting, IsFaulty, IsPassed}
use Rattle.setphase_core.proofs.Stages.{Stages, legal_staged, stages_begin, stage_step, stage_refused}
use Rattle.setphase_core.proofs.States.{reserved-released}
use Rattle.setphase_core.proofs.sets.stage_all.Goals as goal

pub loop-i-init : goal.loop-i-init
loop-i-init g c = record {
  under_way = c.requires.under_way;
  same_reference = refl;
  committed = refl;
  tested = c.requires.tested;
  released = refl;
  stages = subst (λ es. Stages (rows_of c.args.staging.now.registry.now) c.args.world.now c.args.view.now c.args.bindings.now c.args.staging.now.registry.now es None None 0) (sym c.requires.staged)
      (stages_begin c.args.world.now c.args.view.now c.args.bindings.now c.args.staging.now.registry.now c.requires.fresh);
}

pub returns-in-Err-clause-refused : goal.returns-in-Err-clause-refused
returns-in-Err-clause-refused g c =
    ap Some c.refusal_for.ensures
    ∙ stage_refused (rows_of c.args.staging.now.registry.now) c.args.world.now c.args.view.now c.args.bindings.now c.loop-i.staging.registry.now c.loop-i.staging.staged.items c.loop-i.joint.contradiction c.loop-i.joint.timer c.loop-i.i c.index-bindings-i.result c.in-Err.fault c.loop-i-test.true c.loop-i.invariant.stages
    (subst (λ b. IsFaulty c.loop-i.staging.registry.now c.args.world.now c.args.view.now c.loop-i.i b c.in-Err.fault) c.index-bindings-i.is
    (subst (λ n. IsFaulty c.loop-i.staging.registry.now c.args.world.now c.args.view.now n c.index-bindings-i.result c.in-Err.fault) c.loop-i.invariant.tested c.in-Err.ensures.fault))

pub loop-i-preserved : goal.loop-i-preserved
loop-i-preserved g c =
    let i = c.loop-i.invariant in
    let passed : IsPassed c.loop-i.staging.registry.now c.stage.new.self.registry.now c.args.world.now c.args.view.now c.loop-i.i _ c.loop-i.staging.staged.items c.stage.new.self.staged.items c.in-Ok.variable
    = subst (λ b. IsPassed c.loop-i.staging.registry.now c.stage.new.self.registry.now c.args.world.now c.args.view.now c.loop-i.i b c.loop-i.staging.staged.items c.stage.new.self.staged.items c.in-Ok.variable) c.index-bindings-i.is
    (subst (λ n. IsPassed c.loop-i.staging.registry.now c.stage.new.self.registry.now c.args.world.now c.args.view.now n c.index-bindings-i.result c.loop-i.staging.staged.items c.stage.new.self.staged.items c.in-Ok.variable) i.tested c.in-Ok.ensures.passed) in
    let after = stage_step (rows_of c.args.staging.now.registry.now) c.args.world.now c.args.view.now c.args.bindings.now c.loop-i.staging.registry.now c.stage.new.self.registry.now c.loop-i.staging.staged.items c.stage.new.self.staged.items c.loop-i.joint.contradiction c.loop-i.joint.timer c.loop-i.i c.index-bindings-i.result c.in-Ok.variable
    (legal_staged c.args.world.now c.stage.new.self.registry.now c.stage.new.self.staged.items c.stage.new.self.tested c.stage.new.self.committed c.stage.ensures.under_way) c.loop-i-test.true i.stages passed in
    record {
      under_way = c.stage.ensures.under_way;
      same_reference = c.stage.ensures.same_reference ∙ i.same_reference;
      committed = c.stage.ensures.committed ∙ i.committed;
      tested = c.in-Ok.ensures.tested ∙ ap (λ n. n + 1) i.tested;
      released = ap (map object_after_release) passed.at.reserved ∙ reserved-released c.loop-i.staging.registry.now passed.place passed.slot ∙ i.released;
      stages =
          subst (λ k. Stages (rows_of c.args.staging.now.registry.now) c.args.world.now c.args.view.now c.args.bindings.now c.stage.new.self.registry.now c.stage.new.self.staged.items k c.noted-joint.result.timer (c.loop-i.i + 1)) (sym c.noted-joint.ensures.contradiction)
          (subst (λ k. Stages (rows_of c.args.staging.now.registry.now) c.args.world.now c.args.view.now c.args.bindings.now c.stage.new.self.registry.now c.stage.new.self.staged.items (first_in c.loop-i.joint.contradiction (cond (is_contradicting c.in-Ok.variable.standing) ((c.loop-i.i + 1) ∷ []) [])) k (c.loop-i.i + 1)) (sym c.noted-joint.ensures.timer)
          (subst (λ (n : ℕ). Stages (rows_of c.args.staging.now.registry.now) c.args.world.now c.args.view.now c.args.bindings.now c.stage.new.self.registry.now c.stage.new.self.staged.items (first_in c.loop-i.joint.contradiction (cond (is_contradicting c.in-Ok.variable.standing) (n ∷ []) [])) (first_in c.loop-i.joint.timer (cond (is_timer c.in-Ok.variable.key) (n ∷ []) [])) n) (sym (add-one c.loop-i.i))
          after));
    }
