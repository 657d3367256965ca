use Rattle.std.proofs.Common.{◌≡◌, ◌∙◌, ◌+◌, ◌<◌, ap, sym, refl, subst, List, length, map, Option, None}
use Rattle.setphase_core.specs.declared.object.Assignment.{Assignment}
use Rattle.setphase_core.specs.Staging.{static_count}
use Rattle.setphase_core.specs.declared.sets.SetRefusal.{SetRefusal}
use Rattle.setphase_core.specs.declared.staging.Staged.{Staged}
use Rattle.setphase_core.specs.declared.world.World.{World}
use Rattle.setphase_core.specs.Calls.{calls_of, object_after_set, FollowPlans}
use Rattle.setphase_core.specs.Objects.{ObjectRow, ObjectState, object_after_release}
use Rattle.setphase_core.specs.Outcomes.{notes_in, world_after_set}
use Rattle.setphase_core.specs.Registry.{rows_of}
use Rattle.setphase_core.specs.Tested.{AreStaged}
use Rattle.setphase_core.specs.Variables.{NamedAssignment, writings}
use Rattle.setphase_core.proofs.Called.{no_plans, plans_since}
use Rattle.setphase_core.proofs.Released.{rows_of-released}
use Rattle.setphase_core.proofs.Reserving.{some_static}
use Rattle.setphase_core.proofs.Runs.{after-released, ok_then, ok_both, err_then}
use Rattle.setphase_core.proofs.Same.{same_itself_of}
use Rattle.setphase_core.proofs.sets.run_staged.Goals as goal

-- Objects that are the same but for what they have reserved have the same rows.
same_rows : (os ns : List ObjectState) → map object_after_release ns ≡ map object_after_release os → rows_of ns ≡ rows_of os
same_rows os ns released = sym (rows_of-released ns) ∙ ap rows_of released ∙ rows_of-released os

staged_for : (os ns : List ObjectState) (ws : List NamedAssignment) (es : List Staged) → map object_after_release ns ≡ map object_after_release os →
    AreStaged (rows_of os) ws es → AreStaged (rows_of ns) ws es
staged_for os ns ws es released h = subst (λ (rows : List ObjectRow). AreStaged rows ws es) (sym (same_rows os ns released)) h

pub returns-in-Some-clause-changed : goal.returns-in-Some-clause-changed
returns-in-Some-clause-changed g c = same_itself_of c.args.world.now c.args.world.now refl

pub returns-in-Some-clause-by_plan : goal.returns-in-Some-clause-by_plan
returns-in-Some-clause-by_plan g c = no_plans c.args.staging.now.registry.now

pub returns-in-None-clause-notes : goal.returns-in-None-clause-notes
returns-in-None-clause-notes g c =
    let os : List ObjectState = c.args.staging.now.registry.now in
    let ws : List NamedAssignment = writings (rows_of c.args.staging.now.registry.now) c.args.world.now c.args.bindings.now in
    let staged = staged_for os c.refused.new.staging.registry.now ws c.refused.new.staging.staged.items c.refused.ensures.released c.in-None.ensures.ready.staged in
    ok_then c.commit_reserved.result c.commit_reserved.ensures.notes (λ outcome h. h ws staged)

pub returns-in-None-clause-world : goal.returns-in-None-clause-world
returns-in-None-clause-world g c =
    let os : List ObjectState = c.args.staging.now.registry.now in
    let w : World = c.args.world.now in
    let ws : List NamedAssignment = writings (rows_of c.args.staging.now.registry.now) c.args.world.now c.args.bindings.now in
    let staged = staged_for os c.refused.new.staging.registry.now ws c.refused.new.staging.staged.items c.refused.ensures.released c.in-None.ensures.ready.staged in
    ok_both c.commit_reserved.result c.commit_reserved.ensures.accepted c.commit_reserved.ensures.world (λ outcome none h.
    h ws staged c.in-None.ensures.ready.same
    ∙ ap (λ (refusal : Option SetRefusal). world_after_set refusal ws w (notes_in outcome)) (sym none))

pub returns-in-None-clause-objects : goal.returns-in-None-clause-objects
returns-in-None-clause-objects g c =
    let os : List ObjectState = c.args.staging.now.registry.now in
    let ns : List ObjectState = c.refused.new.staging.registry.now in
    let ws : List NamedAssignment = writings (rows_of c.args.staging.now.registry.now) c.args.world.now c.args.bindings.now in
    let staged = staged_for os ns ws c.refused.new.staging.staged.items c.refused.ensures.released c.in-None.ensures.ready.staged in
    ok_both c.commit_reserved.result c.commit_reserved.ensures.accepted c.commit_reserved.ensures.objects (λ outcome none h.
    h ws staged
    ∙ sym (after-released (calls_of None ws (notes_in outcome)) ns)
    ∙ ap (map (object_after_set (calls_of None ws (notes_in outcome)))) c.refused.ensures.released
    ∙ after-released (calls_of None ws (notes_in outcome)) os
    ∙ ap (λ (refusal : Option SetRefusal). map (object_after_set (calls_of refusal ws (notes_in outcome))) os) (sym none))

pub returns-in-None-clause-by_plan : goal.returns-in-None-clause-by_plan
returns-in-None-clause-by_plan g c =
    let os : List ObjectState = c.args.staging.now.registry.now in
    let ns : List ObjectState = c.refused.new.staging.registry.now in
    let ws : List NamedAssignment = writings (rows_of c.args.staging.now.registry.now) c.args.world.now c.args.bindings.now in
    let staged = staged_for os ns ws c.refused.new.staging.staged.items c.refused.ensures.released c.in-None.ensures.ready.staged in
    ok_both c.commit_reserved.result c.commit_reserved.ensures.accepted c.commit_reserved.ensures.by_plan (λ outcome none h.
    subst (λ (refusal : Option SetRefusal). FollowPlans (calls_of refusal ws (notes_in outcome)) os) (sym none)
    (plans_since (calls_of None ws (notes_in outcome)) ns os c.refused.ensures.released (h ws staged)))

pub returns-in-None-clause-writes_static : goal.returns-in-None-clause-writes_static
returns-in-None-clause-writes_static g c =
    let ws : List NamedAssignment = writings (rows_of c.args.staging.now.registry.now) c.args.world.now c.args.bindings.now in
    err_then c.commit_reserved.result c.commit_reserved.ensures.writes_static
    (some_static ws c.refused.new.staging.staged.items c.in-None.ensures.ready.staged.written)

pub returns-in-None-clause-lacks : goal.returns-in-None-clause-lacks
returns-in-None-clause-lacks g c =
    let w : World = c.args.world.now in
    err_then c.commit_reserved.result c.commit_reserved.ensures.lacks
    (subst (λ (ps : List Assignment). w.bridge.statics.places < length w.bridge.statics.rows + static_count ps) c.in-None.ensures.ready.staged.written)
