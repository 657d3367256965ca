use Rattle.std.proofs.Common.{◌≡◌, ◌↔◌, ◌+◌, ◌<◌, ◌≤◌, ◌∙◌, sym, ap, subst, List, length, map, IfSome, IsSome, arith, rules}
use Rattle.message_core.specs.declared.status.ErrorStatus.TheVariants.{NoAccess}
use Rattle.vacm_core.specs.Families.{NamesFamilyOf}
use Rattle.setphase_core.specs.declared.sets.SetRefusal.{SetRefusal}
use Rattle.setphase_core.specs.declared.world.World.{World}
use Rattle.setphase_core.specs.Objects.{ObjectRow, ObjectState, object_after_release}
use Rattle.setphase_core.specs.Registry.{rows_of, held_count}
use Rattle.setphase_core.specs.Variables.{writings}
use Rattle.setphase_core.specs.Together.{assignments, refusal_of}
use Rattle.setphase_core.specs.Calls.{calls_of, object_after_set, FollowPlans}
use Rattle.setphase_core.specs.Outcomes.{AreNotes, committed_of, notes_in, refusal_in, world_after_set}
use Rattle.setphase_core.specs.Staging.{static_count}
use Rattle.setphase_core.proofs.Released.{rows_of-released}
use Rattle.setphase_core.proofs.Runs.{fresh, released-twice, dropped, dropped_plans, ok_then, err_then, either_way}
use Rattle.setphase_core.proofs.Reported.{refusal_numbered, failed_numbered, refusal_family, refusal_no_access}
use Rattle.setphase_core.proofs.Kept.{set_keeps, rows_of-after, held_count-after, held_count-released, kept_itself}
use Rattle.setphase_core.proofs.sets.run_with.Goals as goal

-- The rows of a registry that was released.
rows_same : (os ns : List ObjectState) → ns ≡ map object_after_release os → rows_of ns ≡ rows_of os
rows_same os ns e = ap rows_of e ∙ rows_of-released os

pub returns-clause-refusal : goal.returns-clause-refusal
returns-clause-refusal g c =
    let rows = rows_same c.args.registry.now c.with_places-staging.result.registry.now c.with_places-staging.ensures.registry in
    ok_then c.run_staged.result c.run_staged.ensures.refusal (λ outcome h.
    h ∙ ap (λ (rs : List ObjectRow). refusal_of rs c.args.world.now c.args.view.now c.args.bindings.now) rows)

pub returns-clause-notes : goal.returns-clause-notes
returns-clause-notes g c =
    let rows = rows_same c.args.registry.now c.with_places-staging.result.registry.now c.with_places-staging.ensures.registry in
    ok_then c.run_staged.result c.run_staged.ensures.notes (λ outcome h.
    subst (λ (rs : List ObjectRow). AreNotes (writings rs c.args.world.now c.args.bindings.now) (notes_in outcome)) rows h)

pub returns-clause-world : goal.returns-clause-world
returns-clause-world g c =
    let rows = rows_same c.args.registry.now c.with_places-staging.result.registry.now c.with_places-staging.ensures.registry in
    ok_then c.run_staged.result c.run_staged.ensures.world (λ outcome h.
    h ∙ ap (λ (rs : List ObjectRow). world_after_set (refusal_in outcome) (writings rs c.args.world.now c.args.bindings.now) c.args.world.now (notes_in outcome)) rows)

pub returns-clause-objects : goal.returns-clause-objects
returns-clause-objects g c =
    let rows = rows_same c.args.registry.now c.with_places-staging.result.registry.now c.with_places-staging.ensures.registry in
    ok_then c.run_staged.result c.run_staged.ensures.objects (λ outcome h.
    dropped c.args.registry.now c.run_staged.new.staging.registry.now _ c.with_places-staging.result.registry.now (calls_of (refusal_in outcome) (writings (rows_of c.args.registry.now) c.args.world.now c.args.bindings.now) (notes_in outcome)) (search rules)
    (h ∙ ap (λ (rs : List ObjectRow). map (object_after_set (calls_of (refusal_in outcome) (writings rs c.args.world.now c.args.bindings.now) (notes_in outcome))) c.with_places-staging.result.registry.now) rows)
    c.with_places-staging.ensures.registry)

pub returns-clause-by_plan : goal.returns-clause-by_plan
returns-clause-by_plan g c =
    let rows = rows_same c.args.registry.now c.with_places-staging.result.registry.now c.with_places-staging.ensures.registry in
    ok_then c.run_staged.result c.run_staged.ensures.by_plan (λ outcome h.
    dropped_plans c.args.registry.now c.with_places-staging.result.registry.now (calls_of (refusal_in outcome) (writings (rows_of c.args.registry.now) c.args.world.now c.args.bindings.now) (notes_in outcome))
    (subst (λ (rs : List ObjectRow). FollowPlans (calls_of (refusal_in outcome) (writings rs c.args.world.now c.args.bindings.now) (notes_in outcome)) c.with_places-staging.result.registry.now) rows h)
    c.with_places-staging.ensures.registry)

pub returns-clause-refused_index : goal.returns-clause-refused_index
returns-clause-refused_index g c =
    ok_then c.run_staged.result (returns-clause-refusal g c) (λ outcome h.
    subst (λ o. IfSome o (λ (r : SetRefusal). (1 ≤ r.index) × (r.index ≤ length c.args.bindings.now))) (sym h)
    (refusal_numbered (rows_of c.args.registry.now) c.args.world.now c.args.view.now c.args.bindings.now))

pub returns-clause-failed_index : goal.returns-clause-failed_index
returns-clause-failed_index g c =
    ok_then c.run_staged.result (returns-clause-notes g c) (λ outcome h.
    failed_numbered (rows_of c.args.registry.now) c.args.world.now c.args.bindings.now (notes_in outcome) h)

pub returns-clause-family : goal.returns-clause-family
returns-clause-family g c =
    ok_then c.run_staged.result (returns-clause-refusal g c) (λ outcome h.
    subst (λ o. IfSome o (λ (r : SetRefusal). IfSome r.family (λ answer. NamesFamilyOf c.args.world.now.policy.vacm.families answer))) (sym h)
    (refusal_family (rows_of c.args.registry.now) c.args.world.now c.args.view.now c.args.bindings.now))

pub returns-clause-no_access : goal.returns-clause-no_access
returns-clause-no_access g c =
    ok_then c.run_staged.result (returns-clause-refusal g c) (λ outcome h.
    subst (λ o. IfSome o (λ (r : SetRefusal). (r.status ≡ NoAccess) ↔ IsSome r.family)) (sym h)
    (refusal_no_access (rows_of c.args.registry.now) c.args.world.now c.args.view.now c.args.bindings.now))

pub returns-clause-accepted : goal.returns-clause-accepted
returns-clause-accepted g c =
    let rows = rows_same c.args.registry.now c.with_places-staging.result.registry.now c.with_places-staging.ensures.registry in
    err_then c.run_staged.result c.run_staged.ensures.accepted (λ h.
    ap (λ (rs : List ObjectRow). refusal_of rs c.args.world.now c.args.view.now c.args.bindings.now) (sym rows) ∙ h)

pub returns-clause-writes_static : goal.returns-clause-writes_static
returns-clause-writes_static g c =
    let rows = rows_same c.args.registry.now c.with_places-staging.result.registry.now c.with_places-staging.ensures.registry in
    err_then c.run_staged.result c.run_staged.ensures.writes_static
    (subst (λ (rs : List ObjectRow). 0 < static_count (assignments (writings rs c.args.world.now c.args.bindings.now))) rows)

pub returns-clause-lacks : goal.returns-clause-lacks
returns-clause-lacks g c =
    let w : World = c.args.world.now in
    let rows = rows_same c.args.registry.now c.with_places-staging.result.registry.now c.with_places-staging.ensures.registry in
    err_then c.run_staged.result c.run_staged.ensures.lacks
    (subst (λ (rs : List ObjectRow). w.bridge.statics.places < length w.bridge.statics.rows + static_count (assignments (committed_of (writings rs c.args.world.now c.args.bindings.now)))) rows)

pub returns-clause-uncalled : goal.returns-clause-uncalled
returns-clause-uncalled g c =
    err_then c.run_staged.result c.run_staged.ensures.uncalled (λ h.
    ended_as c.args.registry.now c.with_places-staging.result.registry.now c.run_staged.new.staging.registry.now _ (search rules) h c.with_places-staging.ensures.registry)
  where
    ended_as : (os before now ns : List ObjectState) → ns ≡ map object_after_release now →
        map object_after_release now ≡ map object_after_release before → before ≡ map object_after_release os →
        ns ≡ map object_after_release os
    ended_as os before now ns e same released =
        e ∙ same ∙ ap (map object_after_release) released ∙ released-twice os

pub returns-clause-settings : goal.returns-clause-settings
returns-clause-settings g c =
    either_way c.run_staged.result (returns-clause-world g c) c.run_staged.ensures.unchanged
    (λ outcome h. set_keeps (refusal_in outcome) (writings (rows_of c.args.registry.now) c.args.world.now c.args.bindings.now) c.args.world.now c.run_staged.new.world (notes_in outcome) h)
    (λ same. kept_itself c.args.world.now c.run_staged.new.world same)

pub returns-clause-rows : goal.returns-clause-rows
returns-clause-rows g c =
    either_way c.run_staged.result (returns-clause-objects g c) (returns-clause-uncalled g c)
    (λ outcome h. ap rows_of h ∙ rows_of-after (calls_of (refusal_in outcome) (writings (rows_of c.args.registry.now) c.args.world.now c.args.bindings.now) (notes_in outcome)) c.args.registry.now)
    (λ released. ap rows_of released ∙ rows_of-released c.args.registry.now)

pub returns-clause-held : goal.returns-clause-held
returns-clause-held g c =
    either_way c.run_staged.result (returns-clause-objects g c) (returns-clause-uncalled g c)
    (λ outcome h. ap held_count h ∙ held_count-after (calls_of (refusal_in outcome) (writings (rows_of c.args.registry.now) c.args.world.now c.args.bindings.now) (notes_in outcome)) c.args.registry.now)
    (λ released. ap held_count released ∙ held_count-released c.args.registry.now)

pub run_staged-requires : goal.run_staged-requires
run_staged-requires g c = (
  omega arith,
  (
    omega arith,
    (
      omega arith,
      (
        fresh c.args.registry.now c.with_places-staging.result.registry.now c.with_places-staging.ensures.registry,
        (c.with_places-staging.ensures.staged, (c.with_places-staging.ensures.tested, (c.with_places-staging.ensures.committed, c.with_places-staging.ensures.under_way c.args.world.now))),
      ),
    ),
  ),
)

pub with_places-staging-requires : goal.with_places-staging-requires
with_places-staging-requires g c = omega arith

pub drop-staging-requires : goal.drop-staging-requires
drop-staging-requires g c = omega arith
