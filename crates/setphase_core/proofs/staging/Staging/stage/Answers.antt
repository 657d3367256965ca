use Rattle.std.proofs.Common.{rules, ◌≡◌, ◌<◌, ◌∙◌, ap, sym, subst, length, map, slice_set, IfOk, arith}
use Rattle.oid_core.specs.Order.{is_prefix}
use Rattle.setphase_core.specs.Objects.{object_after_release, reserve}
use Rattle.setphase_core.specs.Registry.{rows_of, prefixes_of}
use Rattle.setphase_core.specs.Searching.{prefix_at}
use Rattle.setphase_core.specs.Staging.{object_at, IsUnderWay}
use Rattle.setphase_core.specs.Tested.{IsPassed}
use Rattle.setphase_core.proofs.UnderWay.{test_answered}
use Rattle.setphase_core.proofs.Writings.{owner_within}
use Rattle.setphase_core.proofs.States.{prefix_of_object, reserved-released, on_err_always}
use Rattle.setphase_core.proofs.staging.Staging.stage.Goals as goal

pub test-requires-clause-begun : goal.test-requires-clause-begun
test-requires-clause-begun g c =
    ap (λ prefix. is_prefix prefix c.args.binding.now.name) (sym (prefix_of_object c.args.self.now.registry.now c.in-Some.place))
    ∙ ap (is_prefix (prefix_at (prefixes_of (rows_of c.args.self.now.registry.now)) c.in-Some.place)) (sym c.as_slice.ensures.value)
    ∙ c.in-Some.ensures.1

pub returns-in-Ok-clause-released : goal.returns-in-Ok-clause-released
returns-in-Ok-clause-released g c =
    on_err_always c.keep.result
    (ap (map object_after_release) (c.keep.ensures.registry ∙ c.in-Ok.ensures.reserved)
    ∙ reserved-released c.args.self.now.registry.now c.in-Some.place c.in-Ok.slot)

pub returns-in-Ok-clause-under_way : goal.returns-in-Ok-clause-under_way
returns-in-Ok-clause-under_way g c =
    let w = c.args.world.now in
    let os = c.args.self.now.registry.now in
    let es = c.args.self.now.staged.items in
    let t = c.args.self.now.tested in
    let within : c.in-Some.place < length c.args.self.now.registry.now = owner_within c.args.self.now.registry.now _ c.in-Some.place c.in-Some.ensures in
    let is : c.keep.new.self.registry.now ≡ slice_set c.args.self.now.registry.now c.in-Some.place (reserve (object_at c.args.self.now.registry.now c.in-Some.place) c.in-Ok.slot)
    = c.keep.ensures.registry ∙ c.in-Ok.ensures.reserved in
    let passed : IfOk c.keep.result (λ v. IsPassed c.args.self.now.registry.now c.keep.new.self.registry.now c.args.world.now c.args.view.now c.args.self.now.tested c.args.binding.now c.args.self.now.staged.items c.keep.new.self.staged.items v) = search rules in
    subst (IsUnderWay c.args.world.now c.keep.new.self.registry.now c.keep.new.self.staged.items c.keep.new.self.tested) (sym c.keep.ensures.committed)
    (test_answered c.keep.result w c.args.view.now c.args.binding.now os c.keep.new.self.registry.now es c.keep.new.self.staged.items t c.keep.new.self.tested c.args.self.now.committed c.in-Some.place c.in-Ok.slot
    (record { even = omega (arith, c.ports-ports.ensures.count, c.ports-ports.ensures.set); statics = c.known_statics.ensures }) within is passed c.keep.ensures.tested c.keep.ensures.same_staged c.keep.ensures.same_tested c.requires.under_way)
