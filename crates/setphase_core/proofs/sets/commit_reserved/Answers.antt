use Rattle.std.proofs.Common.{◌≡◌, ◌∙◌, ℕ, ◌+◌, ◌<◌, ◌≤◌, inl, inr, true, false, ap, sym, subst, not, List, length, max, arith}
use Rattle.std.proofs.lemmas.Bool.{cases_lt}
use Rattle.fdb_core.specs.Statics.{with_places_for}
use Rattle.bridge_core.specs.Bridge.{BridgeState}
use Rattle.setphase_core.specs.declared.staging.Staged.{Staged}
use Rattle.setphase_core.specs.declared.world.World.{World}
use Rattle.setphase_core.specs.Settings.{bridge_keys, same_settings_of}
use Rattle.setphase_core.specs.Together.{assign, assignments}
use Rattle.setphase_core.specs.Outcomes.{notes_in, world_by}
use Rattle.setphase_core.specs.Staging.{assignments_of, static_count, IsUnderWay}
use Rattle.setphase_core.proofs.States.{on_err_always}
use Rattle.setphase_core.proofs.Reserving.{with_places, under_way_with, space_with, assign_with, after_with, after_places, same_with, places_back}
use Rattle.setphase_core.proofs.sets.commit_reserved.Goals as goal

pub hold_static-requires : goal.hold_static-requires
hold_static-requires g c =
    let w : World = c.args.world.now in
    let reserved = ap (λ (b : BridgeState). b.statics.places) c.in_ok-reserve_static.ensures.ok in
    omega (arith, c.static_places-places.ensures, reserved, c.commit_staged-outcome.ensures.places)

pub returns-clause-world : goal.returns-clause-world
returns-clause-world g c = λ ws staged agree.
    let w : World = c.args.world.now in
    let es = assignments_of c.args.staging.now.staged.items in
    let notes = notes_in c.commit_staged-outcome.result in
    let undos = bridge_keys notes.undos in
    let places : ℕ = max w.bridge.statics.places (length w.bridge.statics.rows + c.count_static.result) in
    let before : ℕ = c.static_places-places.result in
    let after : World = c.commit_staged-outcome.new.world in
    let moved : record w { bridge = c.reserve_static.new.self } ≡ with_places places w =
    ap (λ (b : BridgeState). record w { bridge = b }) c.in_ok-reserve_static.ensures.ok in
    let agreed : assign (assignments ws) (record w { bridge = c.reserve_static.new.self }) ≡ assign es (record w { bridge = c.reserve_static.new.self }) =
    ap (assign (assignments ws)) moved ∙ assign_with places (assignments ws) w ∙ ap (with_places places) agree ∙ sym (assign_with places es w) ∙ sym (ap (assign es) moved) in
    let ended : after ≡ with_places places (world_by ws w notes.commit undos) =
    c.commit_staged-outcome.ensures.world ws staged agreed ∙ ap (λ (v : World). world_by ws v notes.commit undos) moved ∙ after_with places ws w notes.commit undos in
    ap (λ (b : BridgeState). record after { bridge = b }) c.hold_static.ensures.held
    ∙ ap (with_places before) ended
    ∙ places_back before places (world_by ws w notes.commit undos) (c.static_places-places.ensures ∙ sym (after_places ws w notes.commit undos))

-- What is not within what was sure, was not sure.
not_within : (p q : ℕ) → (q ≤ p → ⊥) → p < q
not_within p q never = elim (cases_lt p q) [
  | inl less ↦ less
  | inr within ↦ absurd (never within)
]

pub returns-in_err-reserve_static-clause-lacks : goal.returns-in_err-reserve_static-clause-lacks
returns-in_err-reserve_static-clause-lacks g c =
    let w : World = c.args.world.now in
    let es = c.args.staging.now.staged.items in
    on_err_always c.from_residual.result
    (not_within w.bridge.statics.places (length w.bridge.statics.rows + static_count (assignments_of es))
    (λ within.
    let is : false ≡ true = c.in_err-reserve_static.ensures.within (omega (arith, within, c.count_static.ensures.count, ap (λ (xs : List Staged). static_count (assignments_of xs)) c.as_slice-staged.ensures.value)) in
    absurd (cc)))

pub commit_staged-outcome-requires : goal.commit_staged-outcome-requires
commit_staged-outcome-requires g c =
    let w : World = c.args.world.now in
    let es = assignments_of c.args.staging.now.staged.items in
    let places : ℕ = max w.bridge.statics.places (length w.bridge.statics.rows + c.count_static.result) in
    let moved : record w { bridge = c.reserve_static.new.self } ≡ with_places places w =
    ap (λ (b : BridgeState). record w { bridge = b }) c.in_ok-reserve_static.ensures.ok in
    let fits = c.well_formed in (
      omega arith,
      (
        c.requires.most,
        (
          c.requires.none,
          (
            subst (λ (v : World). IsUnderWay v c.args.staging.now.registry.now c.args.staging.now.staged.items c.args.staging.now.tested c.args.staging.now.committed) (sym moved)
                (under_way_with places w c.args.staging.now.registry.now c.args.staging.now.staged.items c.args.staging.now.tested c.args.staging.now.committed c.requires.under_way),
            (
              c.requires.distinct,
              (
                space_with w es _ (ap (λ (b : BridgeState). record w { bridge = b }) c.in_ok-reserve_static.ensures.ok
                    ∙ ap (λ (n : ℕ). record w { bridge = record w.bridge { statics = with_places_for n w.bridge.statics } }) (c.count_static.ensures.count ∙ ap (λ (xs : List Staged). static_count (assignments_of xs)) c.as_slice-staged.ensures.value)),
                c.changes-changed.ensures
                    ∙ ap (λ (xs : List Staged). not (same_settings_of w (assign (assignments_of xs) w))) c.as_slice-staged.ensures.value
                    ∙ ap not (same_with places w (assign es w))
                    ∙ ap (λ (v : World). not (same_settings_of (with_places places w) v)) (sym (assign_with places es w))
                    ∙ ap (λ (v : World). not (same_settings_of v (assign es v))) (sym moved),
              ),
            ),
          ),
        ),
      ),
    )
