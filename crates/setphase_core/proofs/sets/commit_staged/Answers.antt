use Rattle.std.proofs.Common.{◌≡◌, ◌∙◌, ℕ, ◌<◌, ap, sym, refl, subst, arith, not, List, [], ◌∷◌, map, length, take, slice_index_or, Some}
use Rattle.std.proofs.lemmas.List.{get_or_default}
use Rattle.setphase_core.specs.declared.staging.Staged.{Staged}
use Rattle.setphase_core.specs.declared.world.World.{World}
use Rattle.setphase_core.specs.Objects.{ObjectState}
use Rattle.setting_keys.specs.declared.SettingKey.{SettingKey}
use Rattle.setphase_core.specs.Settings.{bridge_keys, same_settings_of}
use Rattle.setphase_core.specs.Together.{assign, assignments}
use Rattle.setphase_core.specs.Calls.{calls_by, object_after_set, FollowPlans}
use Rattle.setphase_core.specs.Outcomes.{CanFail, stuck}
use Rattle.setphase_core.specs.Staging.{no_entry, entry_at, entries_of, assignments_of, AreCommitted, HasFailed}
use Rattle.setphase_core.proofs.Space.{may_undo, places-assign}
use Rattle.setphase_core.proofs.Endings.{done_objects}
use Rattle.setphase_core.proofs.Runs.{ended_notes, ended_world, ended_objects, ended_by_plan}
use Rattle.setphase_core.proofs.Same.{same_itself_of}
use Rattle.setphase_core.proofs.sets.commit_staged.Goals as goal

-- The number of an entry that is read where it stands.
number_read : (es fs : List Staged) (i : ℕ) (x : Staged) → fs ≡ es → i < length es →
    (slice_index_or fs i x).number ≡ (entry_at fs i).number
number_read es fs i x same h =
    ap (λ (e : Staged). e.number) (get_or_default fs i x no_entry (subst (λ (xs : List Staged). i < length xs) (sym same) h))

pub returns-then-is_empty-clause-notes : goal.returns-then-is_empty-clause-notes
returns-then-is_empty-clause-notes g c = λ ws staged.
    let number = number_read c.args.staging.now.staged.items c.as_slice.result.now c.in-Some.failed c.index-as_slice-failed.result (c.as_slice.ensures.value ∙ c.commit_all.ensures.staged) c.in-Some.ensures.failed.within in
    subst (λ (n : ℕ). CanFail ws (Some n) []) (sym number)
    (subst (CanFail ws (Some (entry_at c.as_slice.result.now c.in-Some.failed).number)) (ap bridge_keys (c.is_empty.ensures.0 c.if-is_empty.true))
    (ended_notes c.args.staging.now.registry.now c.commit_all.new.staging.registry.now c.undo_all-keys.new.staging.registry.now c.args.world.now c.commit_all.new.world c.undo_all-keys.new.world ws c.args.staging.now.staged.items c.commit_all.new.staging.staged.items c.as_slice.result.now c.in-Some.failed c.commit_all.new.staging.committed (bridge_keys c.undo_all-keys.result)
    staged c.requires.distinct c.commit_all.ensures.staged c.as_slice.ensures.value c.in-Some.ensures.committed c.in-Some.ensures.failed
    c.in-Some.ensures.called
    c.undo_all-keys.ensures.keys c.undo_all-keys.ensures.undone c.undo_all-keys.ensures.called))

pub returns-then-is_empty-clause-world : goal.returns-then-is_empty-clause-world
returns-then-is_empty-clause-world g c = λ ws staged agree.
    let number = number_read c.args.staging.now.staged.items c.as_slice.result.now c.in-Some.failed c.index-as_slice-failed.result (c.as_slice.ensures.value ∙ c.commit_all.ensures.staged) c.in-Some.ensures.failed.within in
    (ended_world c.args.staging.now.registry.now c.commit_all.new.staging.registry.now c.undo_all-keys.new.staging.registry.now c.args.world.now c.commit_all.new.world c.undo_all-keys.new.world ws c.args.staging.now.staged.items c.commit_all.new.staging.staged.items c.as_slice.result.now c.in-Some.failed c.commit_all.new.staging.committed (bridge_keys c.undo_all-keys.result)
    staged c.requires.distinct c.commit_all.ensures.staged c.as_slice.ensures.value c.in-Some.ensures.committed c.in-Some.ensures.failed
    c.in-Some.ensures.called
    c.undo_all-keys.ensures.keys c.undo_all-keys.ensures.undone c.undo_all-keys.ensures.called
    ∙ ap (λ keys. assign (assignments (stuck ws (entry_at c.as_slice.result.now c.in-Some.failed).number keys)) c.args.world.now) (ap bridge_keys (c.is_empty.ensures.0 c.if-is_empty.true)))
    ∙ ap (λ (n : ℕ). assign (assignments (stuck ws n [])) c.args.world.now) (sym number)

pub returns-then-is_empty-clause-objects : goal.returns-then-is_empty-clause-objects
returns-then-is_empty-clause-objects g c = λ ws staged.
    let number = number_read c.args.staging.now.staged.items c.as_slice.result.now c.in-Some.failed c.index-as_slice-failed.result (c.as_slice.ensures.value ∙ c.commit_all.ensures.staged) c.in-Some.ensures.failed.within in
    (ended_objects c.args.staging.now.registry.now c.commit_all.new.staging.registry.now c.undo_all-keys.new.staging.registry.now c.args.world.now c.commit_all.new.world c.undo_all-keys.new.world ws c.args.staging.now.staged.items c.commit_all.new.staging.staged.items c.as_slice.result.now c.in-Some.failed c.commit_all.new.staging.committed (bridge_keys c.undo_all-keys.result)
    staged c.requires.distinct c.commit_all.ensures.staged c.as_slice.ensures.value c.in-Some.ensures.committed c.in-Some.ensures.failed
    c.in-Some.ensures.called
    c.undo_all-keys.ensures.keys c.undo_all-keys.ensures.undone c.undo_all-keys.ensures.called
    ∙ ap (λ keys. map (object_after_set (calls_by ws (Some (entry_at c.as_slice.result.now c.in-Some.failed).number) keys)) c.args.staging.now.registry.now) (ap bridge_keys (c.is_empty.ensures.0 c.if-is_empty.true)))
    ∙ ap (λ (n : ℕ). map (object_after_set (calls_by ws (Some n) [])) c.args.staging.now.registry.now) (sym number)

pub returns-else-is_empty-clause-notes : goal.returns-else-is_empty-clause-notes
returns-else-is_empty-clause-notes g c = λ ws staged.
    let number = number_read c.args.staging.now.staged.items c.as_slice.result.now c.in-Some.failed c.index-as_slice-failed.result (c.as_slice.ensures.value ∙ c.commit_all.ensures.staged) c.in-Some.ensures.failed.within in
    subst (λ (n : ℕ). CanFail ws (Some n) (bridge_keys c.undo_all-keys.result)) (sym number)
    (ended_notes c.args.staging.now.registry.now c.commit_all.new.staging.registry.now c.undo_all-keys.new.staging.registry.now c.args.world.now c.commit_all.new.world c.undo_all-keys.new.world ws c.args.staging.now.staged.items c.commit_all.new.staging.staged.items c.as_slice.result.now c.in-Some.failed c.commit_all.new.staging.committed (bridge_keys c.undo_all-keys.result)
    staged c.requires.distinct c.commit_all.ensures.staged c.as_slice.ensures.value c.in-Some.ensures.committed c.in-Some.ensures.failed
    c.in-Some.ensures.called
    c.undo_all-keys.ensures.keys c.undo_all-keys.ensures.undone c.undo_all-keys.ensures.called)

pub returns-else-is_empty-clause-world : goal.returns-else-is_empty-clause-world
returns-else-is_empty-clause-world g c = λ ws staged agree.
    let number = number_read c.args.staging.now.staged.items c.as_slice.result.now c.in-Some.failed c.index-as_slice-failed.result (c.as_slice.ensures.value ∙ c.commit_all.ensures.staged) c.in-Some.ensures.failed.within in
    (ended_world c.args.staging.now.registry.now c.commit_all.new.staging.registry.now c.undo_all-keys.new.staging.registry.now c.args.world.now c.commit_all.new.world c.undo_all-keys.new.world ws c.args.staging.now.staged.items c.commit_all.new.staging.staged.items c.as_slice.result.now c.in-Some.failed c.commit_all.new.staging.committed (bridge_keys c.undo_all-keys.result)
    staged c.requires.distinct c.commit_all.ensures.staged c.as_slice.ensures.value c.in-Some.ensures.committed c.in-Some.ensures.failed
    c.in-Some.ensures.called
    c.undo_all-keys.ensures.keys c.undo_all-keys.ensures.undone c.undo_all-keys.ensures.called)
    ∙ ap (λ (n : ℕ). assign (assignments (stuck ws n (bridge_keys c.undo_all-keys.result))) c.args.world.now) (sym number)

pub returns-else-is_empty-clause-objects : goal.returns-else-is_empty-clause-objects
returns-else-is_empty-clause-objects g c = λ ws staged.
    let number = number_read c.args.staging.now.staged.items c.as_slice.result.now c.in-Some.failed c.index-as_slice-failed.result (c.as_slice.ensures.value ∙ c.commit_all.ensures.staged) c.in-Some.ensures.failed.within in
    (ended_objects c.args.staging.now.registry.now c.commit_all.new.staging.registry.now c.undo_all-keys.new.staging.registry.now c.args.world.now c.commit_all.new.world c.undo_all-keys.new.world ws c.args.staging.now.staged.items c.commit_all.new.staging.staged.items c.as_slice.result.now c.in-Some.failed c.commit_all.new.staging.committed (bridge_keys c.undo_all-keys.result)
    staged c.requires.distinct c.commit_all.ensures.staged c.as_slice.ensures.value c.in-Some.ensures.committed c.in-Some.ensures.failed
    c.in-Some.ensures.called
    c.undo_all-keys.ensures.keys c.undo_all-keys.ensures.undone c.undo_all-keys.ensures.called)
    ∙ ap (λ (n : ℕ). map (object_after_set (calls_by ws (Some n) (bridge_keys c.undo_all-keys.result))) c.args.staging.now.registry.now) (sym number)

pub returns-else-is_empty-clause-by_plan : goal.returns-else-is_empty-clause-by_plan
returns-else-is_empty-clause-by_plan g c = λ ws staged.
    let number = number_read c.args.staging.now.staged.items c.as_slice.result.now c.in-Some.failed c.index-as_slice-failed.result (c.as_slice.ensures.value ∙ c.commit_all.ensures.staged) c.in-Some.ensures.failed.within in
    subst (λ (n : ℕ). FollowPlans (calls_by ws (Some n) (bridge_keys c.undo_all-keys.result)) c.args.staging.now.registry.now) (sym number)
    (ended_by_plan c.args.staging.now.registry.now c.commit_all.new.staging.registry.now c.undo_all-keys.new.staging.registry.now c.args.world.now c.commit_all.new.world c.undo_all-keys.new.world ws c.args.staging.now.staged.items c.commit_all.new.staging.staged.items c.as_slice.result.now c.in-Some.failed c.commit_all.new.staging.committed (bridge_keys c.undo_all-keys.result)
    staged c.requires.distinct c.commit_all.ensures.staged c.as_slice.ensures.value c.in-Some.ensures.committed c.in-Some.ensures.failed
    c.in-Some.ensures.called
    c.undo_all-keys.ensures.keys c.undo_all-keys.ensures.undone c.undo_all-keys.ensures.called)

pub returns-then-is_empty-clause-by_plan : goal.returns-then-is_empty-clause-by_plan
returns-then-is_empty-clause-by_plan g c = λ ws staged.
    let number = number_read c.args.staging.now.staged.items c.as_slice.result.now c.in-Some.failed c.index-as_slice-failed.result (c.as_slice.ensures.value ∙ c.commit_all.ensures.staged) c.in-Some.ensures.failed.within in
    subst (λ (n : ℕ). FollowPlans (calls_by ws (Some n) []) c.args.staging.now.registry.now) (sym number)
    (subst (λ keys. FollowPlans (calls_by ws (Some (entry_at c.as_slice.result.now c.in-Some.failed).number) keys) c.args.staging.now.registry.now) (ap bridge_keys (c.is_empty.ensures.0 c.if-is_empty.true))
    (ended_by_plan c.args.staging.now.registry.now c.commit_all.new.staging.registry.now c.undo_all-keys.new.staging.registry.now c.args.world.now c.commit_all.new.world c.undo_all-keys.new.world ws c.args.staging.now.staged.items c.commit_all.new.staging.staged.items c.as_slice.result.now c.in-Some.failed c.commit_all.new.staging.committed (bridge_keys c.undo_all-keys.result)
    staged c.requires.distinct c.commit_all.ensures.staged c.as_slice.ensures.value c.in-Some.ensures.committed c.in-Some.ensures.failed
    c.in-Some.ensures.called
    c.undo_all-keys.ensures.keys c.undo_all-keys.ensures.undone c.undo_all-keys.ensures.called))

pub returns-in_default-clause-objects : goal.returns-in_default-clause-objects
returns-in_default-clause-objects g c = λ ws staged. (done_objects c.args.staging.now.registry.now c.commit_all.new.staging.registry.now ws c.args.staging.now.staged.items staged
    c.in_default.ensures.called).0

pub returns-in_default-clause-by_plan : goal.returns-in_default-clause-by_plan
returns-in_default-clause-by_plan g c = λ ws staged. (done_objects c.args.staging.now.registry.now c.commit_all.new.staging.registry.now ws c.args.staging.now.staged.items staged
    c.in_default.ensures.called).1

-- What is left of a Set whose commit failed, by its entries.
left_of : (w v u : World) (os : List ObjectState) (es fs : List Staged) (i n : ℕ) (keys : List SettingKey) →
    fs ≡ es → n ≡ i → HasFailed w v os es i →
    ((before : World) → AreCommitted before v os fs n → v ≡ assign (take n (assignments_of fs)) before →
    u ≡ assign (assignments_of (entries_of keys (take n fs))) before) →
    u ≡ assign (assignments_of (entries_of keys (take n fs))) w
left_of w v u os es fs i n keys kept at failed undone =
    undone w
    (subst (λ xs. AreCommitted w v os xs n) (sym kept) (subst (λ m. AreCommitted w v os es m) (sym at) failed.stands))
    (failed.world ∙ ap (λ m. assign (take m (assignments_of es)) w) (sym at) ∙ ap (λ xs. assign (take n (assignments_of xs)) w) (sym kept))

places_left : (w v u : World) (os : List ObjectState) (es fs : List Staged) (i n : ℕ) (keys : List SettingKey) →
    fs ≡ es → n ≡ i → HasFailed w v os es i →
    ((before : World) → AreCommitted before v os fs n → v ≡ assign (take n (assignments_of fs)) before →
    u ≡ assign (assignments_of (entries_of keys (take n fs))) before) →
    u.bridge.statics.places ≡ w.bridge.statics.places
places_left w v u os es fs i n keys kept at failed undone =
    ap (λ (x : World). x.bridge.statics.places) (left_of w v u os es fs i n keys kept at failed undone)
    ∙ places-assign (assignments_of (entries_of keys (take n fs))) w

-- Where all that was committed is undone, the world is that of before.
all_undone : (w v u : World) (os : List ObjectState) (es fs : List Staged) (i n : ℕ) (keys : List SettingKey) →
    fs ≡ es → n ≡ i → HasFailed w v os es i → keys ≡ [] →
    ((before : World) → AreCommitted before v os fs n → v ≡ assign (take n (assignments_of fs)) before →
    u ≡ assign (assignments_of (entries_of keys (take n fs))) before) → w ≡ u
all_undone w v u os es fs i n keys kept at failed none undone =
    sym (left_of w v u os es fs i n keys kept at failed undone
    ∙ ap (λ ks. assign (assignments_of (entries_of ks (take n fs))) w) none
    ∙ ap (λ (xs : List Staged). assign (assignments_of xs) w) (no_entries (take n fs)))
  where
    no_entries : (xs : List Staged) → entries_of [] xs ≡ []
    no_entries [] = refl
    no_entries (x ∷ xs) = no_entries xs

pub returns-then-is_empty-clause-changed : goal.returns-then-is_empty-clause-changed
returns-then-is_empty-clause-changed g c =
    same_itself_of c.args.world.now c.undo_all-keys.new.world
    (sym (all_undone c.args.world.now c.commit_all.new.world c.undo_all-keys.new.world c.commit_all.new.staging.registry.now c.args.staging.now.staged.items c.commit_all.new.staging.staged.items c.in-Some.failed c.commit_all.new.staging.committed (bridge_keys c.undo_all-keys.result)
    c.commit_all.ensures.staged c.in-Some.ensures.committed c.in-Some.ensures.failed (ap bridge_keys (c.is_empty.ensures.0 c.if-is_empty.true)) c.undo_all-keys.ensures.undone))

pub returns-in_default-clause-changed : goal.returns-in_default-clause-changed
returns-in_default-clause-changed g c =
    c.requires.changed
    ∙ ap (λ (v : World). not (same_settings_of c.args.world.now v)) (sym c.in_default.ensures.done)

pub returns-in_default-clause-world : goal.returns-in_default-clause-world
returns-in_default-clause-world g c = λ ws staged agree. c.in_default.ensures.done ∙ sym agree

pub returns-then-is_empty-clause-places : goal.returns-then-is_empty-clause-places
returns-then-is_empty-clause-places g c =
    places_left c.args.world.now c.commit_all.new.world c.undo_all-keys.new.world c.commit_all.new.staging.registry.now c.args.staging.now.staged.items c.commit_all.new.staging.staged.items c.in-Some.failed c.commit_all.new.staging.committed (bridge_keys c.undo_all-keys.result)
    c.commit_all.ensures.staged c.in-Some.ensures.committed c.in-Some.ensures.failed c.undo_all-keys.ensures.undone

pub returns-else-is_empty-clause-places : goal.returns-else-is_empty-clause-places
returns-else-is_empty-clause-places g c =
    places_left c.args.world.now c.commit_all.new.world c.undo_all-keys.new.world c.commit_all.new.staging.registry.now c.args.staging.now.staged.items c.commit_all.new.staging.staged.items c.in-Some.failed c.commit_all.new.staging.committed (bridge_keys c.undo_all-keys.result)
    c.commit_all.ensures.staged c.in-Some.ensures.committed c.in-Some.ensures.failed c.undo_all-keys.ensures.undone

pub returns-in_default-clause-places : goal.returns-in_default-clause-places
returns-in_default-clause-places g c =
    ap (λ (x : World). x.bridge.statics.places) c.in_default.ensures.done
    ∙ places-assign (assignments_of c.args.staging.now.staged.items) c.args.world.now

pub commit_all-requires : goal.commit_all-requires
commit_all-requires g c =
    let fits = c.well_formed in
    (omega arith, (c.requires.none, (c.requires.under_way, c.requires.space)))

pub undo_all-keys-requires : goal.undo_all-keys-requires
undo_all-keys-requires g c =
    let fits = c.well_formed in (
      omega arith,
      (
        c.requires.most,
        (
          c.commit_all.ensures.under_way,
          may_undo c.args.world.now c.commit_all.new.world c.commit_all.new.staging.registry.now c.args.staging.now.staged.items c.commit_all.new.staging.staged.items c.in-Some.failed c.commit_all.new.staging.committed c.in-Some.ensures.failed c.commit_all.ensures.staged c.in-Some.ensures.committed
              c.requires.space,
        ),
      ),
    )
