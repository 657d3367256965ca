-- The run of a Set, from its tests to its end.
use Rattle.std.proofs.Common.{◌≡◌, ℕ, ◌∙◌, sym, ap, subst, refl, Bool, true, false, cond, List, [], ◌∷◌, ◌++◌, map, take, slice_get, Option, Some, None, Result, Ok, Err, IfOk, OnErr}
use Rattle.std.specs.Option.{option_map, option_or}
use Rattle.message_core.specs.declared.binding.Binding.{Binding}
use Rattle.message_core.specs.declared.status.ErrorStatus.TheVariants as status
use Rattle.setting_keys.specs.declared.SettingKey.{SettingKey}
use Rattle.setphase_core.specs.declared.world.World.{World}
use Rattle.setphase_core.specs.declared.object.Assignment.{Assignment}
use Rattle.setphase_core.specs.declared.sets.SetRefusal.{SetRefusal}
use Rattle.setphase_core.specs.declared.staging.Staged.{Staged}
use Rattle.setphase_core.specs.Objects.{ObjectRow, ObjectState, object_after_release}
use Rattle.setphase_core.specs.Registry.{rows_of}
use Rattle.setphase_core.specs.Variables.{NamedAssignment, writings}
use Rattle.setphase_core.specs.Together.{assign, assignments, contradicting, numbers_where, lacks_row, lacking_row, timer_numbers, timers_agree, disagreeing, joint_refusal, joint_refusals, refusal_of}
use Rattle.setphase_core.specs.Outcomes.{CanFail, stuck}
use Rattle.setphase_core.specs.Calls.{Call, calls_by, object_after_set, FollowPlans}
use Rattle.setphase_core.specs.Staging.{assignments_of, entry_at, entries_of, AreCommitted, HasFailed, AreCalled, commits_at, undos_at, IsDistinct}
use Rattle.setphase_core.specs.Tested.{first_lacking, inconsistency, AreStaged, ArePassed}
use Rattle.setphase_core.proofs.Endings.{stuck_assignments, can_fail, calls_reported}
use Rattle.setphase_core.proofs.Called.{plans_released}
use Rattle.setphase_core.proofs.Lacking.{first_lacking_staged}
use Rattle.setphase_core.proofs.Stuck.{entry_keys}

-- ---- the refusal

first-append : {X : Type 0} (xs ys : List X) → slice_get (xs ++ ys) 0 ≡ option_or (slice_get xs 0) (slice_get ys 0)
first-append [] ys = refl
first-append (x ∷ xs) ys = refl

first-map : {X Y : Type 0} (f : X → Y) (xs : List X) → slice_get (map f xs) 0 ≡ option_map f (slice_get xs 0)
first-map f [] = refl
first-map f (x ∷ xs) = refl

first_if : (b : Bool) (ns : List ℕ) → slice_get (cond b [] ns) 0 ≡ cond b None (slice_get ns 0)
first_if true ns = refl
first_if false ns = refl

-- The first joint refusal, by the first number of each kind.
abbrev by_kind : Option ℕ → Option ℕ → Option ℕ → Option SetRefusal
by_kind contradiction lacking timer =
    option_or (option_or (option_map (joint_refusal status.InconsistentValue) contradiction)
    (option_map (joint_refusal status.InconsistentName) lacking))
    (option_map (joint_refusal status.InconsistentValue) timer)

inconsistent_by_kind : (c l : Option ℕ) (b : Bool) (t : Option ℕ) →
    inconsistency c l b t ≡ by_kind c l (cond b None t)
inconsistent_by_kind (Some n) l b t = refl
inconsistent_by_kind None (Some n) b t = refl
inconsistent_by_kind None None true t = refl
inconsistent_by_kind None None false t = refl

first_joint : (w : World) (ps : List Assignment) →
    slice_get (joint_refusals w ps) 0
    ≡ by_kind (slice_get (contradicting [] ps) 0) (slice_get (lacking_row w ps) 0) (slice_get (disagreeing w ps) 0)
first_joint w ps =
    let value : ℕ → SetRefusal = joint_refusal status.InconsistentValue in
    let name : ℕ → SetRefusal = joint_refusal status.InconsistentName in
    first-append (map value (contradicting [] ps) ++ map name (lacking_row w ps)) (map value (disagreeing w ps))
    ∙ ap (option_or (slice_get (map value (contradicting [] ps) ++ map name (lacking_row w ps)) 0)) (first-map value (disagreeing w ps))
    ∙ ap (λ o. option_or o (option_map value (slice_get (disagreeing w ps) 0)))
    (first-append (map value (contradicting [] ps)) (map name (lacking_row w ps))
    ∙ ap (option_or (slice_get (map value (contradicting [] ps)) 0)) (first-map name (lacking_row w ps))
    ∙ ap (λ o. option_or o (option_map name (slice_get (lacking_row w ps) 0))) (first-map value (contradicting [] ps)))

-- What keeps the variables from going together, where each passed its own tests, is the refusal.
pub refused_together : (rows : List ObjectRow) (w : World) (view : List ℕ) (bs : List Binding)
    (es : List Staged) (c t : Option ℕ) →
    ArePassed rows w view bs es c t →
    inconsistency c (first_lacking (assign (assignments_of es) w) es) (timers_agree (assign (assignments_of es) w)) t
    ≡ refusal_of rows w view bs
refused_together rows w view bs es c t h =
    let ps = assignments (writings rows w bs) in
    inconsistent_by_kind c (first_lacking (assign (assignments_of es) w) es) (timers_agree (assign (assignments_of es) w)) t
    ∙ by_first c h.same
    ∙ ap (λ o. by_kind o (slice_get (lacking_row w ps) 0) (slice_get (disagreeing w ps) 0)) h.contradictions
    ∙ sym (first_joint w ps)
    ∙ ap (λ rs. slice_get (rs ++ joint_refusals w ps) 0) (sym h.single)
  where
    lacking : assign (assignments (writings rows w bs)) w ≡ assign (assignments_of es) w →
        first_lacking (assign (assignments_of es) w) es ≡ slice_get (lacking_row w (assignments (writings rows w bs))) 0
    lacking same =
        first_lacking_staged (assign (assignments_of es) w) rows (writings rows w bs) es h.staged
        ∙ ap (λ v. slice_get (numbers_where (lacks_row v) 1 (assignments (writings rows w bs))) 0) (sym same)

    timers : assign (assignments (writings rows w bs)) w ≡ assign (assignments_of es) w →
        cond (timers_agree (assign (assignments_of es) w)) None t ≡ slice_get (disagreeing w (assignments (writings rows w bs))) 0
    timers same =
        ap (λ o. cond (timers_agree (assign (assignments_of es) w)) None o) h.timers
        ∙ sym (first_if (timers_agree (assign (assignments_of es) w)) (timer_numbers 1 (assignments (writings rows w bs))))
        ∙ ap (λ v. slice_get (cond (timers_agree v) [] (timer_numbers 1 (assignments (writings rows w bs)))) 0) (sym same)

    by_first : (o : Option ℕ) → (o ≡ None → assign (assignments (writings rows w bs)) w ≡ assign (assignments_of es) w) →
        by_kind o (first_lacking (assign (assignments_of es) w) es) (cond (timers_agree (assign (assignments_of es) w)) None t)
        ≡ by_kind o (slice_get (lacking_row w (assignments (writings rows w bs))) 0) (slice_get (disagreeing w (assignments (writings rows w bs))) 0)
    by_first None same =
        ap (λ l. by_kind None l (cond (timers_agree (assign (assignments_of es) w)) None t)) (lacking (same refl))
        ∙ ap (by_kind None (slice_get (lacking_row w (assignments (writings rows w bs))) 0)) (timers (same refl))
    by_first (Some n) same = refl

-- ---- a commit that failed, and the undoing of those before it

module _ (os os₁ os₂ : List ObjectState) (w v u : World) (ws : List NamedAssignment)
    (es fs gs : List Staged) (i n : ℕ) (keys : List SettingKey)
    (staged : AreStaged (rows_of os) ws es) (distinct : IsDistinct (assignments_of es))
    (kept : fs ≡ es) (same_entries : gs ≡ fs) (at : n ≡ i) (failed : HasFailed w v os₁ es i)
    (commits : AreCalled (commits_at es (Some i)) (map object_after_release os) (map object_after_release os₁))
    (reported : keys ≡ entry_keys (entries_of keys (take n fs)))
    (undone : (before : World) → AreCommitted before v os₁ fs n →
    v ≡ assign (take n (assignments_of fs)) before →
    u ≡ assign (assignments_of (entries_of keys (take n fs))) before)
    (undos : AreCalled (undos_at keys (take n fs)) (map object_after_release os₁) (map object_after_release os₂)) where
  front : take n fs ≡ take i es
  front = ap (λ m. take m fs) at ∙ ap (take i) kept

  number : (entry_at gs i).number ≡ (entry_at es i).number
  number = ap (λ xs. (entry_at xs i).number) (same_entries ∙ kept)

  reported_front : keys ≡ entry_keys (entries_of keys (take i es))
  reported_front = subst (λ xs. keys ≡ entry_keys (entries_of keys xs)) front reported

  pub ended_notes : CanFail ws (Some (entry_at gs i).number) keys
  ended_notes =
      subst (λ m. CanFail ws (Some m) keys) (sym number) (can_fail os ws es i keys staged failed.within distinct reported_front)

  pub ended_world : u ≡ assign (assignments (stuck ws (entry_at gs i).number keys)) w
  ended_world =
      undone w
      (subst (λ xs. AreCommitted w v os₁ xs n) (sym kept) (subst (λ m. AreCommitted w v os₁ es m) (sym at) failed.stands))
      (failed.world ∙ ap (λ m. assign (take m (assignments_of es)) w) (sym at) ∙ ap (λ xs. assign (take n (assignments_of xs)) w) (sym kept))
      ∙ ap (λ xs. assign (assignments_of (entries_of keys xs)) w) front
      ∙ ap (λ ps. assign ps w) (stuck_assignments os ws es i keys staged failed.within distinct)
      ∙ ap (λ m. assign (assignments (stuck ws m keys)) w) (sym number)

  ended_calls : (map object_after_release os₂ ≡ map (object_after_set (calls_by ws (Some (entry_at gs i).number) keys)) os)
      × FollowPlans (calls_by ws (Some (entry_at gs i).number) keys) os
  ended_calls =
      subst (λ m. (map object_after_release os₂ ≡ map (object_after_set (calls_by ws (Some m) keys)) os) × FollowPlans (calls_by ws (Some m) keys) os) (sym number)
      (calls_reported os ws es i keys staged failed.within distinct (map object_after_release os₁) (map object_after_release os₂) commits
      (subst (λ xs. AreCalled (undos_at keys xs) (map object_after_release os₁) (map object_after_release os₂)) front undos))

  pub ended_objects : map object_after_release os₂ ≡ map (object_after_set (calls_by ws (Some (entry_at gs i).number) keys)) os
  ended_objects = ended_calls.0

  pub ended_by_plan : FollowPlans (calls_by ws (Some (entry_at gs i).number) keys) os
  ended_by_plan = ended_calls.1

-- ---- a registry that was released

pub released-twice : (os : List ObjectState) → map object_after_release (map object_after_release os) ≡ map object_after_release os
released-twice [] = refl
released-twice (o ∷ os) = ap (λ zs. object_after_release o ∷ zs) (released-twice os)

pub fresh : (os ns : List ObjectState) → ns ≡ map object_after_release os → ns ≡ map object_after_release ns
fresh os ns e = e ∙ sym (released-twice os) ∙ ap (map object_after_release) (sym e)

pub after-released : (calls : List Call) (os : List ObjectState) →
    map (object_after_set calls) (map object_after_release os) ≡ map (object_after_set calls) os
after-released calls [] = refl
after-released calls (o ∷ os) = ap (λ zs. object_after_set calls o ∷ zs) (after-released calls os)

-- The registry of a Set, once its staging is dropped.
pub dropped : (os now ns before : List ObjectState) (calls : List Call) →
    ns ≡ map object_after_release now → map object_after_release now ≡ map (object_after_set calls) before →
    before ≡ map object_after_release os → ns ≡ map (object_after_set calls) os
dropped os now ns before calls e done released =
    e ∙ done ∙ ap (map (object_after_set calls)) released ∙ after-released calls os

pub dropped_plans : (os before : List ObjectState) (calls : List Call) → FollowPlans calls before →
    before ≡ map object_after_release os → FollowPlans calls os
dropped_plans os before calls planned released =
    plans_released calls os (subst (FollowPlans calls) released planned)

-- ---- an answer, where there is memory for it

pub ok_then : {X E : Type 0} {P Q : X → Type 0} (r : Result X E) → IfOk r P → ((x : X) → P x → Q x) → IfOk r Q
ok_then (Ok x) p f = f x p
ok_then (Err e) p f = tt

pub ok_both : {X E : Type 0} {P Q R : X → Type 0} (r : Result X E) → IfOk r P → IfOk r Q →
    ((x : X) → P x → Q x → R x) → IfOk r R
ok_both (Ok x) p q f = f x p q
ok_both (Err e) p q f = tt

pub err_then : {X E P Q : Type 0} (r : Result X E) → OnErr r P → (P → Q) → OnErr r Q
err_then (Ok x) p f = tt
err_then (Err e) p f = f p

-- Whatever the answer is, what follows from either holds.
pub either_way : {X E P R : Type 0} {S : X → Type 0} (r : Result X E) → IfOk r S → OnErr r P →
    ((x : X) → S x → R) → (P → R) → R
either_way (Ok x) s p f g = f x s
either_way (Err e) s p f g = g p
