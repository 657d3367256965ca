-- Lists of objects by their states, of which one more took a step, or was counted.
use Rattle.std.proofs.Common.{◌≡◌, ℕ, zero, suc, ◌+◌, ◌<◌, ◌≤◌, ◌∙◌, sym, ap, subst, refl, List, [], ◌∷◌, ◌++◌, length, map, take, drop, get_or, slice_set, None, arith, add-one}
use Rattle.std.proofs.lemmas.List.{map-set, length-map, get_or-map}
use Rattle.std.proofs.lemmas.List.Edits.{map_over_more}
use Rattle.std.proofs.lemmas.Grind.{common_steps}
use Rattle.setphase_core.specs.Objects.{ObjectState, object_after_arm, object_after_release}
use Rattle.setphase_core.specs.Registry.{rows_of, first_fault, AreNamed, held_count}

pub rows_of-released : (os : List ObjectState) → rows_of (map object_after_release os) ≡ rows_of os
rows_of-released [] = refl
rows_of-released (o ∷ os) = ap (λ rows. o.row ∷ rows) (rows_of-released os)

pub rows_of-armed : (plan : ℕ) (os : List ObjectState) →
    rows_of (map (object_after_arm plan) os) ≡ rows_of os
rows_of-armed plan [] = refl
rows_of-armed plan (o ∷ os) = ap (λ rows. o.row ∷ rows) (rows_of-armed plan os)

pub state_at : {X Y : Type 0} (f : X → Y) (xs : List X) (i : ℕ) (x : X) → i < length xs →
    x ≡ get_or xs i x → f x ≡ get_or (map f xs) i (f x)
state_at f xs i x h e = ap f e ∙ sym (get_or-map f xs i x (f x) h)

-- One more object took a step.
pub step_more : {O : Type 0} (state : O → ObjectState) (step : ObjectState → ObjectState)
    (objects : List O) (os : List ObjectState) (i : ℕ) (x y : O) → i < length os →
    length objects ≡ length os → map state objects ≡ map step (take i os) ++ drop i os →
    x ≡ get_or objects i x → state y ≡ step (state (get_or objects i x)) →
    map state (slice_set objects i y) ≡ map step (take (i + 1) os) ++ drop (i + 1) os
step_more state step objects os i x y h len inv at is =
    map-set state objects i y
    ∙ ap (λ z. slice_set (map state objects) i z) (is ∙ ap (λ z. step (state z)) (sym at))
    ∙ map_over_more step os (map state objects) i (state x) h inv
    (state_at state objects i x (omega arith) at)

-- All objects took it.
pub step_end : {O : Type 0} (state : O → ObjectState) (step : ObjectState → ObjectState)
    (objects : List O) (os : List ObjectState) (i : ℕ) → length os ≤ i →
    map state objects ≡ map step (take i os) ++ drop i os → map state objects ≡ map step os
step_end state step objects os i h inv = grind (arith, common_steps, inv)

-- What a registry knows of its objects, by their rows.
pub right_by_rows : (os ns : List ObjectState) → rows_of ns ≡ rows_of os →
    (first_fault (rows_of os) ≡ None) × AreNamed (rows_of os) →
    (first_fault (rows_of ns) ≡ None) × AreNamed (rows_of ns)
right_by_rows os ns e right =
    subst (λ rows. (first_fault rows ≡ None) × AreNamed rows) (sym e) right

held_suc : (os : List ObjectState) (i : ℕ) (o : ObjectState) → i < length os →
    o ≡ get_or os i o →
    held_count (take (suc i) os) ≡ held_count (take i os) + length o.reserved
held_suc [] i o h at = absurd (omega arith)
held_suc (x ∷ os) zero o h at = omega (arith, ap (λ (z : ObjectState). length z.reserved) at)
held_suc (x ∷ os) (suc i) o h at = omega (arith, held_suc os i o (omega arith) at)

held_more : (os : List ObjectState) (i : ℕ) (o : ObjectState) → i < length os →
    o ≡ get_or os i o → held_count (take (i + 1) os) ≡ held_count (take i os) + length o.reserved
held_more os i o h at = ap (λ n. held_count (take n os)) (add-one i) ∙ held_suc os i o h at

-- One more object is counted.
pub counted_more : {O : Type 0} (state : O → ObjectState) (objects : List O)
    (os : List ObjectState) (i : ℕ) (x : O) → map state objects ≡ os → i < length objects →
    x ≡ get_or objects i x →
    held_count (take (i + 1) os) ≡ held_count (take i os) + length (state x).reserved
counted_more state objects os i x e h at =
    held_more os i (state x) (omega (arith, ap length e, length-map objects state))
    (state_at state objects i x h at ∙ ap (λ zs. get_or zs i (state x)) e)
