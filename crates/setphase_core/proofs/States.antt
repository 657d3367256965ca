-- Lists of objects by their states, of which one was changed.
use Rattle.std.proofs.Common.{◌≡◌, ℕ, zero, suc, refl, ◌<◌, ◌∙◌, sym, ap, List, [], ◌∷◌, length, map, get_or, slice_set, None, Result, Ok, Err, IfOk, OnOk, OnErr, arith}
use Rattle.std.proofs.lemmas.List.{map-set, length-map, get_or-map}
use Rattle.std.proofs.Math.Seq.{map-set_same}
use Rattle.setting_keys.specs.declared.SettingValue.{SettingValue}
use Rattle.setphase_core.specs.declared.object.SetFault.{SetFault}
use Rattle.setphase_core.specs.declared.object.Slot.{Slot}
use Rattle.setphase_core.specs.Objects.{ObjectState, reserve, after_call, object_after_release, object_after_commit, object_after_failure}
use Rattle.setphase_core.specs.Registry.{rows_of, prefixes_of, first_fault, AreNamed}
use Rattle.setphase_core.specs.Searching.{prefix_at}
use Rattle.setphase_core.specs.Staging.{object_at, no_object}
use Rattle.setphase_core.proofs.Released.{right_by_rows}

pub rows_of-set : (os : List ObjectState) (i : ℕ) (o : ObjectState) →
    o.row ≡ (object_at os i).row → rows_of (slice_set os i o) ≡ rows_of os
rows_of-set os i o e = map-set_same (λ (o : ObjectState). o.row) os i o no_object e

-- What a call that commits leaves of an object's row, and what one that undoes does.
pub row_after_commit : {T E : Type 0} (r : Result T E) (o n : ObjectState) (slot : Slot)
    (before : SettingValue) → OnOk r (n ≡ object_after_commit o slot before) →
    OnErr r (n ≡ object_after_failure o) → n.row ≡ o.row
row_after_commit (Ok v) o n slot before kept failed = ap (λ (z : ObjectState). z.row) kept
row_after_commit (Err e) o n slot before kept failed = ap (λ (z : ObjectState). z.row) failed

pub row_after_undo : {T E : Type 0} (r : Result T E) (o n : ObjectState) → OnOk r (n ≡ after_call o) →
    OnErr r (n ≡ object_after_failure o) → n.row ≡ o.row
row_after_undo (Ok v) o n kept failed = ap (λ (z : ObjectState). z.row) kept
row_after_undo (Err e) o n kept failed = ap (λ (z : ObjectState). z.row) failed

-- What a test leaves of it.
pub row_after_test : (r : Result Slot SetFault) (o n : ObjectState) →
    IfOk r (λ slot. n ≡ reserve o slot) → OnErr r (n ≡ o) → n.row ≡ o.row
row_after_test (Ok slot) o n kept failed = ap (λ (z : ObjectState). z.row) kept
row_after_test (Err e) o n kept failed = ap (λ (z : ObjectState). z.row) failed

module _ {O : Type 0} (state : O → ObjectState) (objects : List O) (os : List ObjectState)
    (i : ℕ) (x y : O) (seen : map state objects ≡ os) (within : i < length os)
    (at : x ≡ get_or objects i x) where
  -- The state of the object at a place.
  pub state_is : state x ≡ object_at os i
  state_is =
      ap state at
      ∙ sym (get_or-map state objects i x no_object (omega (arith, ap length seen, length-map objects state)))
      ∙ ap (λ zs. get_or zs i no_object) seen

  -- A registry whose object kept its row.
  pub right-set : (state y).row ≡ (state x).row →
      (first_fault (rows_of (map state objects)) ≡ None) × AreNamed (rows_of (map state objects)) →
      (first_fault (rows_of (map state (slice_set objects i y))) ≡ None)
      × AreNamed (rows_of (map state (slice_set objects i y)))
  right-set same right =
      right_by_rows (map state objects) (map state (slice_set objects i y))
      (ap rows_of (map-set state objects i y ∙ ap (λ zs. slice_set zs i (state y)) seen)
      ∙ rows_of-set os i (state y) (same ∙ ap (λ (z : ObjectState). z.row) state_is)
      ∙ ap rows_of (sym seen))
      right

  -- The states after an object kept its state.
  pub states-same : state y ≡ state x → map state (slice_set objects i y) ≡ os
  states-same same = map-set_same state objects i y x (same ∙ ap state at) ∙ seen

  -- The states after a step of an object.
  pub states-step : (step : ObjectState → ObjectState) → state y ≡ step (state x) →
      map state (slice_set objects i y) ≡ slice_set os i (step (object_at os i))
  states-step step is =
      map-set state objects i y
      ∙ ap (λ zs. slice_set zs i (state y)) seen
      ∙ ap (λ o. slice_set os i o) (is ∙ ap step state_is)

-- The name of the object at a place.
pub prefix_of_object : (os : List ObjectState) (p : ℕ) →
    prefix_at (prefixes_of (rows_of os)) p ≡ (object_at os p).row.prefix
prefix_of_object [] p = refl
prefix_of_object (o ∷ os) zero = refl
prefix_of_object (o ∷ os) (suc p) = prefix_of_object os p

-- What an object reserves is gone once it is released.
pub reserved-released : (os : List ObjectState) (p : ℕ) (slot : Slot) →
    map object_after_release (slice_set os p (reserve (object_at os p) slot)) ≡ map object_after_release os
reserved-released os p slot =
    map-set_same object_after_release os p (reserve (object_at os p) slot) no_object refl

-- What holds anyway holds also where there is an error.
pub on_err_always : {T E P : Type 0} (r : Result T E) → P → OnErr r P
on_err_always (Ok v) h = tt
on_err_always (Err e) h = h
