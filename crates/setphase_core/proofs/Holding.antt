-- What objects hold for a Set while others of its slots are committed, or devices are called.
use Rattle.std.proofs.Common.{◌≡◌, ◌≢◌, ℕ, zero, suc, ◌<◌, ◌∙◌, sym, ap, subst, refl, Bool, true, false, List, [], ◌∷◌, length, map, slice_get, slice_set, Some, arith, inl, inr}
use Rattle.std.proofs.lemmas.List.{length-set, get_or-set_same, get_or-set_other}
use Rattle.std.proofs.lemmas.Bool.Decides.{eqb_tells}
use Rattle.setting_keys.specs.declared.SettingValue.{SettingValue}
use Rattle.setphase_core.specs.declared.object.Reservation.{Reservation}
use Rattle.setphase_core.specs.declared.object.Slot.{Slot}
use Rattle.setphase_core.specs.declared.world.World.{World}
use Rattle.setphase_core.specs.Objects.{ObjectState, IsReserved, IsCommitted, reservation_of, committed_reservation, object_after_commit, object_after_release, object_called}
use Rattle.setphase_core.specs.Staging.{object_at, no_object}

slice_get-set_other : {X : Type 0} (xs : List X) (i j : ℕ) (y : X) → i ≢ j →
    slice_get (slice_set xs i y) j ≡ slice_get xs j
slice_get-set_other [] i j y ne = refl
slice_get-set_other (x ∷ xs) zero zero y ne = absurd (ne refl)
slice_get-set_other (x ∷ xs) zero (suc j) y ne = refl
slice_get-set_other (x ∷ xs) (suc i) zero y ne = refl
slice_get-set_other (x ∷ xs) (suc i) (suc j) y ne =
    slice_get-set_other xs i j y (λ e. ne (ap suc e))

pub slice_get-set_same : {X : Type 0} (xs : List X) (i : ℕ) (y : X) → i < length xs →
    slice_get (slice_set xs i y) i ≡ Some y
slice_get-set_same [] i y h = absurd (omega arith)
slice_get-set_same (x ∷ xs) zero y h = refl
slice_get-set_same (x ∷ xs) (suc i) y h = slice_get-set_same xs i y (omega arith)

same_key : (r s : Reservation) → Some s ≡ Some r → s.key ≡ r.key
same_key r s e = let same : s ≡ r = cc in ap (λ (z : Reservation). z.key) same

-- A write over another reservation keeps this one.
other_slot : (xs : List Reservation) (p q : ℕ) (r s y : Reservation) → slice_get xs p ≡ Some r →
    slice_get xs q ≡ Some s → s.key ≢ r.key → slice_get (slice_set xs p y) q ≡ Some s
other_slot xs p q r s y at_p at_q ne =
    slice_get-set_other xs p q y (λ e. ne (same_key r s (sym at_q ∙ ap (slice_get xs) (sym e) ∙ at_p)))
    ∙ at_q

-- What an object has reserved at a place, which it has.
pub record Holds (o : ObjectState) (p : ℕ) (r : Reservation) : Type 0 where
  pub within : p < length o.reserved
  pub stands : slice_get o.reserved p ≡ Some r

pub holds_reserved : (w : World) (o : ObjectState) (slot : Slot) (h : IsReserved w o slot) →
    Holds o slot.place (reservation_of slot h.old)
holds_reserved w o slot h = record { within = h.place; stands = h.stands }

pub holds_committed : (w : World) (o : ObjectState) (slot : Slot) (old : SettingValue) →
    IsCommitted w o slot old → Holds o slot.place (committed_reservation slot old)
holds_committed w o slot old h = record { within = h.place; stands = h.stands }

-- A commit of a slot keeps what is held for another setting.
pub holds_others : (os : List ObjectState) (i : ℕ) (slot : Slot) (old : SettingValue)
    (r : Reservation) (j p : ℕ) (t : Reservation) → i < length os →
    Holds (object_at os i) slot.place r → Holds (object_at os j) p t → t.key ≢ r.key →
    Holds (object_at (slice_set os i (object_after_commit (object_at os i) slot old)) j) p t
holds_others os i slot old r j p t h here there ne =
    let o : ObjectState = object_after_commit (object_at os i) slot old in
    elim (eqb_tells j i) [
      | inl e ↦
          let same : object_at (slice_set os i o) j ≡ o = ap (object_at (slice_set os i o)) e.1 ∙ get_or-set_same os i o no_object h in
          let there-i : Holds (object_at os i) p t = subst (λ n. Holds (object_at os n) p t) e.1 there in
          subst (λ z. Holds z p t) (sym same) (record {
            within = omega (arith, there-i.within, length-set {A = Reservation});
            stands = other_slot (object_at os i).reserved slot.place p r t _ here.stands there-i.stands ne;
          })
      | inr e ↦ subst (λ z. Holds z p t) (sym (get_or-set_other os i j o no_object e.1)) there
    ]

-- The slot that was committed is held so.
pub holds_made : (os : List ObjectState) (i : ℕ) (slot : Slot) (old : SettingValue) →
    i < length os → slot.place < length (object_at os i).reserved →
    Holds (object_at (slice_set os i (object_after_commit (object_at os i) slot old)) i) slot.place (committed_reservation slot old)
holds_made os i slot old h place =
    subst (λ z. Holds z slot.place (committed_reservation slot old)) (sym (get_or-set_same os i (object_after_commit (object_at os i) slot old) no_object h)) (record {
      within = omega (arith, place, length-set {A = Reservation});
      stands = slice_get-set_same (object_at os i).reserved slot.place (committed_reservation slot old) place;
    })

-- A call of a device changes nothing that is held.
reserved_called : (fails : Bool) (o : ObjectState) → o.reserved ≡ (object_called fails o).reserved
reserved_called true o = refl
reserved_called false o = refl

pub holds_after_call : (fails : Bool) (os : List ObjectState) (i j p : ℕ) (t : Reservation) →
    i < length os → Holds (object_at os j) p t →
    Holds (object_at (slice_set os i (object_called fails (object_at os i))) j) p t
holds_after_call fails os i j p t h there =
    let o : ObjectState = object_called fails (object_at os i) in
    elim (eqb_tells j i) [
      | inl e ↦
          let same : object_at (slice_set os i o) j ≡ o = ap (object_at (slice_set os i o)) e.1 ∙ get_or-set_same os i o no_object h in
          let there-i : Holds (object_at os i) p t = subst (λ n. Holds (object_at os n) p t) e.1 there in
          let kept : (object_at os i).reserved ≡ o.reserved = reserved_called fails (object_at os i) in
          subst (λ z. Holds z p t) (sym same) (record {
            within = subst (λ (rs : List Reservation). p < length rs) kept there-i.within;
            stands = subst (λ (rs : List Reservation). slice_get rs p ≡ Some t) kept there-i.stands;
          })
      | inr e ↦ subst (λ z. Holds z p t) (sym (get_or-set_other os i j o no_object e.1)) there
    ]

-- ---- objects of which all is dropped

pub object_at-released : (os : List ObjectState) (i : ℕ) →
    object_at (map object_after_release os) i ≡ object_after_release (object_at os i)
object_at-released [] i = refl
object_at-released (o ∷ os) zero = refl
object_at-released (o ∷ os) (suc i) = object_at-released os i
