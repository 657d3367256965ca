-- All that dot1dStpPortEnable reserves are settings of its own.
use Rattle.std.proofs.Common.{◌≡◌, ℕ, zero, suc, subst, List, [], ◌∷◌, slice_get, slice_set, Some}
use Rattle.setphase_core.specs.declared.object.Reservation.{Reservation}
use Rattle.setphase_core.specs.Settings.{IsLine}
use Rattle.bridge_mib.specs.Line.{AreEnables}

pub enables_set : (rs : List Reservation) (i : ℕ) (r : Reservation) → AreEnables rs →
    IsLine r.key → AreEnables (slice_set rs i r)
enables_set [] i r h e = tt
enables_set (x ∷ rs) zero r h e = (e, h.1)
enables_set (x ∷ rs) (suc i) r h e = (h.0, enables_set rs i r h.1 e)

pub enable_at : (rs : List Reservation) (i : ℕ) (r : Reservation) → AreEnables rs →
    slice_get rs i ≡ Some r → IsLine r.key
enable_at [] i r h e = absurd (cc)
enable_at (x ∷ rs) zero r h e =
    let same : x ≡ r = cc in
    subst (λ (z : Reservation). IsLine z.key) same h.0
enable_at (x ∷ rs) (suc i) r h e = enable_at rs i r h.1 e
