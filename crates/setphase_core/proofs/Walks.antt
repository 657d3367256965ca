-- What a walk finds, by the place from which on it goes.
use Rattle.std.proofs.Common.{◌≡◌, ℕ, ◌+◌, ◌<◌, ◌≤◌, Bool, true, false, cond, ◌||◌, List, ◌∷◌, [], ◌++◌, length, drop, refl, sym, ap, ◌∙◌, arith, Option, Some, None, IsTrue, Err}
use Rattle.message_core.specs.Instances.{next_of}
use Rattle.oid_core.specs.Order.{name_lt, is_prefix}
use Rattle.setphase_core.specs.declared.world.World.{World}
use Rattle.setphase_core.specs.declared.passing.Spot.{Spot}
use Rattle.setphase_core.specs.Objects.{ObjectRow}
use Rattle.setphase_core.specs.Registry.{instances}
use Rattle.setphase_core.specs.Passing.{open_rows, open_instances}
use Rattle.setphase_core.specs.Searching.{prefix_at, IsOwnerPlace, IsPlace}
use Rattle.setphase_core.specs.Walking.{AreAhead, IsFound}
use Rattle.oid_core.proofs.OrderLaws.{prefix_of}
use Rattle.setphase_core.proofs.Ordered.{AreOrdered}
use Rattle.setphase_core.proofs.Searches.{start_found, owner_found}

-- nothing was found
pub none_of : {X : Type 0} (o : Option X) → ((x : X) → o ≡ Some x → ⊥) → o ≡ None
none_of None h = refl
none_of (Some x) h = absurd (h x refl)

pub ahead_behind : (prefixes : List (List ℕ)) (name : List ℕ) (place : ℕ) → IsPlace prefixes name (Err place) → AreAhead prefixes name place
ahead_behind prefixes name place h = λ k l m. (h.0 k m, h.1.behind k l m)

pub ahead_own : (prefixes : List (List ℕ)) (name : List ℕ) (place : ℕ) → AreOrdered prefixes → IsOwnerPlace prefixes name (Some place) → AreAhead prefixes name (place + 1)
ahead_own prefixes name place ordered h = λ k l m.
    let apart : is_prefix (prefix_at prefixes k) name ≡ false = h.2 k m (λ e. absurd (omega (arith, e, l))) in (
      apart,
      other (is_prefix (prefix_at prefixes k) name) (name_lt name (prefix_at prefixes k)) apart ((start_found prefixes name place ordered h).behind k (omega (arith, l)) m),
    )
  where
    other : (a b : Bool) → a ≡ false → (a || b) ≡ true → b ≡ true
    other true b e f = absurd (cc)
    other false b e f = f

-- what is found from a place on, where all that is found is found there
pub found_whole : (passes : List ℕ → Bool) (rows : List ObjectRow) (w : World) (n : List ℕ) (start : ℕ) (o : Option Spot) →
    next_of (open_instances passes (drop start rows) w) n ≡ next_of (open_instances passes rows w) n → IsFound passes rows w n start o → IsFound passes rows w n 0 o
found_whole passes rows w n start None e h = sym e ∙ h
found_whole passes rows w n start (Some spot) e h = record {
  row = h.row;
  after = omega arith;
  within = h.within;
  at = h.at;
  kept = h.kept;
  index = h.index;
  fits = h.fits;
  first = sym e ∙ h.first;
}

-- it stands behind that place
pub found_after : (passes : List ℕ → Bool) (rows : List ObjectRow) (w : World) (n : List ℕ) (start first : ℕ) (found : Bool) (spot : Spot) → first ≤ start → IsFound passes rows w n start (cond found (Some spot) None) → IsTrue found → first ≤ spot.place
found_after passes rows w n start first false spot l h t = absurd (cc)
found_after passes rows w n start first true spot l h t = omega (arith, l, h.after)

-- ---- the instance at a spot

-- the name that is made there begins with that of the object at the place
pub made_place : (prefixes : List (List ℕ)) (row : ObjectRow) (place : ℕ) (name index : List ℕ) → AreOrdered prefixes → place < length prefixes → prefix_at prefixes place ≡ row.prefix → name ≡ row.prefix ++ index → IsOwnerPlace prefixes name (Some place)
made_place prefixes row place name index ordered within at is =
    owner_found prefixes name place ordered within (ap (is_prefix (prefix_at prefixes place)) is ∙ ap (λ (p : List ℕ). is_prefix p (row.prefix ++ index)) at ∙ prefix_of row.prefix index)

-- no object is passed over where none is to be
none_passed : (rows : List ObjectRow) → open_rows (λ p. false) rows ≡ rows
none_passed [] = refl
none_passed (row ∷ rows) = ap (λ rs. row ∷ rs) (none_passed rows)

pub next_of_all : (rows : List ObjectRow) (w : World) (n : List ℕ) → next_of (open_instances (λ p. false) rows w) n ≡ next_of (instances rows w) n
next_of_all rows w n = ap (λ (rs : List ObjectRow). next_of (instances rs w) n) (none_passed rows)
