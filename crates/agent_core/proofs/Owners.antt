-- The name of an object that is found has 1 to 128 numbers.
use Rattle.std.proofs.Common.{◌≡◌, ℕ, ◌≤◌, Bool, true, false, cond, List, [], ◌∷◌, length, arith, Some}
use Rattle.oid_core.specs.Order.{is_prefix}
use Rattle.oid_core.specs.declared.limits.TheConstants.{MAX_NUMBERS}
use Rattle.setphase_core.specs.Objects.{ObjectRow}
use Rattle.setphase_core.specs.Registry.{IsNamed, AreNamed, owner_of}

-- a name has 1 to 128 numbers
pub record IsSized (name : List ℕ) : Type 0 where
  pub some : 1 ≤ length name
  pub most : length name ≤ MAX_NUMBERS

sized_from : (prefix : List ℕ) (row : ObjectRow) → row.prefix ≡ prefix → IsNamed row → IsSized prefix
sized_from [] row e h = let none : is_prefix (1 ∷ 3 ∷ []) [] ≡ true = rw e at h.root in absurd (cc)
sized_from (n ∷ prefix) row e h = let most = h.most in record { some = omega arith; most = rw e at (let m : length row.prefix ≤ MAX_NUMBERS = omega (arith, most) in m) }

some_is : (a b : List ℕ) → Some a ≡ Some b → a ≡ b
some_is a b e = cc

pub owner_sized : (rows : List ObjectRow) (name prefix : List ℕ) → AreNamed rows → owner_of rows name ≡ Some prefix → IsSized prefix
owner_sized [] name prefix h e = absurd (cc)
owner_sized (row ∷ rows) name prefix h e = by_test (is_prefix row.prefix name) (λ k. owner_sized rows name prefix h.1 k) e
  where
    by_test : (b : Bool) → (owner_of rows name ≡ Some prefix → IsSized prefix) → cond b (Some row.prefix) (owner_of rows name) ≡ Some prefix → IsSized prefix
    by_test true more k = sized_from prefix row (some_is row.prefix prefix k) h.0
    by_test false more k = more k
