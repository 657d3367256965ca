-- The lexicographic order of names (RFC 3416, 4.2.2): by the first sub-identifier that differs, and
-- a name before those that it begins. And what begins a name.
use Rattle.std.specs.Prelude.{◌≡◌, ◌<◌, ◌⊎◌, ℕ, Bool, true, false, nat_lt, nat_eq, if◌then◌else◌, List, [], ◌∷◌, ◌++◌}

-- the first list begins the second
pub record IsPrefix (front name : List ℕ) : Type 0 where
  pub rest : List ℕ
  pub parts : name ≡ front ++ rest

-- the first list begins the second, which is longer
pub record IsProperPrefix (front name : List ℕ) : Type 0 where
  pub next : ℕ
  pub rest : List ℕ
  pub parts : name ≡ front ++ next ∷ rest

-- where the lists differ first, the first list has the smaller number
pub record DiffersBelow (a b : List ℕ) : Type 0 where
  pub front : List ℕ
  pub x : ℕ
  pub y : ℕ
  pub more : List ℕ
  pub others : List ℕ
  pub first : a ≡ front ++ x ∷ more
  pub second : b ≡ front ++ y ∷ others
  pub smaller : x < y

-- one name is before another
abbrev pub IsBefore : List ℕ → List ℕ → Type 0
IsBefore a b = IsProperPrefix a b ⊎ DiffersBelow a b

-- ---- the same as tests

abbrev pub name_lt : List ℕ → List ℕ → Bool
name_lt xs [] = false
name_lt [] (y ∷ ys) = true
name_lt (x ∷ xs) (y ∷ ys) = if nat_lt x y then true else if nat_eq x y then name_lt xs ys else false

abbrev pub name_eq : List ℕ → List ℕ → Bool
name_eq [] [] = true
name_eq [] (y ∷ ys) = false
name_eq (x ∷ xs) [] = false
name_eq (x ∷ xs) (y ∷ ys) = if nat_eq x y then name_eq xs ys else false

abbrev pub is_prefix : List ℕ → List ℕ → Bool
is_prefix [] name = true
is_prefix (x ∷ xs) [] = false
is_prefix (x ∷ xs) (y ∷ ys) = if nat_eq x y then is_prefix xs ys else false
