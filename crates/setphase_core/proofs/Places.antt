-- Objects at places, by their names.
use Rattle.std.proofs.Common.{◌≡◌, ℕ, zero, suc, ◌+◌, ◌<◌, ◌≤◌, List, [], ◌∷◌, map, length, take, drop, ◌-◌, length-drop, get_or, refl, sym, ap, subst, ◌∙◌, arith, add-one, drop-cons}
use Rattle.std.specs.List.{All}
use Rattle.std.proofs.Math.Seq.{take-length}
use Rattle.setphase_core.specs.declared.column.Column.{Column}
use Rattle.setphase_core.specs.declared.column.Column.TheVariants as column
use Rattle.setphase_core.specs.declared.limits.TheConstants.{MAX_INDEX}
use Rattle.setphase_core.specs.Columns.{longest_index}
use Rattle.setphase_core.specs.Objects.{ObjectRow, ObjectState}
use Rattle.setphase_core.specs.Registry.{rows_of, prefixes_of, IsNamed, AreNamed, TakesAnyIndex, TakeAnyIndex}
use Rattle.setphase_core.specs.Searching.{prefix_at}

module _ {O : Type 0} (state : O → ObjectState) where
  pub prefixes_length : (objects : List O) → length (prefixes_of (rows_of (map state objects))) ≡ length objects
  prefixes_length [] = refl
  prefixes_length (x ∷ objects) = ap (λ n. suc n) (prefixes_length objects)

  pub prefix_there : (objects : List O) (i : ℕ) (x : O) → i < length objects → x ≡ get_or objects i x → prefix_at (prefixes_of (rows_of (map state objects))) i ≡ (state x).row.prefix
  prefix_there [] i x h e = absurd (omega (arith, h))
  prefix_there (y ∷ objects) zero x h e = ap (λ z. (state z).row.prefix) (sym e)
  prefix_there (y ∷ objects) (suc i) x h e = prefix_there objects i x (omega (arith, h)) e

  pub row_there : (objects : List O) (i : ℕ) (x : O) (d : ObjectRow) → i < length objects → x ≡ get_or objects i x → get_or (rows_of (map state objects)) i d ≡ (state x).row
  row_there [] i x d h e = absurd (omega (arith, h))
  row_there (y ∷ objects) zero x d h e = ap (λ z. (state z).row) (sym e)
  row_there (y ∷ objects) (suc i) x d h e = row_there objects i x d (omega (arith, h)) e

  pub rows_drop : (s : ℕ) (objects : List O) → rows_of (map state (drop s objects)) ≡ drop s (rows_of (map state objects))
  rows_drop zero objects = refl
  rows_drop (suc s) [] = refl
  rows_drop (suc s) (x ∷ objects) = rows_drop s objects

  -- what a slice from a place on has
  pub rows_from : (s : ℕ) (objects : List O) → rows_of (map state (take (length objects - s) (drop s objects))) ≡ drop s (rows_of (map state objects))
  rows_from s objects = ap (λ xs. rows_of (map state xs)) (ap (λ k. take k (drop s objects)) (sym (length-drop s objects)) ∙ take-length (drop s objects)) ∙ rows_drop s objects

  -- the object at a place, and those behind it
  pub rows_split : (objects : List O) (i : ℕ) (x : O) → i < length objects → x ≡ get_or objects i x → rows_of (map state (drop i objects)) ≡ (state x).row ∷ rows_of (map state (drop (i + 1) objects))
  rows_split objects i x h e =
      ap (λ (xs : List O). rows_of (map state xs)) (drop-cons objects i x h ∙ ap (λ (y : O). y ∷ drop (suc i) objects) (sym e) ∙ ap (λ (k : ℕ). x ∷ drop k objects) (sym (add-one i)))

  -- behind all of them there is none
  pub rows_end : (objects : List O) (i : ℕ) → length objects ≤ i → rows_of (map state (drop i objects)) ≡ []
  rows_end [] zero h = refl
  rows_end [] (suc i) h = refl
  rows_end (x ∷ objects) zero h = absurd (omega (arith, h))
  rows_end (x ∷ objects) (suc i) h = rows_end objects i (omega (arith, h))

  -- the same of their rows
  pub split_there : (objects : List O) (i : ℕ) (x : O) → i < length objects → x ≡ get_or objects i x → drop i (rows_of (map state objects)) ≡ (state x).row ∷ drop (i + 1) (rows_of (map state objects))
  split_there objects i x h e = sym (rows_drop i objects) ∙ rows_split objects i x h e ∙ ap (λ rs. (state x).row ∷ rs) (rows_drop (i + 1) objects)

  pub split_end : (objects : List O) (i : ℕ) → length objects ≤ i → drop i (rows_of (map state objects)) ≡ []
  split_end objects i h = sym (rows_drop i objects) ∙ rows_end objects i h

  pub rows_count : (objects : List O) → length (rows_of (map state objects)) ≡ length objects
  rows_count [] = refl
  rows_count (x ∷ objects) = ap (λ n. suc n) (rows_count objects)

  pub named_there : (objects : List O) (i : ℕ) (x : O) → AreNamed (rows_of (map state objects)) → i < length objects → x ≡ get_or objects i x → IsNamed (state x).row
  named_there [] i x h l e = absurd (omega (arith, l))
  named_there (y ∷ objects) zero x h l e = subst (λ (z : O). IsNamed (state z).row) (sym e) h.0
  named_there (y ∷ objects) (suc i) x h l e = named_there objects i x h.1 (omega (arith, l)) e

  -- behind the name of each of the objects any index may stand, by places and in turn
  pub all_take : (objects : List O) → All (λ (o : O). TakesAnyIndex (state o).row.prefix) objects → TakeAnyIndex (prefixes_of (rows_of (map state objects)))
  all_take [] h = tt
  all_take (x ∷ objects) h = (h 0 x (omega arith), all_take objects (λ k d l. h (suc k) d (omega (arith, l))))

  pub take_all : (objects : List O) → TakeAnyIndex (prefixes_of (rows_of (map state objects))) → All (λ (o : O). TakesAnyIndex (state o).row.prefix) objects
  take_all [] h k d l = absurd (omega (arith, l))
  take_all (x ∷ objects) h zero d l = h.0
  take_all (x ∷ objects) h (suc k) d l = take_all objects h.1 k d (omega (arith, l))

-- no column has a longer index than the longest of all
index_at_most : (c : Column) → longest_index c ≤ MAX_INDEX
index_at_most (column.Base c) = omega arith
index_at_most (column.BasePort c) = omega arith
index_at_most (column.Stp c) = omega arith
index_at_most (column.StpPort c) = omega arith
index_at_most (column.Rapid c) = omega arith
index_at_most (column.ExtPort c) = omega arith
index_at_most (column.Tp c) = omega arith
index_at_most (column.TpFdb c) = omega arith
index_at_most (column.TpPort c) = omega arith
index_at_most (column.Static c) = omega arith
index_at_most (column.Family c) = omega arith

-- so names behind which any index may stand are those that a registry asks for
pub named_of_taken : (rows : List ObjectRow) → TakeAnyIndex (prefixes_of rows) → AreNamed rows
named_of_taken [] h = tt
named_of_taken (row ∷ rows) h = (record { root = h.0.root; most = omega (arith, h.0.most, index_at_most row.column) }, named_of_taken rows h.1)

pub named_drop : (s : ℕ) (rows : List ObjectRow) → AreNamed rows → AreNamed (drop s rows)
named_drop zero rows h = h
named_drop (suc s) [] h = tt
named_drop (suc s) (row ∷ rows) h = named_drop s rows h.1

-- what follows the first l numbers, as a slice from there on has it
pub rest_of : (l : ℕ) (n : List ℕ) → take (length n - l) (drop l n) ≡ drop l n
rest_of l n = ap (λ k. take k (drop l n)) (sym (length-drop l n)) ∙ take-length (drop l n)
