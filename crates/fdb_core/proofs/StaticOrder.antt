-- The order of the indexes of static rows, around one of them.
use Rattle.std.proofs.Common.{◌≡◌, ℕ, List, [], ◌∷◌, ◌++◌, refl, ap, ◌∙◌}
use Rattle.std.specs.Ordering.{ordering_reverse}
use Rattle.std.specs.declared.cmp.Ordering.TheVariants.{Less, Equal, Greater}
use Rattle.std.proofs.lemmas.Cmp.{nat_list_cmp_total, alike_right}
use Rattle.std.proofs.lemmas.Map.Lookups.{exact_bytes}
use Rattle.fdb_core.specs.declared.static_row.StaticIndex.{StaticIndex}
use Rattle.fdb_core.specs.Statics.{numbers_of, index_cmp}

-- what lies below is above the other way round
pub above_from_below : (a b : StaticIndex) → index_cmp a b ≡ Less → index_cmp b a ≡ Greater
above_from_below a b e = nat_list_cmp_total.antisymm (numbers_of b) (numbers_of a) ∙ ap ordering_reverse e

pub below_from_above : (a b : StaticIndex) → index_cmp a b ≡ Greater → index_cmp b a ≡ Less
below_from_above a b e = nat_list_cmp_total.antisymm (numbers_of b) (numbers_of a) ∙ ap ordering_reverse e

pub below_trans : (a b c : StaticIndex) → index_cmp a b ≡ Less → index_cmp b c ≡ Less → index_cmp a c ≡ Less
below_trans a b c e f = nat_list_cmp_total.trans (numbers_of a) (numbers_of b) (numbers_of c) e f

-- an index that compares equal may stand for the other
pub same_right : (a b c : StaticIndex) → index_cmp a b ≡ Equal → index_cmp c a ≡ index_cmp c b
same_right a b c e = alike_right nat_list_cmp_total (numbers_of a) (numbers_of b) (numbers_of c) e

pub same_left : (a b c : StaticIndex) → index_cmp a b ≡ Equal → index_cmp a c ≡ index_cmp b c
same_left a b c e = nat_list_cmp_total.congr (numbers_of a) (numbers_of b) (numbers_of c) e

-- two lists with a number behind each
record Apart (xs ys : List ℕ) (a b : ℕ) : Type 0 where
  front : xs ≡ ys
  last : a ≡ b

apart : (xs ys : List ℕ) (a b : ℕ) → xs ++ a ∷ [] ≡ ys ++ b ∷ [] → Apart xs ys a b
apart [] [] a b e = record { front = refl; last = cc }
apart [] (y ∷ []) a b e = absurd cc
apart [] (y ∷ z ∷ ys) a b e = absurd cc
apart (x ∷ []) [] a b e = absurd cc
apart (x ∷ z ∷ xs) [] a b e = absurd cc
apart (x ∷ xs) (y ∷ ys) a b e =
    let rest : xs ++ a ∷ [] ≡ ys ++ b ∷ [] = cc in
    let more = apart xs ys a b rest in
    let front = more.front in
    record { front = cc; last = more.last }

-- and is the other
pub same_index : (a b : StaticIndex) → index_cmp a b ≡ Equal → a ≡ b
same_index a b e =
    let parts = apart a.address.0 b.address.0 a.port b.port (exact_bytes (numbers_of a) (numbers_of b) e) in
    λ i. record { address = record { 0 = parts.front i }; port = parts.last i }
