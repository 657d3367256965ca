-- Blocks of the rows of an index.
use Rattle.std.proofs.Common.{◌≡◌, ℕ, zero, suc, ◌+◌, ◌*◌, ◌/◌, ◌%◌, ◌<◌, ◌≤◌, List, [], ◌∷◌, ◌++◌, length, get_or, Some, refl, sym, ap, subst, ◌∙◌, arith, inl, inr}
use Rattle.std.specs.List.{slice_get}
use Rattle.std.proofs.lemmas.Bool.{cases_lt, cases_eq}
use Rattle.std.proofs.lemmas.Option.{slice_get-get_or, slice_get_within, get_or_from_slice_get, same_Some, none-some}
use Rattle.vacm_core.specs.Bitmaps.{IsSound, IsIn, AreIn, AreInBut}
use Rattle.vacm_core.specs.declared.bitmaps.Block.{Block}
use Rattle.vacm_core.specs.declared.tables.FamilyRow.{FamilyRow}

pub get_front : {X : Type 0} (xs ys : List X) (i : ℕ) → i < length xs → slice_get (xs ++ ys) i ≡ slice_get xs i
get_front [] ys i lt = absurd (omega arith)
get_front (x ∷ xs) ys zero lt = refl
get_front (x ∷ xs) ys (suc i) lt = get_front xs ys i (omega arith)

pub get_last : {X : Type 0} (xs : List X) (x y : X) (i : ℕ) → length xs ≤ i → slice_get (xs ++ x ∷ []) i ≡ Some y → (i ≡ length xs) × (x ≡ y)
get_last [] x y zero le e = (refl, same_Some x y e)
get_last [] x y (suc i) le e = absurd (none-some y e)
get_last (z ∷ xs) x y zero le e = absurd (omega arith)
get_last (z ∷ xs) x y (suc i) le e = let rest = get_last xs x y i (omega arith) e in (ap suc rest.0, rest.1)

-- one block more
pub one_more : (rows : List FamilyRow) (index : List ℕ) (blocks : List Block) (block : Block) (numbers : List ℕ)
    → AreIn rows index blocks
    → ((bit n : ℕ) (row : FamilyRow) → slice_get numbers bit ≡ Some n → slice_get rows n ≡ Some row → IsSound block bit row)
    → ((k d : ℕ) → k < length numbers → get_or numbers k d ≡ get_or index (length blocks * 64 + k) d)
    → ((k : ℕ) → k < 64 → length blocks * 64 + k < length index → k < length numbers)
    → AreIn rows index (blocks ++ block ∷ [])
one_more rows index blocks block numbers are sound at all rank n row here there found is =
    elim (cases_lt (rank / 64) (length blocks)) [
      | inl lt ↦ are rank n row here there found (sym (get_front blocks (block ∷ []) (rank / 64) lt) ∙ is)
      | inr ge ↦
          let last = get_last blocks block found (rank / 64) ge is in
          let place : length blocks * 64 + rank % 64 ≡ rank = omega (arith, last.0) in
          let within = all (rank % 64) (omega arith) (omega (arith, place, slice_get_within index rank n here)) in
          let is_n : get_or numbers (rank % 64) n ≡ n = at (rank % 64) n within ∙ ap (λ (r : ℕ). get_or index r n) place ∙ get_or_from_slice_get index rank n n here in
          subst (λ (b : Block). IsSound b (rank % 64) row) last.1 (sound (rank % 64) n row (slice_get-get_or numbers (rank % 64) n within ∙ ap Some is_n) there)
    ]

-- the rows of all numbers but one, and that one wherever its number was found so far
pub record ArePut (rows : List FamilyRow) (index : List ℕ) (n end : ℕ) (blocks : List Block) : Type 0 where
  pub others : AreInBut rows index n blocks
  pub here : (rank : ℕ) (row : FamilyRow) → rank < end → slice_get index rank ≡ Some n → slice_get rows n ≡ Some row → IsIn blocks rank row

module _ (rows : List FamilyRow) (index : List ℕ) (n rank : ℕ) (old : List Block) where
  pub put_here : (new : List Block) (row : FamilyRow) → get_or index rank 0 ≡ n → slice_get rows n ≡ Some row → IsIn new rank row
      → ((other : ℕ) (kept : FamilyRow) → (other ≡ rank → ⊥) → IsIn old other kept → IsIn new other kept)
      → ArePut rows index n rank old → ArePut rows index n (rank + 1) new
  put_here new row is_n is put kept so =
      let same : (found : FamilyRow) → slice_get rows n ≡ Some found → (other : ℕ) → other ≡ rank → IsIn new other found = λ found there other e.
      subst (λ (r : ℕ). IsIn new r found) (sym e) (subst (IsIn new rank) (same_Some row found (sym is ∙ there)) put) in
      record {
        others = λ other m found ne at there. elim (cases_eq other rank) [
          | inl e ↦ absurd (ne (sym (get_or_from_slice_get index other m 0 at) ∙ ap (λ (r : ℕ). get_or index r 0) e ∙ is_n))
          | inr apart ↦ kept other found apart (so.others other m found ne at there)
        ];
        here = λ other found lt at there. elim (cases_eq other rank) [
          | inl e ↦ same found there other e
          | inr apart ↦ kept other found apart (so.here other found (omega (arith, apart, lt)) at there)
        ];
      }

  pub put_past : (get_or index rank 0 ≡ n → ⊥) → ArePut rows index n rank old → ArePut rows index n (rank + 1) old
  put_past ne so = record {
    others = so.others;
    here = λ other found lt at there. elim (cases_eq other rank) [
      | inl e ↦ absurd (ne (ap (λ (r : ℕ). get_or index r 0) (sym e) ∙ get_or_from_slice_get index other n 0 at))
      | inr apart ↦ so.here other found (omega (arith, apart, lt)) at there
    ];
  }

  pub put_end : length index ≤ rank → ArePut rows index n rank old → AreIn rows index old
  put_end end so other m found at there =
      elim (cases_eq m n) [
        | inl e ↦ so.here other found (let within = slice_get_within index other m at in omega (arith, within, end)) (subst (λ (k : ℕ). slice_get index other ≡ Some k) e at) (subst (λ (k : ℕ). slice_get rows k ≡ Some found) e there)
        | inr ne ↦ so.others other m found ne at there
      ]
