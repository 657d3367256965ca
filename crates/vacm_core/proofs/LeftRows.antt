-- The rows whose bits are left in a word, the highest bit first.
use Rattle.std.proofs.Common.{◌≡◌, ℕ, suc, ◌+◌, ◌-◌, ◌*◌, ◌/◌, ◌%◌, ◌^◌, ◌<◌, ◌≤◌, Bool, true, false, List, length, get_or, Some, bit_and, ap, ◌∙◌, arith, inl, inr, w64}
use Rattle.std.specs.List.{slice_get}
use Rattle.std.specs.Int.{bit_at, bit_not}
use Rattle.std.specs.Int.Count.{count_leading_zeros}
use Rattle.std.proofs.lemmas.Bool.{both_ways, cases_Bool, cases_eq}
use Rattle.std.proofs.lemmas.Nat.{leading_top, and_le_l, le-div, div_below, pow_pos}
use Rattle.std.proofs.lemmas.Nat.Bits.{bit_at-zero, bit_at_above, bit_at_clear_same, bit_at_clear_other}
use Rattle.vacm_core.specs.OfView.{is_match, HaveNot, IsLastMatch}
use Rattle.vacm_core.specs.declared.tables.FamilyRow.{FamilyRow}

-- the highest bit of a word that is not 0
pub top_bit : (word : ℕ) → 0 < word → word < 2 ^ 64 → let k = 63 - count_leading_zeros 64 word in (k < 64) × (bit_at word k ≡ 1) × ((j : ℕ) → k < j → bit_at word j ≡ 0)
top_bit word some fits =
    let top = leading_top 64 word some fits in
    let j = top.0 in
    let is : 63 - count_leading_zeros 64 word ≡ j = omega (arith, top.1) in
    let one : word / 2 ^ j ≡ 1 = omega (arith, le-div 1 word (2 ^ j) (pow_pos j) (omega (arith, top.2)), div_below word (2 ^ j) 2 (pow_pos j) (omega (arith, top.3))) in
    (omega (arith, top.1, is), ap (bit_at word) is ∙ ap (λ (n : ℕ). n % 2) one, λ i lt. bit_at_above word (suc j) i top.3 (omega (arith, is, lt)))

-- a word without a bit that is set is smaller, and has the others
pub without : (word k : ℕ) → k < 64 → bit_at word k ≡ 1
    → let left = bit_and word (bit_not w64 (1 * 2 ^ k % 2 ^ 64)) in
    (left < word) × ((j : ℕ) → j < 64 → (j ≡ k → ⊥) → bit_at left j ≡ bit_at word j)
without word k within set =
    let left : ℕ = bit_and word (bit_not w64 (1 * 2 ^ k % 2 ^ 64)) in
    let gone : bit_at left k ≡ 0 = bit_at_clear_same w64 word k within in (
      elim (cases_eq left word) [
        | inl same ↦ absurd (let both : bit_at left k ≡ bit_at word k = ap (λ (x : ℕ). bit_at x k) same in omega (arith, both, gone, set))
        | inr other ↦ omega (arith, and_le_l word (bit_not w64 (1 * 2 ^ k % 2 ^ 64)))
      ],
      λ j small other. bit_at_clear_other w64 word k within j small other,
    )

-- each row that is of the view and has the name is left
abbrev pub AreLeft : List FamilyRow → List ℕ → List ℕ → List ℕ → ℕ → Type 0
AreLeft rows view name numbers left =
    (k d : ℕ) → k < length numbers → is_match view name (slice_get rows (get_or numbers k d)) ≡ true → bit_at left k ≡ 1

module _ (rows : List FamilyRow) (view name numbers : List ℕ) where
  abbrev match_at : ℕ → ℕ → Bool
  match_at k d = is_match view name (slice_get rows (get_or numbers k d))

  -- no row from a bit on matches where none of them is left
  none_from : (left from : ℕ) → AreLeft rows view name numbers left → ((j : ℕ) → from ≤ j → bit_at left j ≡ 0) → HaveNot rows view name numbers from
  none_from left from are off k d le lt =
      elim (cases_Bool (match_at k d)) [
        | inl on_match ↦ absurd (let on = are k d lt on_match in let gone = off k le in omega (arith, on, gone))
        | inr off_match ↦ off_match
      ]

  -- none is left
  pub none_left : AreLeft rows view name numbers 0 → HaveNot rows view name numbers 0
  none_left are = none_from 0 0 are (λ j le. bit_at-zero j)

  -- the row of the highest bit that is left matches
  pub last_found : (left k n : ℕ) → AreLeft rows view name numbers left → k < length numbers → get_or numbers k n ≡ n → ((j : ℕ) → k < j → bit_at left j ≡ 0)
      → is_match view name (slice_get rows n) ≡ true → IsLastMatch rows view name numbers (Some n)
  last_found left k n are within is above hit = record {
    place = k;
    inside = within;
    here = is;
    passes = hit;
    behind = none_from left (k + 1) are (λ j le. above j (omega (arith, le)));
  }

  -- it does not match, or there is no such row
  pub left_without : (left less k : ℕ) → length numbers ≤ 64 → AreLeft rows view name numbers left → ((j : ℕ) → j < 64 → (j ≡ k → ⊥) → bit_at less j ≡ bit_at left j)
      → ((d : ℕ) → k < length numbers → match_at k d ≡ false) → AreLeft rows view name numbers less
  left_without left less k short are others miss j d lt hit =
      elim (cases_eq j k) [
        | inl e ↦ absurd (both_ways (match_at j d) (ap (λ (i : ℕ). match_at i d) e ∙ miss d (omega (arith, e, lt))) hit)
        | inr apart ↦ others j (omega (arith, lt, short)) apart ∙ are j d lt hit
      ]
