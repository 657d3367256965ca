-- The last of the rows between two places of an index that has a name, block by block.
use Rattle.std.proofs.Common.{◌≡◌, ℕ, ◌+◌, ◌-◌, ◌*◌, ◌/◌, ◌%◌, ◌^◌, ◌<◌, ◌≤◌, Bool, true, false, List, length, take, drop, get_or, bytes_eq, Option, Some, None, refl, sym, ap, ◌∙◌, arith, inl, inr, min, max}
use Rattle.std.specs.List.{slice_get}
use Rattle.std.specs.Int.{bit_at}
use Rattle.std.proofs.lemmas.Bool.{both_ways, cases_lt}
use Rattle.std.proofs.lemmas.List.{get_or-take, get_or-drop, length-take-le, length-drop}
use Rattle.std.proofs.lemmas.Nat.{shr-shr}
use Rattle.std.proofs.lemmas.Option.{slice_get-get_or}
use Rattle.vacm_core.specs.Bitmaps.{IsIn, AreIn}
use Rattle.vacm_core.specs.Families.{agrees_from}
use Rattle.vacm_core.specs.OfView.{is_match, HaveNot, IsLastMatch}
use Rattle.vacm_core.specs.declared.bitmaps.Block.{Block}
use Rattle.vacm_core.specs.declared.tables.FamilyRow.{FamilyRow}
use Rattle.vacm_core.proofs.Agrees.{and_true}

-- a number of a match is that of a row
row_of_match : (view name : List ℕ) (o : Option FamilyRow) → is_match view name o ≡ true → (row : FamilyRow) × (o ≡ Some row) × (agrees_from 0 row.mask row.subtree name ≡ true)
row_of_match view name (Some row) hit = (row, refl, (and_true (bytes_eq row.view view) (agrees_from 0 row.mask row.subtree name) hit).1)
row_of_match view name None hit = absurd (both_ways false refl hit)

module _ (rows : List FamilyRow) (view name index : List ℕ) where
  abbrev pub between : ℕ → ℕ → List ℕ
  between from to = take (to - from) (drop from index)

  between_long : (from to : ℕ) → to ≤ length index → length (between from to) ≡ to - from
  between_long from to within = length-take-le (to - from) (drop from index) (omega (arith, within, length-drop from index))

  between_at : (from to k d : ℕ) → k < to - from → get_or (between from to) k d ≡ get_or index (from + k) d
  between_at from to k d lt = get_or-take (to - from) (drop from index) k d lt ∙ get_or-drop from index k d

  abbrev match_at : ℕ → ℕ → Bool
  match_at k d = is_match view name (slice_get rows (get_or index k d))

  -- the rows of a block that match are left
  pub left_between : (blocks : List Block) (word b from to : ℕ) → AreIn rows index blocks
      → ((rank : ℕ) (row : FamilyRow) → rank / 64 ≡ b → IsIn blocks rank row → agrees_from 0 row.mask row.subtree name ≡ true → bit_at word (rank % 64) ≡ 1)
      → b * 64 ≤ from → to ≤ b * 64 + 64 → to ≤ length index
      → (k d : ℕ) → k < length (between from to) → is_match view name (slice_get rows (get_or (between from to) k d)) ≡ true → bit_at (word / 2 ^ (from % 64)) k ≡ 1
  left_between blocks word b from to are left low high within k d lt hit =
      let inside : k < to - from = omega (arith, lt, between_long from to within) in
      let same : get_or (between from to) k d ≡ get_or index (from + k) d = between_at from to k d inside in
      let n : ℕ = get_or index (from + k) d in
      let here : slice_get index (from + k) ≡ Some n = slice_get-get_or index (from + k) d (omega (arith, inside, within)) in
      let found = row_of_match view name (slice_get rows n) (ap (λ (m : ℕ). is_match view name (slice_get rows m)) (sym same) ∙ hit) in
      let on = left (from + k) found.0 (omega (arith, inside, low, high)) (are (from + k) n found.0 here found.1) found.2 in
      let place : from % 64 + k ≡ (from + k) % 64 = omega (arith, inside, low, high) in
      ap (λ (x : ℕ). x % 2) (shr-shr word (from % 64) k) ∙ ap (bit_at word) place ∙ on

  module _ (first end : ℕ) (order : first ≤ end) (in_end : end ≤ length index) (b from to : ℕ)
      (is_from : from ≡ max first (b * 64)) (is_to : to ≡ min end (b * 64 + 64)) (ge : first / 64 ≤ b) (below : b * 64 < end) where
    -- a place between both is one of the block
    pub have_more : HaveNot rows view name (between from to) 0 → HaveNot rows view name (between first end) ((b + 1) * 64 - first) → HaveNot rows view name (between first end) (b * 64 - first)
    have_more here behind k d le lt =
        elim (cases_lt k ((b + 1) * 64 - first)) [
          | inr far ↦ behind k d far lt
          | inl near ↦
              let inside : k < end - first = omega (arith, lt, between_long first end in_end) in
              let j = first + k - from in
              let back : from + j ≡ first + k = omega (arith, is_from, le) in
              let in_block : j < to - from = omega (arith, is_from, is_to, le, near, inside) in
              let one = here j d (omega arith) (omega (arith, in_block, between_long from to (omega (arith, is_to, in_end)))) in
              ap (λ (n : ℕ). is_match view name (slice_get rows n))
              (between_at first end k d inside ∙ ap (λ (r : ℕ). get_or index r d) (sym back) ∙ sym (between_at from to j d in_block)) ∙ one
        ]

    pub found_here : (n : ℕ) → IsLastMatch rows view name (between from to) (Some n) → HaveNot rows view name (between first end) ((b + 1) * 64 - first) → IsLastMatch rows view name (between first end) (Some n)
    found_here n last behind =
        let j = last.place in
        let long = between_long from to (omega (arith, is_to, in_end)) in
        let in_block : j < to - from = omega (arith, last.inside, long) in
        let k = from + j - first in
        let back : first + k ≡ from + j = omega (arith, is_from) in
        let inside : k < end - first = omega (arith, is_from, is_to, in_block) in
        record {
          place = k;
          inside = omega (arith, inside, between_long first end in_end);
          here = between_at first end k n inside ∙ ap (λ (r : ℕ). get_or index r n) back ∙ sym (between_at from to j n in_block) ∙ last.here;
          passes = last.passes;
          behind = λ i d le lt. elim (cases_lt i ((b + 1) * 64 - first)) [
            | inr far ↦ behind i d far lt
            | inl near ↦
                let within : i < end - first = omega (arith, lt, between_long first end in_end) in
                let m = first + i - from in
                let again : from + m ≡ first + i = omega (arith, is_from, le, back) in
                let in_it : m < to - from = omega (arith, is_from, is_to, le, near, within, back) in
                ap (λ (x : ℕ). is_match view name (slice_get rows x))
                (between_at first end i d within ∙ ap (λ (r : ℕ). get_or index r d) (sym again) ∙ sym (between_at from to m d in_it))
                ∙ last.behind m d (omega (arith, le, back, again)) (omega (arith, in_it, long))
          ];
        }
