-- What lies in an index of rows, and what is found in it.
use Rattle.std.proofs.Common.{◌≡◌, ℕ, ◌+◌, ◌-◌, ◌<◌, ◌≤◌, true, false, List, [], ◌∷◌, ◌++◌, length, take, drop, get_or, All, Contains, refl, sym, ap, subst, ◌∙◌, arith, inl, inr}
use Rattle.std.specs.Cmp.{IsTotalOrder, IsStrictWeakOrder}
use Rattle.std.specs.Cmp.Lexicographic.{slice_cmp}
use Rattle.std.specs.FinMap.{nat_cmp-IsAntisymmetric}
use Rattle.std.specs.List.Sorted.{IsSortedBy, IsNonDecreasingBy, IsPartitionedBy, IsPartitionPoint}
use Rattle.std.specs.Ordering.{nat_cmp, is_lt, is_le, ordering_index}
use Rattle.std.specs.declared.cmp.Ordering.{Ordering}
use Rattle.std.specs.declared.cmp.Ordering.TheVariants.{Less, Equal, Greater}
use Rattle.std.proofs.lemmas.Bool.{cases_lt, both_ways}
use Rattle.std.proofs.lemmas.Cmp.{then_total, on_total, nat_cmp_total, nat_list_cmp_total, tied_itself}
use Rattle.std.proofs.lemmas.List.{get_or-take, get_or-drop, length-take, length-take-le, length-drop}
use Rattle.std.proofs.lemmas.List.Elements.{All-push, Contains-append_left, Contains-push}
use Rattle.std.proofs.lemmas.List.Sorted.{ranks_by, searchable_from_sorted, IsNonDecreasingBy-take, IsNonDecreasingBy-drop}
use Rattle.oid_core.proofs.OrderLaws.{cmp_equal}
use Rattle.vacm_core.specs.Keys.{key_cmp, key_at, key_before}
use Rattle.vacm_core.proofs.Ties.{then_equal}

pub one_more_in : (n : ℕ) (numbers after : List ℕ) → ((k : ℕ) → k < n → Contains numbers k) → after ≡ numbers ++ n ∷ [] → (k : ℕ) → k < n + 1 → Contains after k
one_more_in n numbers after so e k lt =
    elim (cases_lt k n) [
      | inl below ↦ subst (λ (l : List ℕ). Contains l k) (sym e) (Contains-append_left numbers (n ∷ []) k (so k below))
      | inr not ↦
          let same : n ≡ k = omega arith in
          subst (λ (l : List ℕ). Contains l k) (sym e) (subst (λ (m : ℕ). Contains (numbers ++ n ∷ []) m) same (Contains-push numbers n))
    ]

pub one_more_below : (n : ℕ) (numbers after : List ℕ) → All (λ k. k < n) numbers → after ≡ numbers ++ n ∷ [] → All (λ k. k < n + 1) after
one_more_below n numbers after so e =
    subst (λ (l : List ℕ). All (λ k. k < n + 1) l) (sym e)
    (All-push (λ k. k < n + 1) numbers n (λ k d lt. let below = so k d lt in omega (arith, below)) (omega arith))

pub key_total : IsTotalOrder key_cmp
key_total = then_total (on_total (λ (k : ℕ × List ℕ). k.0) nat_cmp_total) (on_total (λ (k : ℕ × List ℕ). k.1) nat_list_cmp_total)

pub key_order : {R : Type 0} (key : R → ℕ × List ℕ) (rows : List R) → IsStrictWeakOrder (key_before key rows)
key_order key rows = ranks_by key_total (key_at key rows)

lower_lt : (a b : Ordering) → ordering_index a ≤ ordering_index b → is_lt b ≡ true → is_lt a ≡ true
lower_lt Less b le e = refl
lower_lt Equal Less le e = absurd (omega (arith, le))
lower_lt Equal Equal le e = absurd cc
lower_lt Equal Greater le e = absurd cc
lower_lt Greater Less le e = absurd (omega (arith, le))
lower_lt Greater Equal le e = absurd cc
lower_lt Greater Greater le e = absurd cc

lower_le : (a b : Ordering) → ordering_index a ≤ ordering_index b → is_le b ≡ true → is_le a ≡ true
lower_le Less b le e = refl
lower_le Equal b le e = refl
lower_le Greater Less le e = absurd (omega (arith, le))
lower_le Greater Equal le e = absurd (omega (arith, le))
lower_le Greater Greater le e = absurd cc

between : (o : Ordering) → is_lt o ≡ false → is_le o ≡ true → o ≡ Equal
between Less e f = absurd cc
between Equal e f = refl
between Greater e f = absurd cc

key_equal : (a b : ℕ × List ℕ) → key_cmp a b ≡ Equal → a ≡ b
key_equal a b e =
    let parts = then_equal (nat_cmp a.0 b.0) (slice_cmp nat_cmp a.1 b.1) e in
    let number = nat_cmp-IsAntisymmetric a.0 b.0 parts.0 in
    let name = cmp_equal a.1 b.1 parts.1 in
    λ j. (number j, name j)

module _ (numbers : List ℕ) (first end : ℕ) where
  abbrev pub part : List ℕ
  part = take (length numbers - first) (drop first numbers)

  part_length : length part ≡ length numbers - first
  part_length = length-take-le (length numbers - first) (drop first numbers) (omega (arith, length-drop first numbers))

  part_at : (k d : ℕ) → k < length numbers - first → get_or part k d ≡ get_or numbers (first + k) d
  part_at k d lt = get_or-take (length numbers - first) (drop first numbers) k d lt ∙ get_or-drop first numbers k d

  pub found_within : (P : ℕ → Type 0) → All P numbers → All P (take end part)
  found_within P all k d lt =
      let len = length-take end part in
      let here : get_or (take end part) k d ≡ get_or part k d = get_or-take end part k d (omega (arith, len)) in
      let there : get_or part k d ≡ get_or numbers (first + k) d = part_at k d (omega (arith, len, part_length)) in
      subst P (sym (here ∙ there)) (all (first + k) d (omega (arith, len, part_length)))

module _ {R : Type 0} (key : R → ℕ × List ℕ) (rows : List R) (asked : ℕ × List ℕ) where
  abbrev pub at : ℕ → Ordering
  at n = key_cmp (key_at key rows n) asked

  rising : (numbers : List ℕ) → IsSortedBy (key_before key rows) numbers → IsNonDecreasingBy (λ n. ordering_index (at n)) numbers
  rising numbers up = searchable_from_sorted key_total (key_at key rows) numbers asked up

  pub parted_lt : (numbers : List ℕ) → IsSortedBy (key_before key rows) numbers → IsPartitionedBy (λ n. is_lt (at n)) numbers
  parted_lt numbers up i j d le lt e = lower_lt (at (get_or numbers i d)) (at (get_or numbers j d)) (rising numbers up i j d le lt) e

  pub parted_upto : (numbers : List ℕ) → IsSortedBy (key_before key rows) numbers → IsPartitionedBy (λ n. is_le (at n)) numbers
  parted_upto numbers up i j d le lt e = lower_le (at (get_or numbers i d)) (at (get_or numbers j d)) (rising numbers up i j d le lt) e

  pub parted_le : (numbers : List ℕ) (first : ℕ) → IsSortedBy (key_before key rows) numbers → IsPartitionedBy (λ n. is_le (at n)) (take (length numbers - first) (drop first numbers))
  parted_le numbers first up i j d le lt e =
      let rank : ℕ → ℕ = λ n. ordering_index (at n) in
      let behind = drop first numbers in
      let part = take (length numbers - first) behind in
      let rises = IsNonDecreasingBy-take rank (length numbers - first) behind (IsNonDecreasingBy-drop rank first numbers (rising numbers up)) in
      lower_le (at (get_or part i d)) (at (get_or part j d)) (rises i j d le lt) e

  module _ (numbers : List ℕ) (first end : ℕ) (lower : IsPartitionPoint (λ n. is_lt (at n) ≡ true) (λ n. is_lt (at n) ≡ false) numbers first)
      (upper : IsPartitionPoint (λ n. is_le (at n) ≡ true) (λ n. is_le (at n) ≡ false) (take (length numbers - first) (drop first numbers)) end) where
    pub found_only : All (λ n. key_at key rows n ≡ asked) (take end (part numbers first end))
    found_only k d lt =
        let mid : List ℕ = part numbers first end in
        let mid_length = part_length numbers first end in
        let len = length-take end mid in
        let in_part : k < length mid = omega (arith, len) in
        let in_end : k < end = omega (arith, len) in
        let here : get_or (take end mid) k d ≡ get_or mid k d = get_or-take end mid k d in_end in
        let there : get_or mid k d ≡ get_or numbers (first + k) d = part_at numbers first end k d (omega (arith, mid_length)) in
        let not_before : is_lt (at (get_or mid k d)) ≡ false = ap (λ (n : ℕ). is_lt (at n)) there ∙ lower.1 (first + k) d (omega arith) (omega (arith, mid_length)) in
        let not_behind : is_le (at (get_or mid k d)) ≡ true = upper.0 k d (omega arith) in_end in
        ap (λ (n : ℕ). key_at key rows n) here ∙ key_equal (key_at key rows (get_or mid k d)) asked (between (at (get_or mid k d)) not_before not_behind)

    pub found_all : ((n : ℕ) → n < length rows → Contains numbers n) → (n : ℕ) → n < length rows → key_at key rows n ≡ asked → Contains (take end (part numbers first end)) n
    found_all all n lt same =
        let mid : List ℕ = part numbers first end in
        let mid_length = part_length numbers first end in
        let found = all n lt in
        let j = found.0 in
        let is : get_or numbers j n ≡ n = found.2 in
        let equal : at (get_or numbers j n) ≡ Equal = ap at is ∙ ap (λ (k : ℕ × List ℕ). key_cmp k asked) same ∙ tied_itself key_total asked in
        elim (cases_lt j first) [
          | inl before ↦ absurd (both_ways (is_lt (at (get_or numbers j n))) (ap is_lt equal) (lower.0 j n (omega arith) before))
          | inr behind ↦
              let k = j - first in
              let place : first + k ≡ j = omega (arith, behind) in
              let in_numbers : j < length numbers = found.1 in
              let in_part : k < length numbers - first = omega (arith, behind, in_numbers) in
              let there : get_or mid k n ≡ get_or numbers j n = part_at numbers first end k n in_part ∙ ap (λ (m : ℕ). get_or numbers m n) place in
              let le : is_le (at (get_or mid k n)) ≡ true = ap (λ (m : ℕ). is_le (at m)) there ∙ ap is_le equal in
              elim (cases_lt k end) [
                | inl inside ↦ (k, omega (arith, length-take end mid, mid_length, in_part, inside), get_or-take end mid k n inside ∙ there ∙ is)
                | inr outside ↦ absurd (both_ways (is_le (at (get_or mid k n))) (upper.1 k n outside (omega (arith, mid_length, in_part))) le)
              ]
        ]
