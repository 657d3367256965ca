-- Sets of ports as octets, and back.
use Rattle.std.proofs.Common.{◌≡◌, ℕ, ◌+◌, ◌-◌, ◌*◌, ◌/◌, ◌%◌, ◌<◌, ◌≤◌, zero, suc, Bool, true, false, List, [], ◌∷◌, length, get_or, take, drop, nat_lt, refl, sym, ap, ◌∙◌, arith}
use Rattle.std.specs.Prelude.{◌==◌, if◌then◌else◌}
use Rattle.std.specs.List.{AllByRecursion}
use Rattle.std.specs.Int.{bit_at}
use Rattle.std.proofs.lemmas.Bool.Decides.{Decides-ltb}
use Rattle.std.proofs.lemmas.List.{get_or_past, get_or-take, get_or-drop, length-take-le, length-drop}
use Rattle.std.proofs.lemmas.List.FromFn.{fill_by_all, get_or-map-range_with_len, length-map-range_with_len}
use Rattle.std.proofs.lemmas.Nat.Bits.{bit_at-lt, bit_at-zero}
use Rattle.frame_core.specs.Octets.{has_bit}
use Rattle.fdb_core.specs.declared.port_set.PortSet.{PortSet}
use Rattle.fdb_core.specs.PortSets.{IsOfPorts, octet_of_bits, octets_of, ports_in, has_bit_at}

-- a bit is 1 where it is there
one_or_none : (b : ℕ) → b < 2 → (if b == 1 then 1 else 0) ≡ b
one_or_none zero h = refl
one_or_none (suc zero) h = refl
one_or_none (suc (suc b)) h = absurd (omega arith)

bit_is : (o i : ℕ) → (if has_bit o i then 1 else 0) ≡ bit_at o i
bit_is o i = one_or_none (bit_at o i) (bit_at-lt o i)

-- an octet is that of its bits
octet_again : (o : ℕ) → o < 256 → octet_of_bits (has_bit o 7 ∷ has_bit o 6 ∷ has_bit o 5 ∷ has_bit o 4 ∷ has_bit o 3 ∷ has_bit o 2 ∷ has_bit o 1 ∷ has_bit o 0 ∷ []) ≡ o
octet_again o h =
    let b7 = bit_is o 7 in
    let b6 = bit_is o 6 in
    let b5 = bit_is o 5 in
    let b4 = bit_is o 4 in
    let b3 = bit_is o 3 in
    let b2 = bit_is o 2 in
    let b1 = bit_is o 1 in
    let b0 = bit_is o 0 in
    rw (b7, b6, b5, b4, b3, b2, b1, b0) (omega arith)

below : (xs : List ℕ) → AllByRecursion (λ o. o < 256) xs → (k : ℕ) → get_or xs k 0 < 256
below [] h k = omega arith
below (x ∷ xs) h zero = h.0
below (x ∷ xs) h (suc k) = below xs h.1 k

-- octets are written as they were read
module _ (octets : List ℕ) (small : AllByRecursion (λ o. o < 256) octets) where
  written : ℕ → ℕ
  written k = octet_of_bits (take 8 (drop (8 * k) (ports_in octets).0))

  at_octet : (k : ℕ) → k < 4 → get_or octets k 0 ≡ octet_of_bits (take 8 (drop (8 * k) (ports_in octets).0))
  at_octet zero h = sym (octet_again (get_or octets 0 0) (below octets small 0))
  at_octet (suc zero) h = sym (octet_again (get_or octets 1 0) (below octets small 1))
  at_octet (suc (suc zero)) h = sym (octet_again (get_or octets 2 0) (below octets small 2))
  at_octet (suc (suc (suc zero))) h = sym (octet_again (get_or octets 3 0) (below octets small 3))
  at_octet (suc (suc (suc (suc k)))) h = absurd (omega arith)

  pub octets_again : (count : ℕ) → count ≤ 32 → length octets ≡ (count + 7) / 8 → octets_of count (ports_in octets) ≡ octets
  octets_again count most long =
      sym (fill_by_all (λ k. octet_of_bits (take 8 (drop (8 * k) (ports_in octets).0))) octets ((count + 7) / 8) 0 long (λ k lt. at_octet k (omega arith)))

-- each of eight bits, the highest first, in the number that they make
module _ (d0 d1 d2 d3 d4 d5 d6 d7 : ℕ) (h0 : d0 < 2) (h1 : d1 < 2) (h2 : d2 < 2) (h3 : d3 < 2) (h4 : d4 < 2) (h5 : d5 < 2) (h6 : d6 < 2) (h7 : d7 < 2) where
  digit_0 : (2 * (2 * (2 * (2 * (2 * (2 * (2 * (2 * 0 + d0) + d1) + d2) + d3) + d4) + d5) + d6) + d7) / 128 % 2 ≡ d0
  digit_0 = omega arith

  digit_1 : (2 * (2 * (2 * (2 * (2 * (2 * (2 * (2 * 0 + d0) + d1) + d2) + d3) + d4) + d5) + d6) + d7) / 64 % 2 ≡ d1
  digit_1 = omega arith

  digit_2 : (2 * (2 * (2 * (2 * (2 * (2 * (2 * (2 * 0 + d0) + d1) + d2) + d3) + d4) + d5) + d6) + d7) / 32 % 2 ≡ d2
  digit_2 = omega arith

  digit_3 : (2 * (2 * (2 * (2 * (2 * (2 * (2 * (2 * 0 + d0) + d1) + d2) + d3) + d4) + d5) + d6) + d7) / 16 % 2 ≡ d3
  digit_3 = omega arith

  digit_4 : (2 * (2 * (2 * (2 * (2 * (2 * (2 * (2 * 0 + d0) + d1) + d2) + d3) + d4) + d5) + d6) + d7) / 8 % 2 ≡ d4
  digit_4 = omega arith

  digit_5 : (2 * (2 * (2 * (2 * (2 * (2 * (2 * (2 * 0 + d0) + d1) + d2) + d3) + d4) + d5) + d6) + d7) / 4 % 2 ≡ d5
  digit_5 = omega arith

  digit_6 : (2 * (2 * (2 * (2 * (2 * (2 * (2 * (2 * 0 + d0) + d1) + d2) + d3) + d4) + d5) + d6) + d7) / 2 % 2 ≡ d6
  digit_6 = omega arith

  digit_7 : (2 * (2 * (2 * (2 * (2 * (2 * (2 * (2 * 0 + d0) + d1) + d2) + d3) + d4) + d5) + d6) + d7) / 1 % 2 ≡ d7
  digit_7 = omega arith

small_bit : (b : Bool) → (if b then 1 else 0) < 2
small_bit true = omega arith
small_bit false = omega arith

bit_back : (b : Bool) → ((if b then 1 else 0) == 1) ≡ b
bit_back true = refl
bit_back false = refl

bit_of : (b0 b1 b2 b3 b4 b5 b6 b7 : Bool) (r : ℕ) → r < 8 → has_bit (octet_of_bits (b0 ∷ b1 ∷ b2 ∷ b3 ∷ b4 ∷ b5 ∷ b6 ∷ b7 ∷ [])) (7 - r) ≡ get_or (b0 ∷ b1 ∷ b2 ∷ b3 ∷ b4 ∷ b5 ∷ b6 ∷ b7 ∷ []) r false
bit_of b0 b1 b2 b3 b4 b5 b6 b7 zero h = ap (λ n. n == 1) (digit_0 (if b0 then 1 else 0) (if b1 then 1 else 0) (if b2 then 1 else 0) (if b3 then 1 else 0) (if b4 then 1 else 0) (if b5 then 1 else 0) (if b6 then 1 else 0) (if b7 then 1 else 0) (small_bit b0) (small_bit b1) (small_bit b2) (small_bit b3) (small_bit b4) (small_bit b5) (small_bit b6) (small_bit b7)) ∙ bit_back b0
bit_of b0 b1 b2 b3 b4 b5 b6 b7 (suc zero) h = ap (λ n. n == 1) (digit_1 (if b0 then 1 else 0) (if b1 then 1 else 0) (if b2 then 1 else 0) (if b3 then 1 else 0) (if b4 then 1 else 0) (if b5 then 1 else 0) (if b6 then 1 else 0) (if b7 then 1 else 0) (small_bit b0) (small_bit b1) (small_bit b2) (small_bit b3) (small_bit b4) (small_bit b5) (small_bit b6) (small_bit b7)) ∙ bit_back b1
bit_of b0 b1 b2 b3 b4 b5 b6 b7 (suc (suc zero)) h = ap (λ n. n == 1) (digit_2 (if b0 then 1 else 0) (if b1 then 1 else 0) (if b2 then 1 else 0) (if b3 then 1 else 0) (if b4 then 1 else 0) (if b5 then 1 else 0) (if b6 then 1 else 0) (if b7 then 1 else 0) (small_bit b0) (small_bit b1) (small_bit b2) (small_bit b3) (small_bit b4) (small_bit b5) (small_bit b6) (small_bit b7)) ∙ bit_back b2
bit_of b0 b1 b2 b3 b4 b5 b6 b7 (suc (suc (suc zero))) h = ap (λ n. n == 1) (digit_3 (if b0 then 1 else 0) (if b1 then 1 else 0) (if b2 then 1 else 0) (if b3 then 1 else 0) (if b4 then 1 else 0) (if b5 then 1 else 0) (if b6 then 1 else 0) (if b7 then 1 else 0) (small_bit b0) (small_bit b1) (small_bit b2) (small_bit b3) (small_bit b4) (small_bit b5) (small_bit b6) (small_bit b7)) ∙ bit_back b3
bit_of b0 b1 b2 b3 b4 b5 b6 b7 (suc (suc (suc (suc zero)))) h = ap (λ n. n == 1) (digit_4 (if b0 then 1 else 0) (if b1 then 1 else 0) (if b2 then 1 else 0) (if b3 then 1 else 0) (if b4 then 1 else 0) (if b5 then 1 else 0) (if b6 then 1 else 0) (if b7 then 1 else 0) (small_bit b0) (small_bit b1) (small_bit b2) (small_bit b3) (small_bit b4) (small_bit b5) (small_bit b6) (small_bit b7)) ∙ bit_back b4
bit_of b0 b1 b2 b3 b4 b5 b6 b7 (suc (suc (suc (suc (suc zero))))) h = ap (λ n. n == 1) (digit_5 (if b0 then 1 else 0) (if b1 then 1 else 0) (if b2 then 1 else 0) (if b3 then 1 else 0) (if b4 then 1 else 0) (if b5 then 1 else 0) (if b6 then 1 else 0) (if b7 then 1 else 0) (small_bit b0) (small_bit b1) (small_bit b2) (small_bit b3) (small_bit b4) (small_bit b5) (small_bit b6) (small_bit b7)) ∙ bit_back b5
bit_of b0 b1 b2 b3 b4 b5 b6 b7 (suc (suc (suc (suc (suc (suc zero)))))) h = ap (λ n. n == 1) (digit_6 (if b0 then 1 else 0) (if b1 then 1 else 0) (if b2 then 1 else 0) (if b3 then 1 else 0) (if b4 then 1 else 0) (if b5 then 1 else 0) (if b6 then 1 else 0) (if b7 then 1 else 0) (small_bit b0) (small_bit b1) (small_bit b2) (small_bit b3) (small_bit b4) (small_bit b5) (small_bit b6) (small_bit b7)) ∙ bit_back b6
bit_of b0 b1 b2 b3 b4 b5 b6 b7 (suc (suc (suc (suc (suc (suc (suc zero))))))) h = ap (λ n. n == 1) (digit_7 (if b0 then 1 else 0) (if b1 then 1 else 0) (if b2 then 1 else 0) (if b3 then 1 else 0) (if b4 then 1 else 0) (if b5 then 1 else 0) (if b6 then 1 else 0) (if b7 then 1 else 0) (small_bit b0) (small_bit b1) (small_bit b2) (small_bit b3) (small_bit b4) (small_bit b5) (small_bit b6) (small_bit b7)) ∙ bit_back b7
bit_of b0 b1 b2 b3 b4 b5 b6 b7 (suc (suc (suc (suc (suc (suc (suc (suc r)))))))) h = absurd (omega arith)

bit_in : (bs : List Bool) → length bs ≡ 8 → (r : ℕ) → r < 8 → has_bit (octet_of_bits bs) (7 - r) ≡ get_or bs r false
bit_in (b0 ∷ b1 ∷ b2 ∷ b3 ∷ b4 ∷ b5 ∷ b6 ∷ b7 ∷ []) long r h = bit_of b0 b1 b2 b3 b4 b5 b6 b7 r h
bit_in bs long r h = absurd (omega arith)

-- ports are read as they were written
module _ (count : ℕ) (s : PortSet) (most : count ≤ 32) (of : IsOfPorts count s) where
  at_port : (k : ℕ) (v : Bool) → nat_lt (k / 8) ((count + 7) / 8) ≡ v → k < 32 → get_or s.0 k false ≡ has_bit_at (octets_of count s) k
  at_port k true e within =
      let lt : k / 8 < (count + 7) / 8 = (Decides-ltb (k / 8) ((count + 7) / 8)).0 e in
      let left : 8 ≤ length (drop (8 * (k / 8)) s.0) = omega (arith, length-drop (8 * (k / 8)) s.0, of.size) in
      let bits = take 8 (drop (8 * (k / 8)) s.0) in
      let long : length bits ≡ 8 = length-take-le 8 (drop (8 * (k / 8)) s.0) left in
      let octet : get_or (octets_of count s) (k / 8) 0 ≡ octet_of_bits bits = get_or-map-range_with_len (λ j. octet_of_bits (take 8 (drop (8 * j) s.0))) 0 ((count + 7) / 8) (k / 8) (k / 8) 0 lt (omega arith) in
      let short : k % 8 < 8 = omega arith in
      let place : 8 * (k / 8) + k % 8 ≡ k = omega arith in
      let there : get_or bits (k % 8) false ≡ get_or s.0 k false = get_or-take 8 (drop (8 * (k / 8)) s.0) (k % 8) false short ∙ (get_or-drop (8 * (k / 8)) s.0 (k % 8) false ∙ ap (λ j. get_or s.0 j false) place) in
      sym (ap (λ o. has_bit o (7 - k % 8)) octet ∙ (bit_in bits long (k % 8) short ∙ there))
  at_port k false e within =
      let past : (count + 7) / 8 ≤ k / 8 = (let no : k / 8 < (count + 7) / 8 → ⊥ = λ b. let t : nat_lt (k / 8) ((count + 7) / 8) ≡ true = (Decides-ltb (k / 8) ((count + 7) / 8)).1 b in absurd cc in omega arith) in
      let none : get_or (octets_of count s) (k / 8) 0 ≡ 0 = get_or_past (octets_of count s) (k / 8) 0 (omega (arith, length-map-range_with_len (λ j. octet_of_bits (take 8 (drop (8 * j) s.0))) 0 ((count + 7) / 8))) in
      let beyond : count < k + 1 = omega arith in
      let same : k ≡ (k + 1) - 1 = omega arith in
      ap (λ j. get_or s.0 j false) same ∙ (of.within (k + 1) beyond ∙ sym (ap (λ o. has_bit o (7 - k % 8)) none ∙ ap (λ n. n == 1) (bit_at-zero (7 - k % 8))))

  pub ports_again : ports_in (octets_of count s) ≡ s
  ports_again =
      sym (ap (λ (l : List Bool). record { 0 = l }) (fill_by_all (has_bit_at (octets_of count s)) s.0 32 false of.size (λ k lt. at_port k (nat_lt (k / 8) ((count + 7) / 8)) refl lt)))
