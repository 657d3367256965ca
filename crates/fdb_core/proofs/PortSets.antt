-- Which ports the bits of octets give.
use Rattle.std.proofs.Common.{◌≡◌, ℕ, ◌+◌, ◌-◌, ◌*◌, ◌/◌, ◌%◌, ◌<◌, ◌≤◌, zero, suc, Bool, true, false, ◌||◌, List, length, get_or, map, refl, sym, ap, ◌∙◌, arith}
use Rattle.std.specs.Prelude.{nat_lt, ◌==◌}
use Rattle.std.specs.List.{range_with_len, list_any}
use Rattle.std.proofs.lemmas.List.{get_or_past}
use Rattle.std.proofs.lemmas.Nat.Bits.{bit_at-zero}
use Rattle.std.proofs.lemmas.List.FromFn.{length-map-range_with_len, get_or-map-range_with_len}
use Rattle.std.proofs.lemmas.Bool.Decides.{Decides-ltb}
use Rattle.frame_core.specs.Octets.{has_bit}
use Rattle.fdb_core.specs.PortSets.{has_bit_at, has_other_port, ports_in, IsOfPorts}

not_either : (a b : Bool) → (a || b) ≡ false → (a ≡ false) × (b ≡ false)
not_either true b e = absurd cc
not_either false b e = (refl, e)

-- where none of some numbers passes, one of them does not
none_passes : (p : ℕ → Bool) (a n k : ℕ) → list_any p (range_with_len a n) ≡ false → a ≤ k → k < a + n → p k ≡ false
none_passes p a zero k e first last = absurd (omega arith)
none_passes p a (suc n) k e first last =
    let parts = not_either (p a) (list_any p (range_with_len (a + 1) n)) e in
    first_or_later (nat_lt a k) refl parts.0 (λ l. none_passes p (a + 1) n k parts.1 l (omega arith))
  where
    first_or_later : (v : Bool) → nat_lt a k ≡ v → p a ≡ false → (a + 1 ≤ k → p k ≡ false) → p k ≡ false
    first_or_later true f here more = let below : a < k = (Decides-ltb a k).0 f in more (omega arith)
    first_or_later false f here more =
        let same : a ≡ k = (let no : a < k → ⊥ = λ b. let t : nat_lt a k ≡ true = (Decides-ltb a k).1 b in absurd cc in omega arith) in
        sym (ap p same) ∙ here

-- a bit past all octets is 0
zero_bit : (i : ℕ) → has_bit 0 i ≡ false
zero_bit i = ap (λ n. n == 1) (bit_at-zero i)

past_octets : (octets : List ℕ) (k : ℕ) → 8 * length octets ≤ k → has_bit_at octets k ≡ false
past_octets octets k h =
    let past : get_or octets (k / 8) 0 ≡ 0 = get_or_past octets (k / 8) 0 (omega arith) in
    ap (λ o. has_bit o (7 - k % 8)) past ∙ zero_bit (7 - k % 8)

other_bit : (count : ℕ) (octets : List ℕ) (k : ℕ) (v : Bool) → has_other_port count octets ≡ false → count ≤ k → nat_lt k (8 * length octets) ≡ v → has_bit_at octets k ≡ false
other_bit count octets k true e h f =
    let below : k < 8 * length octets = (Decides-ltb k (8 * length octets)).0 f in
    none_passes (has_bit_at octets) count (8 * length octets - count) k e h (omega arith)
other_bit count octets k false e h f =
    past_octets octets k (let no : k < 8 * length octets → ⊥ = λ b. let t : nat_lt k (8 * length octets) ≡ true = (Decides-ltb k (8 * length octets)).1 b in absurd cc in omega arith)

other_port : (count : ℕ) (octets : List ℕ) (k : ℕ) (v : Bool) → has_other_port count octets ≡ false → count ≤ k → nat_lt k 32 ≡ v → get_or (map (has_bit_at octets) (range_with_len 0 32)) k false ≡ false
other_port count octets k true e h f =
    let below : k < 32 = (Decides-ltb k 32).0 f in
    get_or-map-range_with_len (has_bit_at octets) 0 32 k k false below (omega arith) ∙ other_bit count octets k (nat_lt k (8 * length octets)) e h refl
other_port count octets k false e h f =
    let beyond : 32 ≤ k = (let no : k < 32 → ⊥ = λ b. let t : nat_lt k 32 ≡ true = (Decides-ltb k 32).1 b in absurd cc in omega arith) in
    get_or_past (map (has_bit_at octets) (range_with_len 0 32)) k false (omega (arith, length-map-range_with_len (has_bit_at octets) 0 32))

-- so the ports are of so many, where no other bit is 1
pub read_of_ports : (octets : List ℕ) (count : ℕ) → has_other_port count octets ≡ false → IsOfPorts count (ports_in octets)
read_of_ports octets count e = record {
  size = length-map-range_with_len (has_bit_at octets) 0 32;
  within = λ port h. other_port count octets (port - 1) (nat_lt (port - 1) 32) e (omega arith) refl;
}
