-- Bits of words, and what bitmaps keep.
use Rattle.std.proofs.Common.{inl, inr, ◌==◌, ◌||◌, ap, sym, ◌≡◌, ℕ, ◌<◌, ◌+◌, if◌then◌else◌, Bool, true, false, List, length, get_or, Option, Some, None, bit_and, refl, ◌∙◌, arith, eq-eqb}
use Rattle.std.specs.List.{slice_get}
use Rattle.std.proofs.lemmas.Bool.{cases_Bool, eqb-true}
use Rattle.std.proofs.lemmas.Option.{get_or_from_slice_get, slice_get_within}
use Rattle.std.proofs.lemmas.Nat.Bits.{bit_at_and, bit_at_ones}
use Rattle.std.specs.Int.{bit_at}
use Rattle.vacm_core.specs.Bitmaps.{is_allowed, only_at, only_of}
use Rattle.vacm_core.specs.Families.{agrees_from, mask_bit}
use Rattle.vacm_core.specs.declared.tables.FamilyRow.{FamilyRow}
use Rattle.vacm_core.proofs.Agrees.{agrees_found}

pub or_right : (a b : Bool) → b ≡ true → (a || b) ≡ true
or_right true b e = refl
or_right false b e = e

-- each bit of a full word is set
pub full : (bit : ℕ) → bit < 64 → bit_at 18446744073709551615 bit ≡ 1
full bit small = bit_at_ones 64 bit small

-- a bit of two words is one of both
pub both_bits : (a b bit : ℕ) → bit_at a bit ≡ 1 → bit_at b bit ≡ 1 → bit_at (bit_and a b) bit ≡ 1
both_bits a b bit one other = bit_at_and a b bit ∙ rw (one, other) refl

-- what is left of a number is another one
pub rest_kept : (number high others bit : ℕ) → (number ≡ high → ⊥) → ((number == high) || bit_at others bit == 1) ≡ true → bit_at others bit ≡ 1
rest_kept number high others bit ne kept =
    elim (cases_Bool (number == high)) [
      | inl e ↦ absurd (ne (eqb-true number high e))
      | inr off ↦ eqb-true (bit_at others bit) 1 (sym (ap (λ (b : Bool). b || (bit_at others bit == 1)) off) ∙ kept)
    ]

by_bit : (b : Bool) (part number : ℕ) → (b ≡ true → part ≡ number) → is_allowed (if b then Some part else None) number ≡ true
by_bit true part number h = eq-eqb part number (h refl)
by_bit false part number h = refl

allowed_at : (mask : List ℕ) (place : ℕ) (o : Option ℕ) (number : ℕ) → ((part : ℕ) → o ≡ Some part → mask_bit mask place ≡ true → part ≡ number)
    → is_allowed (only_at mask place o) number ≡ true
allowed_at mask place None number h = refl
allowed_at mask place (Some part) number h = by_bit (mask_bit mask place) part number (h part refl)

start : (place : ℕ) → 0 + place ≡ place
start place = omega arith

-- a name of the family has at each place a number that the row may have there
pub allowed : (row : FamilyRow) (name : List ℕ) (place number : ℕ) → agrees_from 0 row.mask row.subtree name ≡ true → place < length name → get_or name place 0 ≡ number
    → is_allowed (only_of row place) number ≡ true
allowed row name place number has lt is =
    allowed_at row.mask place (slice_get row.subtree place) number (λ part here bit.
    sym (get_or_from_slice_get row.subtree place part 0 here)
    ∙ sym ((agrees_found 0 row.mask row.subtree name has).1 place (slice_get_within row.subtree place part here) (ap (mask_bit row.mask) (start place) ∙ bit)) ∙ is)
