-- Why a value is not read.
use Rattle.std.proofs.Common.{◌≡◌, ℕ, ◌-◌, Bool, true, false, cond, ltb, List, [], ◌∷◌, length, take, drop, Result, Ok, Err, refl, ap, subst, ◌∙◌, arith, inl, inr}
use Rattle.std.specs.Prelude.{None, IfErr}
use Rattle.std.proofs.lemmas.Bool.{lt-ltb, le-ltb, cases_lt}
use Rattle.std.proofs.lemmas.Bool.Decides.{eqb_tells}
use Rattle.ber_core.specs.declared.fault.BerFault.{BerFault}
use Rattle.ber_core.specs.declared.fault.BerFault.TheVariants.{Short, Indefinite, LengthTooLong, BadContent, NoRoom}
use Rattle.ber_core.specs.Encoding.{number}
use Rattle.ber_core.specs.Reading.{◌>>=◌, Gives, length_at, tlv_at}
use Rattle.ber_core.specs.Fault.{BeginsIndefinite, BeginsTooLong, IsTlvFault}
use Rattle.ber_core.proofs.Tlv.{tlv_only}

abbrev triple : Type 0
triple = ℕ × List ℕ × List ℕ

-- what reading says of the octets
abbrev pub Says : List ℕ → Result triple BerFault → Type 0
Says octets (Ok x) = Unit {0}
Says octets (Err Short) = Unit {0}
Says octets (Err Indefinite) = BeginsIndefinite octets
Says octets (Err LengthTooLong) = BeginsTooLong octets
Says octets (Err BadContent) = ⊥
Says octets (Err NoRoom) = ⊥

fits_or_short : (octets : List ℕ) (t : Bool) (x : triple) → Says octets (cond t (Err Short) (Ok x))
fits_or_short octets true x = tt
fits_or_short octets false x = tt

long_or_short : (octets : List ℕ) (tag : ℕ) (t : Bool) (n : ℕ × List ℕ) → Says octets ((cond t (Err Short) (Ok n)) >>= λ m. cond (ltb (length m.1) m.0) (Err Short) (Ok (tag, take m.0 m.1, drop m.0 m.1)))
long_or_short octets tag true n = tt
long_or_short octets tag false n = fits_or_short octets (ltb (length n.1) n.0) (tag, take n.0 n.1, drop n.0 n.1)

tlv_says : (octets : List ℕ) → Says octets (tlv_at octets)
unfolding tlv_at length_at
tlv_says [] = tt
tlv_says (tag ∷ []) = tt
tlv_says (tag ∷ first ∷ rest) =
    elim (cases_lt first 128) [
      | inl lt ↦ rw (lt-ltb _ _ lt) (fits_or_short (tag ∷ first ∷ rest) (ltb (length rest) first) (tag, take first rest, drop first rest))
      | inr ge ↦
          elim (eqb_tells first 128) [
            | inl same ↦ rw (le-ltb _ _ ge, same.0) (record { tag = tag; rest = rest; parts = ap (λ (k : ℕ). tag ∷ k ∷ rest) same.1 })
            | inr other ↦
                elim (cases_lt 132 first) [
                  | inl more ↦ rw (le-ltb _ _ ge, other.0, lt-ltb _ _ more) (record { tag = tag; first = first; rest = rest; parts = refl; more = more })
                  | inr few ↦
                      rw (le-ltb _ _ ge, other.0, le-ltb _ _ few)
                      (long_or_short (tag ∷ first ∷ rest) tag (ltb (length rest) (first - 128)) (number (take (first - 128) rest), drop (first - 128) rest))
                ]
          ]
    ]

indefinite_at : (octets : List ℕ) → BeginsIndefinite octets → tlv_at octets ≡ Err Indefinite
unfolding tlv_at length_at
indefinite_at octets b = ap tlv_at b.parts

too_long_at : (octets : List ℕ) → BeginsTooLong octets → tlv_at octets ≡ Err LengthTooLong
unfolding tlv_at length_at
too_long_at octets b =
    let more = b.more in
    elim (eqb_tells b.first 128) [
      | inl same ↦ absurd (let e = same.1 in omega arith)
      | inr other ↦ ap tlv_at b.parts ∙ rw (le-ltb b.first 128 (omega arith), other.0, lt-ltb _ _ more) refl
    ]

abbrev failed : BerFault → Result triple BerFault
failed f = Err f

stated : (octets : List ℕ) (f : BerFault) → tlv_at octets ≡ failed f → Says octets (failed f)
stated octets f e = subst (Says octets) e (tlv_says octets)

tlv_fault : (octets : List ℕ) (f : BerFault) → tlv_at octets ≡ failed f → IsTlvFault octets f
tlv_fault octets Short e = record {
  definite = λ b. (let k = indefinite_at octets b in cc);
  accepted = λ b. (let k = too_long_at octets b in cc);
  none = λ tag content rest b. (let k = tlv_only octets tag content rest b in cc);
}
tlv_fault octets Indefinite e = stated octets Indefinite e
tlv_fault octets LengthTooLong e = stated octets LengthTooLong e
tlv_fault octets BadContent e = stated octets BadContent e
tlv_fault octets NoRoom e = stated octets NoRoom e

pub fault_by : {X : Type 0} (view : X → ℕ × List ℕ × List ℕ) (octets : List ℕ) (r : Result X BerFault) → Gives None view r (tlv_at octets) → IfErr r (λ f. IsTlvFault octets f)
fault_by view octets (Ok x) g = tt
fault_by view octets (Err f) g = tlv_fault octets f g
