-- The greatest octets that are not behind an index, and the rows whose address is an index.
use Rattle.std.proofs.Common.{◌≡◌, ◌≢◌, ℕ, zero, suc, ◌-◌, ◌<◌, ◌≤◌, Bool, true, false, cond, nat_eq, nat_lt, List, [], ◌∷◌, length, refl, sym, ap, ◌∙◌, arith, ◌⊎◌, inl, inr}
use Rattle.std.specs.Prelude.{replicate}
use Rattle.std.specs.List.{AllByRecursion}
use Rattle.std.specs.Ordering.{is_gt, nat_cmp}
use Rattle.std.specs.Cmp.Lexicographic.{slice_cmp}
use Rattle.std.specs.declared.cmp.Ordering.TheVariants.{Less, Equal, Greater}
use Rattle.std.proofs.lemmas.Bool.{ltb-true, ltb-false}
use Rattle.std.proofs.lemmas.Bool.Decides.{eqb_tells, nat_tests}
use Rattle.oid_core.specs.Order.{name_lt, name_eq}

abbrev AreOctets : List ℕ → Type 0
AreOctets octets = AllByRecursion (λ o. o < 256) octets

less : (x y : ℕ) → x < y → nat_cmp x y ≡ Less
less x y lt = grind (arith, nat_tests)

greater : (x y : ℕ) → y < x → nat_cmp x y ≡ Greater
greater x y lt = grind (arith, nat_tests)

same : (x : ℕ) → nat_cmp x x ≡ Equal
same x = grind (arith, nat_tests)

below : (x y : ℕ) → x < y → nat_lt x y ≡ true
below x y lt = grind (arith, nat_tests)

not_below : (x y : ℕ) → y ≤ x → nat_lt x y ≡ false
not_below x y le = grind (arith, nat_tests)

apart : (x y : ℕ) → y < x → nat_eq x y ≡ false
apart x y lt = grind (arith, nat_tests)

differ : (x y : ℕ) → x < y → nat_eq x y ≡ false
differ x y lt = grind (arith, nat_tests)

itself : (x : ℕ) → nat_eq x x ≡ true
itself x = grind (arith, nat_tests)

abbrev is_above : List ℕ → List ℕ → Bool
is_above other octets = is_gt (slice_cmp nat_cmp other octets)

-- octets, so many, are above those that end a list of octets where the index says so
abbrev IsUpTo : ℕ → List ℕ → List ℕ → Type 0
IsUpTo count index octets = (other : List ℕ) → length other ≡ count → AreOctets other → name_lt index other ≡ is_above other octets

-- the same of lists that are equal to these
pub as_stated : (whole n : ℕ) (index stated octets written : List ℕ) → whole ≡ n → stated ≡ index → written ≡ octets → IsUpTo n index octets → IsUpTo whole stated written
as_stated whole n index stated octets written len e f h other same is =
    ap (λ l. name_lt l other) e ∙ h other (same ∙ len) is ∙ ap (is_above other) (sym f)

-- no octets are above the greatest
not_above : (n : ℕ) (other : List ℕ) → length other ≡ n → AreOctets other → is_above other (replicate n 255) ≡ false
not_above zero [] len is = refl
not_above zero (y ∷ ys) len is = absurd (omega (arith, len))
not_above (suc n) [] len is = refl
not_above (suc n) (y ∷ ys) len is = elim (eqb_tells y 255) [
  | inl e ↦
      let equal : nat_cmp y 255 ≡ Equal = grind (arith, nat_tests, e.1) in
      rw equal (not_above n ys (omega (arith, len)) is.1)
  | inr e ↦
      let lt : nat_cmp y 255 ≡ Less = less y 255 (omega (arith, e.1, is.0)) in
      rw lt refl
]

-- a number that is no octet
pub up_to_greatest : (n x : ℕ) (index : List ℕ) → 255 < x → IsUpTo (suc n) (x ∷ index) (255 ∷ replicate n 255)
up_to_greatest n x index more [] len is = absurd (omega (arith, len))
up_to_greatest n x index more (y ∷ ys) len is =
    let no : nat_lt x y ≡ false = not_below x y (omega (arith, more, is.0)) in
    let other : nat_eq x y ≡ false = apart x y (omega (arith, more, is.0)) in
    rw no (rw other (sym (not_above (suc n) (y ∷ ys) len is)))

-- an octet, behind which there are such octets
pub up_to_more : (n x : ℕ) (index octets : List ℕ) → IsUpTo n index octets → IsUpTo (suc n) (x ∷ index) (x ∷ octets)
up_to_more n x index octets rest [] len is = absurd (omega (arith, len))
up_to_more n x index octets rest (y ∷ ys) len is = by_test (nat_lt x y) refl
  where
    by_test : (b : Bool) → nat_lt x y ≡ b → name_lt (x ∷ index) (y ∷ ys) ≡ is_above (y ∷ ys) (x ∷ octets)
    by_test true e =
        let above : nat_cmp y x ≡ Greater = greater y x (ltb-true x y e) in
        rw e (rw above refl)
    by_test false e = elim (eqb_tells x y) [
      | inl here ↦
          let equal : nat_cmp y x ≡ Equal = grind (arith, nat_tests, here.1) in
          rw e (rw here.0 (rw equal (rest ys (omega (arith, len)) is.1)))
      | inr there ↦
          let under : nat_cmp y x ≡ Less = less y x (omega (arith, ltb-false x y e, there.1)) in
          rw e (rw there.0 (rw under refl))
    ]

-- all octets are behind the index
abbrev AllBehind : ℕ → List ℕ → Type 0
AllBehind count index = (other : List ℕ) → length other ≡ count → AreOctets other → name_lt index other ≡ true

-- what follows the first octet
pub rest_up_to : (b : Bool) (n : ℕ) (index octets : List ℕ) → b ≡ true → ((other : List ℕ) → length other ≡ n → AreOctets other → name_lt index other ≡ cond b (is_above other octets) true) → IsUpTo n index octets
rest_up_to b n index octets e h other len is = h other len is ∙ ap (λ (c : Bool). cond c (is_above other octets) true) e

pub rest_behind : (b : Bool) (n : ℕ) (index octets : List ℕ) → b ≡ false → ((other : List ℕ) → length other ≡ n → AreOctets other → name_lt index other ≡ cond b (is_above other octets) true) → AllBehind n index
rest_behind b n index octets e h other len is = h other len is ∙ ap (λ (c : Bool). cond c (is_above other octets) true) e

pub behind_as_stated : (whole n : ℕ) (index stated : List ℕ) → whole ≡ n → stated ≡ index → AllBehind n index → AllBehind whole stated
behind_as_stated whole n index stated len e h other same is = ap (λ l. name_lt l other) e ∙ h other (same ∙ len) is

pub empty_is : (xs : List ℕ) → length xs ≡ 0 → xs ≡ []
empty_is [] e = refl
empty_is (x ∷ xs) e = absurd (omega (arith, e))

pub none_behind_none : (n : ℕ) → AllBehind (suc n) []
none_behind_none n [] len is = absurd (omega (arith, len))
none_behind_none n (y ∷ ys) len is = refl

pub all_behind_more : (n : ℕ) (index : List ℕ) → AllBehind n index → AllBehind (suc n) (0 ∷ index)
all_behind_more n index rest [] len is = absurd (omega (arith, len))
all_behind_more n index rest (y ∷ ys) len is = elim (eqb_tells 0 y) [
  | inl here ↦
      let no : nat_lt 0 y ≡ false = not_below 0 y (omega (arith, here.1)) in
      rw no (rw here.0 (rest ys (omega (arith, len)) is.1))
  | inr there ↦
      let yes : nat_lt 0 y ≡ true = below 0 y (omega (arith, there.1)) in
      rw yes refl
]

-- an octet, behind which there are none: the greatest behind the octet before
pub up_to_before : (n x : ℕ) (index : List ℕ) → x ≢ 0 → AllBehind n index → IsUpTo (suc n) (x ∷ index) ((x - 1) ∷ replicate n 255)
up_to_before n x index some rest [] len is = absurd (omega (arith, len))
up_to_before n x index some rest (y ∷ ys) len is = by_test (nat_lt x y) refl
  where
    by_test : (b : Bool) → nat_lt x y ≡ b → name_lt (x ∷ index) (y ∷ ys) ≡ is_above (y ∷ ys) ((x - 1) ∷ replicate n 255)
    by_test true e =
        let above : nat_cmp y (x - 1) ≡ Greater = greater y (x - 1) (omega (arith, ltb-true x y e)) in
        rw e (rw above refl)
    by_test false e = elim (eqb_tells x y) [
      | inl here ↦
          let above : nat_cmp y (x - 1) ≡ Greater = greater y (x - 1) (omega (arith, here.1, some)) in
          rw e (rw here.0 (rw above (rest ys (omega (arith, len)) is.1)))
      | inr there ↦
          let whole : name_lt (x ∷ index) (y ∷ ys) ≡ false = rw e (rw there.0 refl) in
          whole ∙ sym (under (eqb_tells y (x - 1)) (omega (arith, ltb-false x y e, there.1)))
    ]
      where
        under : (nat_eq y (x - 1) ≡ true × (y ≡ x - 1)) ⊎ (nat_eq y (x - 1) ≡ false × (y ≢ x - 1)) → y < x → is_above (y ∷ ys) ((x - 1) ∷ replicate n 255) ≡ false
        under (inl here) lt =
            let equal : nat_cmp y (x - 1) ≡ Equal = grind (arith, nat_tests, here.1) in
            rw equal (not_above n ys (omega (arith, len)) is.1)
        under (inr there) lt =
            let less_so : nat_cmp y (x - 1) ≡ Less = less y (x - 1) (omega (arith, there.1, lt)) in
            rw less_so refl

-- ---- an index that is so many octets, or is not

-- no so many octets are the index
abbrev NoneIs : ℕ → List ℕ → Type 0
NoneIs count index = (other : List ℕ) → length other ≡ count → AreOctets other → name_eq other index ≡ false

pub none_is_empty : (whole n : ℕ) (stated : List ℕ) → whole ≡ suc n → length stated ≡ 0 → NoneIs whole stated
none_is_empty whole n [] e f [] len is = absurd (omega (arith, e, len))
none_is_empty whole n [] e f (y ∷ ys) len is = refl
none_is_empty whole n (x ∷ xs) e f other len is = absurd (omega (arith, f))

no_octet : (n x : ℕ) (index other : List ℕ) → 255 < x → AreOctets other → name_eq other (x ∷ index) ≡ false
no_octet n x index [] more is = refl
no_octet n x index (y ∷ ys) more is =
    let no : nat_eq y x ≡ false = differ y x (omega (arith, more, is.0)) in
    rw no refl

pub none_is_greater : (whole n x : ℕ) (index stated : List ℕ) → stated ≡ x ∷ index → 255 < x → NoneIs whole stated
none_is_greater whole n x index stated e more other len is = ap (name_eq other) e ∙ no_octet n x index other more is

pub none_is_more : (whole n x : ℕ) (index stated : List ℕ) → whole ≡ suc n → stated ≡ x ∷ index → NoneIs n index → NoneIs whole stated
none_is_more whole n x index stated e f rest [] len is = absurd (omega (arith, e, len))
none_is_more whole n x index stated e f rest (y ∷ ys) len is = ap (name_eq (y ∷ ys)) f ∙ pick (nat_eq y x)
  where
    pick : (b : Bool) → cond b (name_eq ys index) false ≡ false
    pick true = rest ys (omega (arith, e, len)) is.1
    pick false = refl
