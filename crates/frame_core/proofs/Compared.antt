-- Six octets compared as two numbers are compared octet by octet.
use Rattle.std.proofs.Common.{◌≡◌, ℕ, ◌+◌, ◌*◌, ◌<◌, Bool, true, false, List, [], ◌∷◌, length, get_or, nat_lt, refl, sym, ap, ap₂, ◌∙◌, arith}
use Rattle.std.specs.Prelude.{◌==◌}
use Rattle.std.specs.Cmp.Lexicographic.{slice_cmp}
use Rattle.std.specs.Ordering.{nat_cmp, ordering_then}
use Rattle.std.specs.declared.cmp.Ordering.{Ordering}
use Rattle.std.specs.declared.cmp.Ordering.TheVariants.{Less, Equal, Greater}
use Rattle.std.proofs.lemmas.Bool.Decides.{Decides-ltb, Decides-eqb}

-- two numbers are in one of three orders
module _ (x y : ℕ) where
  not_less : (nat_lt x y ≡ false) → x < y → ⊥
  not_less e b = let t : nat_lt x y ≡ true = (Decides-ltb x y).1 b in absurd cc

  not_same : ((x == y) ≡ false) → x ≡ y → ⊥
  not_same e b = let t : (x == y) ≡ true = (Decides-eqb x y).1 b in absurd cc

  ordered_by : (P : Type 0) → (x < y → P) → (x ≡ y → P) → (y < x → P) → (b c : Bool) → nat_lt x y ≡ b → (x == y) ≡ c → P
  ordered_by P less same more true c e f = less ((Decides-ltb x y).0 e)
  ordered_by P less same more false true e f = same ((Decides-eqb x y).0 f)
  ordered_by P less same more false false e f = more (let no = not_less e in let ne = not_same f in omega arith)

  ordered : (P : Type 0) → (x < y → P) → (x ≡ y → P) → (y < x → P) → P
  ordered P less same more = ordered_by P less same more (nat_lt x y) (x == y) refl refl

  test_off : (b : Bool) → (b ≡ true → ⊥) → b ≡ false
  test_off true h = absurd (h refl)
  test_off false h = refl

  less_is : x < y → nat_cmp x y ≡ Less
  less_is h = let t : nat_lt x y ≡ true = (Decides-ltb x y).1 h in rw t refl

  same_is : x ≡ y → nat_cmp x y ≡ Equal
  same_is h =
      let f : nat_lt x y ≡ false = test_off (nat_lt x y) (λ t. let less : x < y = (Decides-ltb x y).0 t in absurd (omega arith)) in
      let t : (x == y) ≡ true = (Decides-eqb x y).1 h in
      rw (f, t) refl

  more_is : y < x → nat_cmp x y ≡ Greater
  more_is h =
      let f : nat_lt x y ≡ false = test_off (nat_lt x y) (λ t. let less : x < y = (Decides-ltb x y).0 t in absurd (omega arith)) in
      let g : (x == y) ≡ false = test_off (x == y) (λ t. let same : x ≡ y = (Decides-eqb x y).0 t in absurd (omega arith)) in
      rw (f, g) refl

-- one more octet behind two numbers decides where they do not
wider : (x y u v : ℕ) → u < 256 → v < 256 → nat_cmp (x * 256 + u) (y * 256 + v) ≡ ordering_then (nat_cmp x y) (nat_cmp u v)
wider x y u v hu hv =
    ordered x y (nat_cmp (x * 256 + u) (y * 256 + v) ≡ ordering_then (nat_cmp x y) (nat_cmp u v))
    (λ l. less_is (x * 256 + u) (y * 256 + v) (omega arith) ∙ sym (ap (λ (o : Ordering). ordering_then o (nat_cmp u v)) (less_is x y l)))
    (λ e. level e ∙ sym (ap (λ (o : Ordering). ordering_then o (nat_cmp u v)) (same_is x y e)))
    (λ g. more_is (x * 256 + u) (y * 256 + v) (omega arith) ∙ sym (ap (λ (o : Ordering). ordering_then o (nat_cmp u v)) (more_is x y g)))
  where
    level : x ≡ y → nat_cmp (x * 256 + u) (y * 256 + v) ≡ nat_cmp u v
    level e =
        ordered u v (nat_cmp (x * 256 + u) (y * 256 + v) ≡ nat_cmp u v)
        (λ l. less_is (x * 256 + u) (y * 256 + v) (omega arith) ∙ sym (less_is u v l))
        (λ s. same_is (x * 256 + u) (y * 256 + v) (omega arith) ∙ sym (same_is u v s))
        (λ g. more_is (x * 256 + u) (y * 256 + v) (omega arith) ∙ sym (more_is u v g))

grouped : (o s t : Ordering) → ordering_then (ordering_then o s) t ≡ ordering_then o (ordering_then s t)
grouped Less s t = refl
grouped Equal s t = refl
grouped Greater s t = refl

last_alone : (o : Ordering) → o ≡ ordering_then o Equal
last_alone Less = refl
last_alone Equal = refl
last_alone Greater = refl

in_a_row : (o p q r s t : Ordering) → ordering_then (ordering_then (ordering_then (ordering_then o p) q) r) (ordering_then s t) ≡ ordering_then o (ordering_then p (ordering_then q (ordering_then r (ordering_then s (ordering_then t Equal)))))
in_a_row o p q r s t =
    let rest = ordering_then s (ordering_then t Equal) in
    ap (λ (z : Ordering). ordering_then (ordering_then (ordering_then (ordering_then o p) q) r) (ordering_then s z)) (last_alone t)
    ∙ (grouped (ordering_then (ordering_then o p) q) r rest ∙ (grouped (ordering_then o p) q (ordering_then r rest) ∙ grouped o p (ordering_then q (ordering_then r rest))))

-- a list of six is its elements
six_of : (xs : List ℕ) → length xs ≡ 6 → xs ≡ get_or xs 0 0 ∷ get_or xs 1 0 ∷ get_or xs 2 0 ∷ get_or xs 3 0 ∷ get_or xs 4 0 ∷ get_or xs 5 0 ∷ []
six_of (a ∷ b ∷ c ∷ d ∷ e ∷ f ∷ []) six = refl
six_of xs six = absurd (omega arith)

-- four octets as one number, and two as another
abbrev pub first_four : List ℕ → ℕ
first_four xs = get_or xs 0 0 * 16777216 + get_or xs 1 0 * 65536 + get_or xs 2 0 * 256 + get_or xs 3 0

abbrev pub last_two : List ℕ → ℕ
last_two xs = get_or xs 4 0 * 256 + get_or xs 5 0

pub by_numbers : (xs ys : List ℕ) → length xs ≡ 6 → length ys ≡ 6 → ((k : ℕ) → get_or xs k 0 < 256) → ((k : ℕ) → get_or ys k 0 < 256)
    → ordering_then (nat_cmp (first_four xs) (first_four ys)) (nat_cmp (last_two xs) (last_two ys)) ≡ slice_cmp nat_cmp xs ys
by_numbers xs ys six more low below =
    let x0 = get_or xs 0 0 in
    let x1 = get_or xs 1 0 in
    let x2 = get_or xs 2 0 in
    let x3 = get_or xs 3 0 in
    let y0 = get_or ys 0 0 in
    let y1 = get_or ys 1 0 in
    let y2 = get_or ys 2 0 in
    let y3 = get_or ys 3 0 in
    let left : first_four xs ≡ ((x0 * 256 + x1) * 256 + x2) * 256 + x3 = omega arith in
    let right : first_four ys ≡ ((y0 * 256 + y1) * 256 + y2) * 256 + y3 = omega arith in
    let two = wider x0 y0 x1 y1 (low 1) (below 1) in
    let three = wider (x0 * 256 + x1) (y0 * 256 + y1) x2 y2 (low 2) (below 2) ∙ ap (λ (o : Ordering). ordering_then o (nat_cmp x2 y2)) two in
    let four = wider ((x0 * 256 + x1) * 256 + x2) ((y0 * 256 + y1) * 256 + y2) x3 y3 (low 3) (below 3) ∙ ap (λ (o : Ordering). ordering_then o (nat_cmp x3 y3)) three in
    let front = ap₂ nat_cmp left right ∙ four in
    let back = wider (get_or xs 4 0) (get_or ys 4 0) (get_or xs 5 0) (get_or ys 5 0) (low 5) (below 5) in
    ap₂ ordering_then front back
    ∙ (in_a_row (nat_cmp x0 y0) (nat_cmp x1 y1) (nat_cmp x2 y2) (nat_cmp x3 y3) (nat_cmp (get_or xs 4 0) (get_or ys 4 0)) (nat_cmp (get_or xs 5 0) (get_or ys 5 0))
    ∙ sym (ap₂ (slice_cmp nat_cmp) (six_of xs six) (six_of ys more)))
