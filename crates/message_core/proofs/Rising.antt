-- Lists of instances whose names rise.
use Rattle.std.proofs.Common.{◌≡◌, ℕ, suc, ◌<◌, ◌∙◌, sym, ap, refl, Bool, true, false, cond, List, [], ◌∷◌, length, arith, All, filter, find, Option, Some, None}
use Rattle.std.specs.Prelude.{Contains, MatchOption}
use Rattle.std.proofs.lemmas.List.Elements.{All-head, All-tail, All-cons, All-filter, All-weaker}
use Rattle.oid_core.specs.Order.{name_lt}
use Rattle.oid_core.proofs.OrderLaws.{name_lt-irrefl, name_lt-trans, name_lt-asym}
use Rattle.message_core.specs.Instances.{IsRising, IsLeastAfter, after, next_of}
use Rattle.message_core.specs.declared.binding.Binding.{Binding}

pub rising_head : (x : Binding) (xs : List Binding) → IsRising (x ∷ xs) → All (λ y. name_lt x.name y.name ≡ true) xs
rising_head x xs h = λ k d within. h 0 (suc k) d (omega arith) (omega (arith, within))

pub rising_tail : (x : Binding) (xs : List Binding) → IsRising (x ∷ xs) → IsRising xs
rising_tail x xs h = λ i j d below within. h (suc i) (suc j) d (omega (arith, below)) (omega (arith, within))

-- what all pass is kept whole
pub all_kept : (p : Binding → Bool) (xs : List Binding) → All (λ y. p y ≡ true) xs → filter p xs ≡ xs
all_kept p [] h = refl
all_kept p (x ∷ xs) h = rw (All-head (λ y. p y ≡ true) x xs h) (ap (λ zs. x ∷ zs) (all_kept p xs (All-tail (λ y. p y ≡ true) x xs h)))

after_step : (b : Bool) (name : List ℕ) (x row : Binding) (xs others : List Binding) → name_lt name x.name ≡ b → IsRising (x ∷ xs) →
    ((ys : List Binding) → after name xs ≡ row ∷ ys → after row.name xs ≡ ys) →
    cond b (x ∷ after name xs) (after name xs) ≡ row ∷ others → after row.name (x ∷ xs) ≡ others
after_step true name x row xs others e h more is =
    let x_is : x ≡ row = cc in
    let rest_is : after name xs ≡ others = cc in
    let above : All (λ (y : Binding). name_lt x.name y.name ≡ true) xs = rising_head x xs h in
    let all_after : after name xs ≡ xs = all_kept (λ y. name_lt name y.name) xs (All-weaker (λ (y : Binding). name_lt x.name y.name ≡ true) (λ (y : Binding). name_lt name y.name ≡ true) (λ y k. name_lt-trans name x.name y.name e k) xs above) in
    let same : after x.name (x ∷ xs) ≡ xs = rw (name_lt-irrefl x.name) (all_kept (λ y. name_lt x.name y.name) xs above) in
    ap (λ (z : Binding). after z.name (x ∷ xs)) (sym x_is) ∙ same ∙ sym all_after ∙ rest_is
after_step false name x row xs others e h more is =
    let above : All (λ (y : Binding). name_lt x.name y.name ≡ true) (after name xs) = All-filter (λ (y : Binding). name_lt name y.name) (λ (y : Binding). name_lt x.name y.name ≡ true) xs (rising_head x xs h) in
    let here : All (λ (y : Binding). name_lt x.name y.name ≡ true) (row ∷ others) = rw is at above in
    let low : name_lt row.name x.name ≡ false = name_lt-asym x.name row.name (name_lt row.name x.name) (All-head (λ (y : Binding). name_lt x.name y.name ≡ true) row others here) refl in
    rw low (more others is)

-- after the first instance after a name stand the others after the name
pub after-first : (rows : List Binding) (name : List ℕ) (row : Binding) (others : List Binding) → IsRising rows → after name rows ≡ row ∷ others → after row.name rows ≡ others
after-first [] name row others h e = absurd (cc)
after-first (x ∷ xs) name row others h e =
    after_step (name_lt name x.name) name x row xs others refl h (λ ys k. after-first xs name row ys (rising_tail x xs h) k) e

-- the first of those that pass
pub find_is : (p : Binding → Bool) (xs ys : List Binding) → filter p xs ≡ ys → find p xs ≡ find (λ _. true) ys
find_is p [] ys e = ap (find (λ _. true)) e
find_is p (x ∷ xs) ys e = pass (p x) e (λ f. find_is p xs ys f)
  where
    pass : (b : Bool) → cond b (x ∷ filter p xs) (filter p xs) ≡ ys → (filter p xs ≡ ys → find p xs ≡ find (λ _. true) ys) → cond b (Some x) (find p xs) ≡ find (λ _. true) ys
    pass true f more = ap (find (λ _. true)) f
    pass false f more = more f

first_contained : (x : Binding) (xs : List Binding) → Contains (x ∷ xs) x
first_contained x xs = (0, omega arith, refl)

later_contained : (x : Binding) (xs : List Binding) (row : Binding) → Contains xs row → Contains (x ∷ xs) row
later_contained x xs row c = (suc c.0, (let h : c.0 < length xs = c.1 in omega (arith, h)), c.2)

first_least_at : (b : Bool) (x : Binding) (xs : List Binding) (name : List ℕ) → name_lt name x.name ≡ b → IsRising (x ∷ xs) →
    MatchOption (next_of xs name) (after name xs ≡ []) (λ row. IsLeastAfter xs name row) →
    MatchOption (cond b (Some x) (next_of xs name)) (cond b (x ∷ after name xs) (after name xs) ≡ []) (λ row. IsLeastAfter (x ∷ xs) name row)
first_least_at true x xs name e h more = record {
  contained = first_contained x xs;
  greater = e;
  least = All-cons (λ (other : Binding). name_lt name other.name ≡ true → name_lt other.name x.name ≡ false) x xs
      (λ _. name_lt-irrefl x.name)
      (All-weaker (λ (y : Binding). name_lt x.name y.name ≡ true) (λ (other : Binding). name_lt name other.name ≡ true → name_lt other.name x.name ≡ false)
      (λ y k _. name_lt-asym x.name y.name (name_lt y.name x.name) k refl) xs (rising_head x xs h));
}
first_least_at false x xs name e h more = lift (next_of xs name) more
  where
    lift : (o : Option Binding) → MatchOption o (after name xs ≡ []) (λ row. IsLeastAfter xs name row) → MatchOption o (after name xs ≡ []) (λ row. IsLeastAfter (x ∷ xs) name row)
    lift None k = k
    lift (Some row) k = record {
      contained = later_contained x xs row k.contained;
      greater = k.greater;
      least = All-cons (λ (other : Binding). name_lt name other.name ≡ true → name_lt other.name row.name ≡ false) x xs (λ f. absurd (cc)) k.least;
    }

-- the first after a name is the least
pub first_least : (rows : List Binding) (name : List ℕ) → IsRising rows → MatchOption (next_of rows name) (after name rows ≡ []) (λ row. IsLeastAfter rows name row)
first_least [] name h = refl
first_least (x ∷ xs) name h = first_least_at (name_lt name x.name) x xs name refl h (first_least xs name (rising_tail x xs h))
