-- Answers of a pace, one list behind another.
use Rattle.std.proofs.Common.{ℕ, Bool, true, false, List, [], ◌∷◌, ◌++◌, refl, sym, subst}
use Rattle.wire_core.specs.Acts.{one_more}
use Rattle.wire_core.specs.Pacing.{CountsDown, GoesOnForEver, TicksOn, GoesOnUntilEnded}

pub counting_starts : (a : ℕ) → CountsDown a [] a
counting_starts a = refl

pub counting_goes_on : (a b c : ℕ) (xs ys : List Bool) → CountsDown a xs b → CountsDown b ys c → CountsDown a (xs ++ ys) c
counting_goes_on a b c [] ys p q = let P : ℕ → Type 0 = λ left. CountsDown left ys c in rw (sym p) q
counting_goes_on a b c (true ∷ xs) ys p q = (p.0, p.1, counting_goes_on p.0 b c xs ys p.2 q)
counting_goes_on a b c (false ∷ xs) ys p q = (p.0, counting_goes_on 0 b c xs ys p.1 q)

pub endless_goes_on : (xs ys : List Bool) → GoesOnForEver xs → GoesOnForEver ys → GoesOnForEver (xs ++ ys)
endless_goes_on [] ys p q = q
endless_goes_on (true ∷ xs) ys p q = endless_goes_on xs ys p q
endless_goes_on (false ∷ xs) ys p q = absurd p

pub ticking_starts : (second ticks : ℕ) → TicksOn second ticks [] second ticks
ticking_starts second ticks = (refl, refl)

pub ticking_goes_on : (s m t n u o : ℕ) (xs ys : List Bool) → TicksOn s m xs t n → TicksOn t n ys u o → TicksOn s m (xs ++ ys) u o
ticking_goes_on s m t n u o [] ys p q =
    let P : ℕ → Type 0 = λ k. TicksOn k m ys u o in
    let Q : ℕ → Type 0 = λ k. TicksOn t k ys u o in
    subst P p.0 (subst Q p.1 q)
ticking_goes_on s m t n u o (true ∷ xs) ys p q = (p.0, p.1, ticking_goes_on p.0 (one_more m) t n u o xs ys p.2 q)
ticking_goes_on s m t n u o (false ∷ xs) ys p q = absurd p

pub ending_starts : (a : Bool) (given : ℕ) → GoesOnUntilEnded a given [] a given
ending_starts a given = (refl, refl)

pub ending_goes_on : (a : Bool) (l : ℕ) (b : Bool) (m : ℕ) (c : Bool) (n : ℕ) (xs ys : List Bool) → GoesOnUntilEnded a l xs b m → GoesOnUntilEnded b m ys c n → GoesOnUntilEnded a l (xs ++ ys) c n
ending_goes_on a l b m c n [] ys p q =
    let P : Bool → Type 0 = λ ended. GoesOnUntilEnded ended l ys c n in
    let Q : ℕ → Type 0 = λ given. GoesOnUntilEnded b given ys c n in
    subst P p.0 (subst Q p.1 q)
ending_goes_on false l b m c n (true ∷ xs) ys p q = ending_goes_on false (one_more l) b m c n xs ys p q
ending_goes_on true l b m c n (true ∷ xs) ys p q = absurd p
ending_goes_on false l b m c n (false ∷ xs) ys p q = (p.0, p.1, ending_goes_on true p.0 b m c n xs ys p.2 q)
ending_goes_on true l b m c n (false ∷ xs) ys p q = ending_goes_on true l b m c n xs ys p q
