-- Acts of a failing wire, one list behind another.
use Rattle.std.proofs.Common.{◌≡◌, ℕ, zero, suc, ◌+◌, ◌-◌, ◌<◌, ◌≤◌, inl, inr, List, [], ◌∷◌, ◌++◌, length, take, drop, slice_get, Some, refl, sym, ap, subst, ◌∙◌, arith, append-nil, append_assoc, length-append}
use Rattle.std.proofs.lemmas.List.{take_all, drop_all, take-append-le, drop-append-le}
use Rattle.std.proofs.lemmas.Bool.{cases_lt}
use Rattle.std.proofs.Math.Seq.{take-append-add, drop-append-add}
use Rattle.wire_core.specs.Acts.{Act, failed}
use Rattle.wire_core.specs.Failing.{FailingLine, handed_on, FailsAt, GoesFailing}

at_front : (xs ys : List Act) (i : ℕ) (x : Act) → slice_get xs i ≡ Some x → slice_get (xs ++ ys) i ≡ Some x
at_front [] ys i x h = cc
at_front (a ∷ xs) ys zero x h = h
at_front (a ∷ xs) ys (suc i) x h = at_front xs ys i x h

at_rest : (xs ys : List Act) (i j : ℕ) → j ≡ length xs + i → slice_get (xs ++ ys) j ≡ slice_get ys i
at_rest [] ys i j h = ap (slice_get ys) (h ∙ omega arith)
at_rest (a ∷ xs) ys i zero h = absurd (omega arith)
at_rest (a ∷ xs) ys i (suc j) h = at_rest xs ys i j (omega arith)

-- The act that is kept back stands in the first list,
handed_on-front : (n : ℕ) (xs ys : List Act) → n ≤ length xs → handed_on n (xs ++ ys) ≡ handed_on n xs ++ handed_on (n - length xs) ys
handed_on-front n xs ys within =
    let none : n - length xs ≡ 0 = omega arith in
    let fewer : n - 1 ≤ length xs = omega arith in
    rw (none, take-append-le (n - 1) xs ys fewer, drop-append-le n xs ys within) (sym (append_assoc (take (n - 1) xs) (drop n xs) ys))

-- or behind it.
handed_on-behind : (n m : ℕ) (xs ys : List Act) → n ≡ length xs + m → 0 < m → handed_on n (xs ++ ys) ≡ handed_on n xs ++ handed_on m ys
handed_on-behind n m xs ys at some =
    let before : n - 1 ≡ length xs + (m - 1) = omega arith in
    ap (λ k. take k (xs ++ ys) ++ drop n (xs ++ ys)) before
    ∙ ap (λ k. take (length xs + (m - 1)) (xs ++ ys) ++ drop k (xs ++ ys)) at
    ∙ rw (take-append-add xs ys (m - 1), drop-append-add xs ys m) refl
    ∙ append_assoc xs (take (m - 1) ys) (drop m ys)
    ∙ ap (λ zs. zs ++ handed_on m ys) (sym (rw (take_all (n - 1) xs (omega arith), drop_all n xs (omega arith)) (append-nil xs)))

handed_on-append : (n : ℕ) (xs ys : List Act) → handed_on n (xs ++ ys) ≡ handed_on n xs ++ handed_on (n - length xs) ys
handed_on-append n xs ys = elim (cases_lt (length xs) n) [
  | inl behind ↦ handed_on-behind n (n - length xs) xs ys (omega arith) (omega arith)
  | inr front ↦ handed_on-front n xs ys front
]

FailsAt-append : (n : ℕ) (xs ys : List Act) → FailsAt n xs → FailsAt (n - length xs) ys → FailsAt n (xs ++ ys)
FailsAt-append n xs ys first second some within = elim (cases_lt (length xs) n) [
  | inl behind ↦
      let there = second (omega arith) (omega (arith, length-append xs ys)) in
      (there.0, at_rest xs ys (n - length xs - 1) (n - 1) (omega arith) ∙ there.1)
  | inr front ↦
      let there = first some front in
      (there.0, at_front xs ys (n - 1) (failed there.0) there.1)
]

pub starts : {W : Type 0} (went : W → List Act → W → Type 0) → ((w : W) → went w [] w) → (a : FailingLine W) → GoesFailing went a [] a
starts went same a = record {
  fails = λ some within. absurd (omega arith);
  hands_on = subst (λ acts. went a.wire acts a.wire) (sym (handed_on-none a.fails_at)) (same a.wire);
  counts = omega arith;
} where
  handed_on-none : (n : ℕ) → handed_on n [] ≡ []
  handed_on-none n =
      let front : take {A = Act} (n - 1) [] ≡ [] = take_all (n - 1) [] (omega arith) in
      let rest : drop {A = Act} n [] ≡ [] = drop_all n [] (omega arith) in
      rw (front, rest) refl

pub goes_on : {W : Type 0} (went : W → List Act → W → Type 0) → ((a b c : W) (xs ys : List Act) → went a xs b → went b ys c → went a (xs ++ ys) c) → (a b c : FailingLine W) (xs ys : List Act) → GoesFailing went a xs b → GoesFailing went b ys c → GoesFailing went a (xs ++ ys) c
goes_on went on a b c xs ys p q = record {
  fails = FailsAt-append a.fails_at xs ys p.fails (subst (λ n. FailsAt n ys) p.counts q.fails);
  hands_on = subst (λ acts. went a.wire acts c.wire) (sym (handed_on-append a.fails_at xs ys)) (on a.wire b.wire c.wire _ _ p.hands_on (subst (λ n. went b.wire (handed_on n ys) c.wire) p.counts q.hands_on));
  counts = omega (arith, p.counts, q.counts, length-append xs ys);
}
