-- Runs whose marks change, and names that go along them.
use Rattle.std.proofs.Common.{◌≡◌, ◌≢◌, ℕ, ◌<◌, ◌≤◌, ◌==◌, Bool, true, false, not, ◌&&◌, ◌||◌, if◌then◌else◌, nat_le, List, [], ◌∷◌, ◌++◌, length, take, drop, Option, Some, None, MatchOption, Box, option_map, refl, sym, ap, subst, ◌∙◌, arith, inl, inr, eq-eqb}
use Rattle.std.specs.List.{list_all}
use Rattle.std.proofs.lemmas.Bool.{both_ways, and_from, eqb-true, cases_Bool, cases_lt, le-leb, lt-leb}
use Rattle.vacm_core.specs.declared.tree.Step.{Step}
use Rattle.std.specs.declared.alloc.Global.{Global}
use Rattle.vacm_core.specs.declared.radix.Radix.{Radix}
use Rattle.vacm_core.specs.declared.radix.Radix.TheVariants.{Segment as RunOf}
use Rattle.vacm_core.specs.declared.radix.Segment.{Segment}
use Rattle.vacm_core.specs.Trees.{runs, reaches, after_run, counting, same_parts}
use Rattle.vacm_core.proofs.Agrees.{and_true}

-- ---- marks

pub not_false : (b : Bool) → not b ≡ false → b ≡ true
not_false true e = refl
not_false false e = absurd (both_ways true e refl)

or_left : (a b : Bool) → a ≡ true → (a || b) ≡ true
or_left true b e = refl
or_left false b e = absurd cc

still_loose : (loose marked counts : Bool) → (loose ≡ true → marked ≡ true) → (loose || counts) ≡ true → (marked || counts) ≡ true
still_loose true marked counts more e = or_left marked counts (more refl)
still_loose false true counts more e = refl
still_loose false false counts more e = e

pub runs_kept : (loose marked : Bool) → (loose ≡ true → marked ≡ true) → (parts : List ℕ) (old new : List Step → Bool) → ((way : List Step) → old way ≡ true → new way ≡ true)
    → (way : List Step) → runs loose parts old way ≡ true → runs marked parts new way ≡ true
runs_kept loose marked more [] old new kept way e = kept way e
runs_kept loose marked more (p ∷ parts) old new kept [] e = absurd (both_ways false refl e)
runs_kept loose marked more (p ∷ parts) old new kept (s ∷ rest) e =
    let on = and_true ((loose || s.counts) && s.part == p) _ e in
    let here = and_true (loose || s.counts) (s.part == p) on.0 in
    and_from _ _ (and_from _ _ (still_loose loose marked s.counts more here.0) here.1) (runs_kept loose marked more parts old new kept rest on.1)

pub runs_cleared : (loose : Bool) (parts : List ℕ) (old new : List Step → Bool) → ((way : List Step) → old way ≡ true → new (counting way) ≡ true)
    → (way : List Step) → runs loose parts old way ≡ true → runs false parts new (counting way) ≡ true
runs_cleared loose [] old new kept way e = kept way e
runs_cleared loose (p ∷ parts) old new kept [] e = absurd (both_ways false refl e)
runs_cleared loose (p ∷ parts) old new kept (s ∷ rest) e =
    let on = and_true ((loose || s.counts) && s.part == p) _ e in
    let here = and_true (loose || s.counts) (s.part == p) on.0 in
    and_from _ _ here.1 (runs_cleared loose parts old new kept rest on.1)

-- ways of the same numbers
pub same_length : (a b : List Step) → same_parts a b ≡ true → length a ≡ length b
same_length [] [] e = refl
same_length [] (y ∷ b) e = absurd (both_ways false refl e)
same_length (x ∷ a) [] e = absurd (both_ways false refl e)
same_length (x ∷ a) (y ∷ b) e = let rest = same_length a b (and_true (x.part == y.part) (same_parts a b) e).1 in omega arith

pub same_end : (a b : List Step) → same_parts a b ≡ true → length b < 1 → a ≡ b
same_end [] [] e lt = refl
same_end [] (y ∷ b) e lt = absurd (omega arith)
same_end (x ∷ a) [] e lt = absurd (both_ways false refl e)
same_end (x ∷ a) (y ∷ b) e lt = absurd (omega arith)

runs_long : (loose : Bool) (parts : List ℕ) (deeper : List Step → Bool) (way : List Step) → runs loose parts deeper way ≡ true → length parts ≤ length way
runs_long loose [] deeper way e = omega arith
runs_long loose (p ∷ parts) deeper [] e = absurd (both_ways false refl e)
runs_long loose (p ∷ parts) deeper (s ∷ rest) e =
    let more = runs_long loose parts deeper rest (and_true ((loose || s.counts) && s.part == p) _ e).1 in
    omega arith

-- no way of the same numbers goes along a run that is longer
pub never_along : (loose : Bool) (parts : List ℕ) (deeper : List Step → Bool) (other way : List Step) → same_parts other way ≡ true → length way < length parts → runs loose parts deeper other ≡ true → {A : Type 0} → A
never_along loose parts deeper other way same short e = absurd (omega (arith, same_length other way same, runs_long loose parts deeper other e))

pub runs_marked : (loose marked : Bool) (parts : List ℕ) (old new : List Step → Bool) (other way : List Step)
    → (marked ≡ false → list_all (λ s. s.counts) (take (length parts) way) ≡ true)
    → ((rest : List Step) → same_parts rest (drop (length parts) way) ≡ true → old rest ≡ true → new (drop (length parts) way) ≡ true)
    → same_parts other way ≡ true → runs loose parts old other ≡ true → runs marked parts new way ≡ true
runs_marked loose marked [] old new other way tight below same e = below other same e
runs_marked loose marked (p ∷ parts) old new [] way tight below same e = absurd (both_ways false refl e)
runs_marked loose marked (p ∷ parts) old new (o ∷ other) [] tight below same e = absurd (both_ways false refl same)
runs_marked loose marked (p ∷ parts) old new (o ∷ other) (s ∷ way) tight below same e =
    let on = and_true ((loose || o.counts) && o.part == p) _ e in
    let here = and_true (loose || o.counts) (o.part == p) on.0 in
    let alike = and_true (o.part == s.part) (same_parts other way) same in
    let part : s.part ≡ p = sym (eqb-true o.part s.part alike.0) ∙ eqb-true o.part p here.1 in
    let counted : (marked || s.counts) ≡ true = elim (cases_Bool marked) [
      | inl m ↦ or_left marked s.counts m
      | inr m ↦ (λ i. m i || (and_true s.counts (list_all (λ t. t.counts) (take (length parts) way)) (tight m)).0 i)
    ] in
    and_from _ _ (and_from _ _ counted (eq-eqb s.part p part))
    (runs_marked loose marked parts old new other way (λ m. (and_true s.counts (list_all (λ t. t.counts) (take (length parts) way)) (tight m)).1) below alike.1 on.1)

-- what a way reaches at a run
pub at_run : (t : Radix) (b : Box Segment Global) → t ≡ RunOf b → (r : Segment) → r ≡ b.value → (way : List Step) (n : ℕ) → reaches t way n ≡ true → runs r.loose r.parts.items (λ rest. reaches r.below rest n) way ≡ true
at_run t b is r same way n e = subst (λ (x : Segment). runs x.loose x.parts.items (λ rest. reaches x.below rest n) way ≡ true) (sym same) (rw is at e)

-- ---- names

after_long : (parts name : List ℕ) → length parts ≤ length name → after_run true parts name ≡ Some (drop (length parts) name)
after_long [] name le = refl
after_long (p ∷ parts) [] le = absurd (omega arith)
after_long (p ∷ parts) (n ∷ name) le = after_long parts name (omega arith)

after_short : (parts name : List ℕ) → length name < length parts → after_run true parts name ≡ None
after_short [] name lt = absurd (omega arith)
after_short (p ∷ parts) [] lt = refl
after_short (p ∷ parts) (n ∷ name) lt = after_short parts name (omega arith)

pub after_past : (parts name : List ℕ) (long : ℕ) → long ≡ length parts → (if nat_le long (length name) then Some (drop long name) else None) ≡ after_run true parts name
after_past parts name long e =
    elim (cases_lt (length name) long) [
      | inr le ↦ (λ i. if le-leb long (length name) le i then Some (drop long name) else None) ∙ ap (λ (k : ℕ). Some (drop k name)) e ∙ sym (after_long parts name (omega arith))
      | inl lt ↦ (λ i. if lt-leb long (length name) lt i then Some (drop long name) else None) ∙ sym (after_short parts name (omega arith))
    ]

after_begun : (parts rest : List ℕ) → after_run false parts (parts ++ rest) ≡ Some rest
after_begun [] rest = refl
after_begun (p ∷ parts) rest = (λ i. if eq-eqb p p refl i then after_run false parts (parts ++ rest) else None) ∙ after_begun parts rest

after_never : (parts name : List ℕ) → ((rest : List ℕ) → name ≢ parts ++ rest) → after_run false parts name ≡ None
after_never [] name never = absurd (never name refl)
after_never (p ∷ parts) [] never = refl
after_never (p ∷ parts) (n ∷ name) never =
    elim (cases_Bool (p == n)) [
      | inl e ↦ (λ i. if e i then after_run false parts name else None) ∙ after_never parts name (λ rest same. never rest (λ i. sym (eqb-true p n e) i ∷ same i))
      | inr e ↦ λ i. if e i then after_run false parts name else None
    ]

pub after_behind : {R : Type 0} (found : Option R) (numbers : R → List ℕ) (parts name : List ℕ) → MatchOption found ((rest : List ℕ) → name ≢ parts ++ rest) (λ rest. name ≡ parts ++ numbers rest)
    → option_map numbers found ≡ after_run false parts name
after_behind None numbers parts name h = sym (after_never parts name h)
after_behind (Some rest) numbers parts name h = sym (ap (after_run false parts) h ∙ after_begun parts (numbers rest))
