-- Where a way leads at a fork of the tree.
use Rattle.std.proofs.Common.{◌≡◌, ◌≢◌, ℕ, ◌≤◌, ◌-◌, ◌==◌, Bool, true, false, not, ◌&&◌, ◌||◌, cond, List, [], ◌∷◌, length, get_or, take, drop, Option, Some, None, Box, refl, sym, ap, subst, ◌∙◌, arith, ◌⊎◌, inl, inr, ltb, eq-eqb}
use Rattle.std.specs.declared.alloc.Global.{Global}
use Rattle.std.proofs.lemmas.Bool.{cases_Bool, both_ways, eqb-true, le-ltb, ltb-false}
use Rattle.std.proofs.lemmas.Option.{same_Some, none-some}
use Rattle.std.proofs.Math.Seq.{take-length}
use Rattle.vacm_core.specs.declared.tree.Step.{Step}
use Rattle.vacm_core.specs.declared.radix.Radix.{Radix}
use Rattle.vacm_core.specs.declared.radix.Radix.TheVariants.{Empty as None_of, Fork, Segment as RunOf}
use Rattle.vacm_core.specs.declared.radix.Branch.{Branch}
use Rattle.vacm_core.specs.declared.radix.Segment.{Segment}
use Rattle.vacm_core.specs.Trees.{is_row, ends_or, runs, after_run, reaches, reaches_fork, fits}
use Rattle.vacm_core.proofs.Agrees.{and_true, part_found}

-- a way that leads on to a row, and that the rest of a name fits
pub record LeadsOn (t : Radix) (name : List ℕ) (n : ℕ) : Type 0 where
  pub rest : List Step
  pub leads : reaches t rest n ≡ true
  pub fits : fits rest name ≡ true

-- the row ends here, or its way leads on
abbrev pub EndsOr : Branch → List ℕ → ℕ → Type 0
EndsOr node name n = (node.row ≡ Some n) ⊎ LeadsOn node.equal name n

-- it may also turn to either side
abbrev pub Turns : Branch → List Step → List ℕ → ℕ → Type 0
Turns node way name n = (reaches node.less way n ≡ true) ⊎ ((reaches node.greater way n ≡ true) ⊎ EndsOr node name n)

row_is : (here : Option ℕ) (n : ℕ) → is_row here n ≡ true → here ≡ Some n
row_is None n e = absurd cc
row_is (Some m) n e = ap (λ (k : ℕ). Some k) (eqb-true m n e)

ends : (node : Branch) (rest : List Step) (name : List ℕ) (n : ℕ) → ends_or node.row (reaches node.equal rest n) rest n ≡ true → fits rest name ≡ true → EndsOr node name n
ends node [] name n e f = inl (row_is node.row n e)
ends node (s ∷ rest) name n e f = inr (record { rest = s ∷ rest; leads = e; fits = f })

loose_or : (loose counts : Bool) → (loose || counts) ≡ true → loose ≡ false → counts ≡ true
loose_or true counts e f = absurd cc
loose_or false counts e f = e

straight : (node : Branch) (s : Step) (rest : List Step) (x : ℕ) (name : List ℕ) (n : ℕ)
    → reaches_fork node (s ∷ rest) n ≡ true
    → ((not s.counts || s.part == x) && fits rest name) ≡ true → node.loose ≡ false → x ≡ node.part → EndsOr node name n
straight node s rest x name n e f tight same =
    let parts = and_true (node.loose || s.counts) _ e in
    let fit = and_true (not s.counts || s.part == x) (fits rest name) f in
    let part : s.part ≡ x = eqb-true s.part x (part_found s.counts (s.part == x) fit.0 (loose_or node.loose s.counts parts.0 tight)) in
    let low : ltb s.part node.part ≡ false = le-ltb s.part node.part (omega arith) in
    let high : ltb node.part s.part ≡ false = le-ltb node.part s.part (omega arith) in
    let on = and_true (node.loose_equal || s.counts) (ends_or node.row (reaches node.equal rest n) rest n) (rw (low, high) at parts.1) in
    ends node rest name n on.1 fit.1

turn : (node : Branch) (s : Step) (rest : List Step) (x : ℕ) (name : List ℕ) (n : ℕ)
    → reaches_fork node (s ∷ rest) n ≡ true
    → ((not s.counts || s.part == x) && fits rest name) ≡ true → Turns node (s ∷ rest) name n
turn node s rest x name n e f =
    let parts = and_true (node.loose || s.counts) _ e in
    let fit = and_true (not s.counts || s.part == x) (fits rest name) f in
    elim (cases_Bool (ltb s.part node.part)) [
      | inl low ↦ inl (rw low at parts.1)
      | inr low ↦ elim (cases_Bool (ltb node.part s.part)) [
        | inl high ↦ inr (inl (rw (low, high) at parts.1))
        | inr high ↦ inr (inr (ends node rest name n (and_true (node.loose_equal || s.counts) (ends_or node.row (reaches node.equal rest n) rest n) (rw (low, high) at parts.1)).1 fit.1))
      ]
    ]

abbrev pub after_first : List ℕ → List ℕ
after_first name = take (length name - 1) (drop 1 name)

after_is : (x : ℕ) (name : List ℕ) → name ≡ after_first (x ∷ name)
after_is x name =
    let e : length (x ∷ name) - 1 ≡ length name = omega arith in
    sym (take-length name) ∙ ap (λ (k : ℕ). take k name) (sym e)

-- what reaches a fork of the tree leads from there
pub at_fork : (t : Radix) (b : Box Branch Global) → t ≡ Fork b → (way : List Step) (n : ℕ) → reaches t way n ≡ true → reaches_fork b.value way n ≡ true
at_fork t b is [] n e = rw is at e
at_fork t b is (s ∷ rest) n e = rw is at e

-- a fork without a mark, of which the name has the number
pub goes_straight : (node : Branch) (way : List Step) (name : List ℕ) (n : ℕ) → reaches_fork node way n ≡ true → fits way name ≡ true
    → 1 ≤ length name → node.loose ≡ false → get_or name 0 0 ≡ node.part → EndsOr node (after_first name) n
goes_straight node way [] n e f some tight same = absurd (omega arith)
goes_straight node [] (x ∷ name) n e f some tight same = absurd (both_ways false refl e)
goes_straight node (s ∷ rest) (x ∷ name) n e f some tight same =
    subst (λ (l : List ℕ). EndsOr node l n) (after_is x name) (straight node s rest x name n e f tight same)

-- any fork
pub turns : (node : Branch) (way : List Step) (name : List ℕ) (n : ℕ) → reaches_fork node way n ≡ true → fits way name ≡ true
    → 1 ≤ length name → Turns node way (after_first name) n
turns node way [] n e f some = absurd (omega arith)
turns node [] (x ∷ name) n e f some = absurd (both_ways false refl e)
turns node (s ∷ rest) (x ∷ name) n e f some =
    subst (λ (l : List ℕ). Turns node (s ∷ rest) l n) (after_is x name) (turn node s rest x name n e f)

same_part : (s part : ℕ) → ltb s part ≡ false → ltb part s ≡ false → s ≡ part
same_part s part low high = omega (arith, ltb-false s part low, ltb-false part s high)

-- the first number of a name that fits a way, where the step counts or each does
counted : (loose counts : Bool) (s x : ℕ) → (loose || counts) ≡ true → (not counts || s == x) ≡ true → loose ≡ false → s ≡ x
counted loose counts s x e f tight = eqb-true s x (part_found counts (s == x) f (loose_or loose counts e tight))

-- a way whose number is not the fork's turns to one side
aside : (node : Branch) (s : Step) (rest : List Step) (x : ℕ) (name : List ℕ) (n : ℕ)
    → reaches_fork node (s ∷ rest) n ≡ true
    → ((not s.counts || s.part == x) && fits rest name) ≡ true → node.loose_equal ≡ false → x ≢ node.part
    → (reaches node.less (s ∷ rest) n ≡ true) ⊎ (reaches node.greater (s ∷ rest) n ≡ true)
aside node s rest x name n e f tight other =
    let parts = and_true (node.loose || s.counts) _ e in
    let fit = and_true (not s.counts || s.part == x) (fits rest name) f in
    elim (cases_Bool (ltb s.part node.part)) [
      | inl low ↦ inl (rw low at parts.1)
      | inr low ↦ elim (cases_Bool (ltb node.part s.part)) [
        | inl high ↦ inr (rw (low, high) at parts.1)
        | inr high ↦
            let here = and_true (node.loose_equal || s.counts) (ends_or node.row (reaches node.equal rest n) rest n) (rw (low, high) at parts.1) in
            absurd (other (sym (counted node.loose_equal s.counts s.part x here.0 fit.0 tight) ∙ same_part s.part node.part low high))
      ]
    ]

-- a fork of whose own number each step counts, and another number of the name
pub goes_aside : (node : Branch) (way : List Step) (name : List ℕ) (n : ℕ) → reaches_fork node way n ≡ true → fits way name ≡ true
    → 1 ≤ length name → node.loose_equal ≡ false → get_or name 0 0 ≢ node.part → (reaches node.less way n ≡ true) ⊎ (reaches node.greater way n ≡ true)
goes_aside node way [] n e f some tight other = absurd (omega arith)
goes_aside node [] (x ∷ name) n e f some tight other = absurd (both_ways false refl e)
goes_aside node (s ∷ rest) (x ∷ name) n e f some tight other = aside node s rest x name n e f tight other

-- no way leads to a row of no rows
pub leads_to_none : (t : Radix) → t ≡ None_of → (way : List Step) (n : ℕ) → reaches t way n ≡ true → {A : Type 0} → A
leads_to_none t is way n e = absurd (both_ways false refl (rw is at e))

-- ---- the number of a fork, and the steps that are left

-- what is neither below nor above the number
pub the_part : (x low high part : ℕ) → low ≡ part → high ≡ part → low ≤ x → x ≤ high → x ≡ part
the_part x low high part e f a b = omega arith

-- ---- runs

-- a name that may go along a run, and a way that goes on behind it
pub record Along (loose : Bool) (parts : List ℕ) (deeper : List Step → Bool) (name : List ℕ) : Type 0 where
  pub after : List ℕ
  pub is : after_run loose parts name ≡ Some after
  pub rest : List Step
  pub leads : deeper rest ≡ true
  pub fits : fits rest after ≡ true

passes : (loose counts : Bool) (s p x : ℕ) → (loose || counts) ≡ true → (s == p) ≡ true → (not counts || s == x) ≡ true → (loose || p == x) ≡ true
passes true counts s p x e same fit = refl
passes false counts s p x e same fit = eq-eqb p x (sym (eqb-true s p same) ∙ eqb-true s x (part_found counts (s == x) fit e))

along : (loose : Bool) (parts : List ℕ) (deeper : List Step → Bool) (way : List Step) (name : List ℕ) → runs loose parts deeper way ≡ true → fits way name ≡ true → Along loose parts deeper name
along loose [] deeper way name e f = record { after = name; is = refl; rest = way; leads = e; fits = f }
along loose (p ∷ parts) deeper [] name e f = absurd (both_ways false refl e)
along loose (p ∷ parts) deeper (s ∷ rest) [] e f = absurd (both_ways false refl f)
along loose (p ∷ parts) deeper (s ∷ rest) (x ∷ name) e f =
    let on = and_true ((loose || s.counts) && s.part == p) _ e in
    let here = and_true (loose || s.counts) (s.part == p) on.0 in
    let fit = and_true (not s.counts || s.part == x) (fits rest name) f in
    let further = along loose parts deeper rest name on.1 fit.1 in
    record {
      after = further.after;
      is = ap (λ (b : Bool). cond b (after_run loose parts name) None) (passes loose s.counts s.part p x here.0 here.1 fit.0) ∙ further.is;
      rest = further.rest;
      leads = further.leads;
      fits = further.fits;
    }

-- what reaches a run goes along it
pub along_run : (t : Radix) (b : Box Segment Global) → t ≡ RunOf b → (way : List Step) (name : List ℕ) (n : ℕ) → reaches t way n ≡ true → fits way name ≡ true
    → Along b.value.loose b.value.parts.items (λ rest. reaches b.value.below rest n) name
along_run t b is way name n e f = along b.value.loose b.value.parts.items (λ rest. reaches b.value.below rest n) way name (rw is at e) f

-- where the name goes on behind the run
pub leads_behind : (loose : Bool) (parts : List ℕ) (below : Radix) (name after : List ℕ) (n : ℕ) → Along loose parts (λ rest. reaches below rest n) name → Some after ≡ after_run loose parts name → LeadsOn below after n
leads_behind loose parts below name after n on found =
    record { rest = on.rest; leads = on.leads; fits = subst (λ (l : List ℕ). fits on.rest l ≡ true) (same_Some on.after after (sym on.is ∙ sym found)) on.fits }

-- a name that may not go along a run fits no way
pub leads_nowhere : (loose : Bool) (parts : List ℕ) (below : Radix) (name : List ℕ) (n : ℕ) → Along loose parts (λ rest. reaches below rest n) name → None ≡ after_run loose parts name → {A : Type 0} → A
leads_nowhere loose parts below name n on found = absurd (none-some on.after (found ∙ on.is))
