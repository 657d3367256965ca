-- There is at most one row that passes and that no row that passes beats, since keys differ.
use Rattle.std.proofs.Common.{◌≡◌, ℕ, ◌<◌, ◌==◌, Bool, true, false, ◌&&◌, ◌||◌, not, if◌then◌else◌, nat_eq, List, length, take, get_or, Some, bytes_eq, refl, sym, ap, ◌∙◌, arith, inl, inr, eq-eqb}
use Rattle.std.specs.Cmp.{IsTotalOrder}
use Rattle.std.specs.Cmp.Lexicographic.{same_text, slice_cmp}
use Rattle.std.specs.FinMap.{nat_cmp-IsAntisymmetric}
use Rattle.std.specs.List.{list_any, slice_get, starts_with}
use Rattle.std.specs.Ordering.{nat_cmp, bool_cmp, ordering_then, ordering_reverse, is_lt}
use Rattle.std.specs.declared.cmp.Ordering.{Ordering}
use Rattle.std.specs.declared.cmp.Ordering.TheVariants.{Less, Equal, Greater}
use Rattle.std.proofs.lemmas.Bool.{cases_Bool, cases_lt, cases_eq, both_ways, and_from, true≢false, eqb-true}
use Rattle.std.proofs.lemmas.Cmp.{nat_list_eq_equiv}
use Rattle.std.proofs.lemmas.List.Folds.{list_any_at}
use Rattle.std.proofs.lemmas.Option.{get_or_from_slice_get, slice_get_within}
use Rattle.std.proofs.Math.Seq.{take-length}
use Rattle.oid_core.proofs.OrderLaws.{cmp_equal}
use Rattle.vacm_core.specs.declared.verdict.Ask.{Ask}
use Rattle.vacm_core.specs.Levels.{level_number}
use Rattle.vacm_core.specs.Best.{is_unbeaten, IsUnbeatenAt}
use Rattle.vacm_core.specs.Rows.{same_access, same_family}
use Rattle.vacm_core.specs.Tables.{KeysDiffer}
use Rattle.vacm_core.specs.Families.{agrees_from, matches, family_cmp, family_beats}
use Rattle.vacm_core.specs.Access.{candidate, access_cmp, access_beats}
use Rattle.vacm_core.specs.Orders.{family_total, access_total}
use Rattle.vacm_core.proofs.Sound.{and_true}

-- two rows that pass and do not beat each other have one key
abbrev pub Ties : {R : Type 0} → (R → Bool) → (R → R → Bool) → (R → R → Bool) → Type 0
Ties {R} passes beats same_key = (a b : R) → passes a ≡ true → passes b ≡ true → beats a b ≡ false → beats b a ≡ false → same_key a b ≡ true

is_true : (b : Bool) → not b ≡ true → b ≡ false
is_true true e = sym e
is_true false e = refl

second_false : (x y : Bool) → (x && y) ≡ false → x ≡ true → y ≡ false
second_false true y e h = e
second_false false y e h = absurd cc

module _ {R : Type 0} (passes : R → Bool) (beats same_key : R → R → Bool) (rows : List R) (differ : KeysDiffer same_key rows) (ties : Ties passes beats same_key) where
  not_beaten : (a b : R) (m : ℕ) → slice_get rows m ≡ Some b → passes b ≡ true → is_unbeaten passes beats rows a ≡ true → beats b a ≡ false
  not_beaten a b m at pass best =
      let test : R → Bool = λ other. passes other && beats other a in
      let none : list_any test rows ≡ false = is_true (list_any test rows) (and_true (passes a) (not (list_any test rows)) best).1 in
      let here : get_or rows m b ≡ b = get_or_from_slice_get rows m b b at in
      elim (cases_Bool (test b)) [
        | inl h ↦ absurd (both_ways (list_any test rows) none (list_any_at test rows m b (slice_get_within rows m b at) (ap test here ∙ h)))
        | inr h ↦ second_false (passes b) (beats b a) h pass
      ]

  never_below : (n m : ℕ) → IsUnbeatenAt passes beats rows n → IsUnbeatenAt passes beats rows m → n < m → ⊥
  never_below n m x y lt =
      let a = x.row in
      let b = y.row in
      let pass_a = (and_true (passes a) (not (list_any (λ other. passes other && beats other a) rows)) x.unbeaten).0 in
      let pass_b = (and_true (passes b) (not (list_any (λ other. passes other && beats other b) rows)) y.unbeaten).0 in
      let same = ties a b pass_a pass_b (not_beaten b a n x.here pass_a y.unbeaten) (not_beaten a b m y.here pass_b x.unbeaten) in
      let first : get_or rows n a ≡ a = get_or_from_slice_get rows n a a x.here in
      let second : get_or rows m a ≡ b = get_or_from_slice_get rows m b a y.here in
      both_ways (same_key a b) ((λ k. same_key (sym first k) (sym second k)) ∙ differ n m a lt (slice_get_within rows m b y.here)) same

  pub one_only : (n m : ℕ) → IsUnbeatenAt passes beats rows n → IsUnbeatenAt passes beats rows m → n ≡ m
  one_only n m x y =
      elim (cases_eq n m) [
        | inl e ↦ e
        | inr ne ↦ elim (cases_lt n m) [
          | inl lt ↦ absurd (never_below n m x y lt)
          | inr ge ↦ absurd (never_below m n y x (omega arith))
        ]
      ]

-- ---- which rows tie

pub bytes_same : (xs ys : List ℕ) → xs ≡ ys → bytes_eq xs ys ≡ true
bytes_same xs ys e = (λ k. bytes_eq (e k) ys) ∙ nat_list_eq_equiv.refl ys

-- what does not come before or after another, by a total order, is equal to it
pub neither : {X : Type 0} (cmp : X → X → Ordering) → IsTotalOrder cmp → (a b : X) (o : Ordering) → cmp a b ≡ o → is_lt (cmp a b) ≡ false → is_lt (cmp b a) ≡ false → cmp a b ≡ Equal
neither cmp total a b Equal e f g = e
neither cmp total a b Less e f g = absurd (true≢false (rw e at f))
neither cmp total a b Greater e f g =
    let turned : cmp b a ≡ Less = total.antisymm b a ∙ ap ordering_reverse e in
    absurd (true≢false (rw turned at g))

pub then_equal : (o p : Ordering) → ordering_then o p ≡ Equal → (o ≡ Equal) × (p ≡ Equal)
then_equal Equal p e = (refl, e)
then_equal Less p e = absurd cc
then_equal Greater p e = absurd cc

bool_equal : (a b : Bool) → bool_cmp a b ≡ Equal → a ≡ b
bool_equal true true e = refl
bool_equal true false e = absurd cc
bool_equal false true e = absurd cc
bool_equal false false e = refl

pub family_ties : (view name : List ℕ) → Ties (matches view name) family_beats same_family
family_ties view name a b pass_a pass_b not_a not_b =
    let equal = neither family_cmp family_total a b (family_cmp a b) refl not_b not_a in
    let parts = then_equal (nat_cmp (length a.subtree) (length b.subtree)) (slice_cmp nat_cmp a.subtree b.subtree) equal in
    let view_a = same_text a.view view (sym (and_true (bytes_eq a.view view) (agrees_from 0 a.mask a.subtree name) pass_a).0) in
    let view_b = same_text b.view view (sym (and_true (bytes_eq b.view view) (agrees_from 0 b.mask b.subtree name) pass_b).0) in
    and_from _ _ (bytes_same a.view b.view (view_a ∙ sym view_b)) (bytes_same a.subtree b.subtree (cmp_equal a.subtree b.subtree parts.1))

front_of : (exact : Bool) (prefix context : List ℕ) → (if exact then bytes_eq prefix context else starts_with nat_eq context prefix) ≡ true → prefix ≡ take (length prefix) context
front_of true prefix context h =
    let same = same_text prefix context (sym h) in
    same ∙ sym (take-length context) ∙ sym (ap (λ (l : List ℕ). take (length l) context) same)
front_of false prefix context h = same_text prefix (take (length prefix) context) (sym h)

same_model : (x y m : ℕ) → (x == m) ≡ (y == m) → ((x == m) || (x == 0)) ≡ true → ((y == m) || (y == 0)) ≡ true → x ≡ y
same_model x y m e h i =
    elim (cases_Bool (x == m)) [
      | inl p ↦ eqb-true x m p ∙ sym (eqb-true y m (sym e ∙ p))
      | inr p ↦
          let q : (y == m) ≡ false = sym e ∙ p in
          eqb-true x 0 (rw p at h) ∙ sym (eqb-true y 0 (rw q at i))
    ]

pub access_ties : (ask : Ask) (group : List ℕ) → Ties (candidate ask group) (access_beats ask) same_access
access_ties ask group a b pass_a pass_b not_a not_b =
    let equal = neither (access_cmp ask) (access_total ask) a b (access_cmp ask a b) refl not_b not_a in
    let level = then_equal _ _ equal in
    let long = then_equal _ _ level.0 in
    let model = then_equal (bool_cmp (a.model == ask.model) (b.model == ask.model)) _ long.0 in
    let a1 = and_true _ _ pass_a in
    let a2 = and_true _ _ a1.0 in
    let a3 = and_true _ _ a2.0 in
    let b1 = and_true _ _ pass_b in
    let b2 = and_true _ _ b1.0 in
    let b3 = and_true _ _ b2.0 in
    let length_same : length a.prefix ≡ length b.prefix = nat_cmp-IsAntisymmetric _ _ long.1 in
    let group_same : a.group ≡ b.group = same_text a.group group (sym a3.0) ∙ sym (same_text b.group group (sym b3.0)) in
    let prefix_same : a.prefix ≡ b.prefix = front_of a.exact a.prefix ask.context a3.1 ∙ ap (λ (n : ℕ). take n ask.context) length_same ∙ sym (front_of b.exact b.prefix ask.context b3.1) in
    let model_same : a.model ≡ b.model = same_model a.model b.model ask.model (bool_equal _ _ model.0) a2.1 b2.1 in
    let level_same : level_number a.level ≡ level_number b.level = nat_cmp-IsAntisymmetric _ _ level.1 in
    and_from _ _
    (and_from _ _ (and_from _ _ (bytes_same a.group b.group group_same) (bytes_same a.prefix b.prefix prefix_same)) (eq-eqb a.model b.model model_same))
    (eq-eqb (level_number a.level) (level_number b.level) level_same)
