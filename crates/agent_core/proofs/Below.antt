-- Names that a prefix begins.
use Rattle.std.proofs.Common.{◌≡◌, ℕ, ◌∙◌, sym, ap, refl, Bool, true, false, cond, List, [], ◌∷◌, inl, inr, IsTrue, Option, Some, None, ◌||◌}
use Rattle.std.specs.List.{list_any}
use Rattle.std.proofs.lemmas.List.Elements.{All-weaker}
use Rattle.std.proofs.lemmas.List.Folds.{list_any_none}
use Rattle.std.proofs.lemmas.List.Kept.{AllPairs-filter}
use Rattle.oid_core.specs.Order.{name_lt, name_eq, is_prefix}
use Rattle.message_core.specs.Instances.{IsRising, next_of, value_of}
use Rattle.agent_core.specs.Reading.{visible}
use Rattle.message_core.specs.declared.binding.Binding.{Binding}
use Rattle.message_core.specs.declared.value.Value.{Value}
use Rattle.message_core.proofs.Rising.{rising_head, rising_tail}
use Rattle.oid_core.proofs.OrderLaws.{eq_same}
use Rattle.oid_core.proofs.Prefixes.{prefix_itself, prefix_cases, prefix_between}

-- the value under a name in a view
pub value-visible : (shows : List ℕ → Bool) (rows : List Binding) (name : List ℕ) → value_of (visible shows rows) name ≡ cond (shows name) (value_of rows name) None
value-visible shows [] name = elim (shows name) as (λ b. ◌≡◌ {A = Option Value} None (cond b None None)) [ true ↦ refl | false ↦ refl ]
value-visible shows (x ∷ xs) name = both (shows x.name) (name_eq x.name name) (shows name) refl refl refl (value-visible shows xs name)
  where
    both : (a b s : Bool) → shows x.name ≡ a → name_eq x.name name ≡ b → shows name ≡ s → value_of (visible shows xs) name ≡ cond s (value_of xs name) None →
        value_of (cond a (x ∷ visible shows xs) (visible shows xs)) name ≡ cond s (cond b (Some x.value) (value_of xs name)) None
    both true true true h k t more = rw k refl
    both true true false h k t more = let e : shows x.name ≡ shows name = ap shows (eq_same x.name name k) in absurd (cc)
    both true false s h k t more = rw k more
    both false true true h k t more = let e : shows x.name ≡ shows name = ap shows (eq_same x.name name k) in absurd (cc)
    both false true false h k t more = more
    both false false s h k t more = more

-- whether the first row after a prefix has it
abbrev pub first_below : List ℕ → Option Binding → Bool
first_below p None = false
first_below p (Some row) = is_prefix p row.name

no_more : (p : List ℕ) (x : Binding) (xs : List Binding) → IsRising (x ∷ xs) → name_lt p x.name ≡ true → is_prefix p x.name ≡ false → list_any (λ row. is_prefix p row.name) xs ≡ false
no_more p x xs h k l = list_any_none (λ row. is_prefix p row.name) xs (All-weaker (λ (y : Binding). name_lt x.name y.name ≡ true) (λ (y : Binding). is_prefix p y.name ≡ false) (λ y m. never y m (is_prefix p y.name) refl) xs (rising_head x xs h))
  where
    never : (y : Binding) → name_lt x.name y.name ≡ true → (b : Bool) → is_prefix p y.name ≡ b → is_prefix p y.name ≡ false
    never y m true e = let f : is_prefix p x.name ≡ true = prefix_between p x.name y.name e k m in absurd (cc)
    never y m false e = e

pub below-first : (p : List ℕ) (rows : List Binding) → IsRising rows → value_of rows p ≡ None → list_any (λ row. is_prefix p row.name) rows ≡ first_below p (next_of rows p)
below-first p [] h none = refl
below-first p (x ∷ xs) h none = both (name_eq x.name p) (name_lt p x.name) (is_prefix p x.name) refl refl refl none (λ k. below-first p xs (rising_tail x xs h) k)
  where
    both : (a b d : Bool) → name_eq x.name p ≡ a → name_lt p x.name ≡ b → is_prefix p x.name ≡ d → cond a (Some x.value) (value_of xs p) ≡ None →
        (value_of xs p ≡ None → list_any (λ row. is_prefix p row.name) xs ≡ first_below p (next_of xs p)) →
        (is_prefix p x.name || list_any (λ row. is_prefix p row.name) xs) ≡ first_below p (cond b (Some x) (next_of xs p))
    both true b d e f i n more = absurd (cc)
    both false true true e f i n more = rw i refl
    both false true false e f i n more = let z : list_any (λ row. is_prefix p row.name) xs ≡ false = no_more p x xs h f i in rw (i, z) refl
    both false false true e f i n more = elim (prefix_cases p x.name i) [ inl c ↦ absurd (cc) | inr c ↦ absurd (cc) ]
    both false false false e f i n more = rw i (more n)

pub below-itself : (p : List ℕ) (rows : List Binding) (v : Value) → value_of rows p ≡ Some v → list_any (λ row. is_prefix p row.name) rows ≡ true
below-itself p [] v some = absurd (cc)
below-itself p (x ∷ xs) v some = both (name_eq x.name p) refl some (λ k. below-itself p xs v k)
  where
    both : (a : Bool) → name_eq x.name p ≡ a → cond a (Some x.value) (value_of xs p) ≡ Some v → (value_of xs p ≡ Some v → list_any (λ row. is_prefix p row.name) xs ≡ true) →
        (is_prefix p x.name || list_any (λ row. is_prefix p row.name) xs) ≡ true
    both true e s more = let f : is_prefix p x.name ≡ true = ap (is_prefix p) (eq_same x.name p e) ∙ prefix_itself p in rw f refl
    both false e s more = elim (is_prefix p x.name) as (λ b. (b || list_any (λ row. is_prefix p row.name) xs) ≡ true) [ true ↦ refl | false ↦ more s ]

pub visible-rising : (shows : List ℕ → Bool) (rows : List Binding) → IsRising rows → IsRising (visible shows rows)
visible-rising shows rows h = AllPairs-filter (λ (a b : Binding). IsTrue (name_lt a.name b.name)) (λ row. shows row.name) rows h

pub value-hidden : (shows : List ℕ → Bool) (rows : List Binding) (name : List ℕ) → shows name ≡ false → None ≡ value_of (visible shows rows) name
value-hidden shows rows name h = sym (value-visible shows rows name ∙ ap (λ s. cond s (value_of rows name) None) h)

pub value-shown : (shows : List ℕ → Bool) (rows : List Binding) (name : List ℕ) → shows name ≡ true → value_of rows name ≡ value_of (visible shows rows) name
value-shown shows rows name h = sym (value-visible shows rows name ∙ ap (λ s. cond s (value_of rows name) None) h)
