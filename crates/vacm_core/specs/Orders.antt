-- The relations by which rows beat one another are orders, in which rows may tie, and so are those
-- of their keys, in which rows of one key tie.
use Rattle.std.specs.Cmp.{IsTotalOrder, IsStrictWeakOrder, bool_cmp_total}
use Rattle.std.specs.Cmp.Lexicographic.{slice_cmp, same_text}
use Rattle.std.specs.Ordering.{nat_cmp, ordering_then, is_eq}
use Rattle.std.specs.declared.cmp.Ordering.{Ordering}
use Rattle.std.specs.declared.cmp.Ordering.TheVariants.{Less, Equal, Greater}
use Rattle.std.proofs.Common.{◌≡◌, ℕ, ◌==◌, Bool, true, false, ◌&&◌, List, [], ◌∷◌, length, bytes_eq, refl, sym, ap, ◌∙◌, inl, inr, eq-eqb}
use Rattle.std.proofs.lemmas.Bool.{cases_Bool}
use Rattle.std.proofs.lemmas.Map.Text.{is_eq-slice_cmp}
use Rattle.std.proofs.lemmas.Cmp.{then_total, on_total, nat_cmp_total, nat_list_cmp_total}
use Rattle.std.proofs.lemmas.List.MinMax.{ranks_by, IsStrictWeakOrder-flip}
use Rattle.vacm_core.specs.declared.verdict.Ask.{Ask}
use Rattle.vacm_core.specs.Levels.{level_number}
use Rattle.vacm_core.specs.Families.{family_cmp, family_beats}
use Rattle.vacm_core.specs.Access.{access_cmp, access_beats}
use Rattle.vacm_core.specs.Rows.{same_group, group_key_cmp, same_access, access_key_cmp, same_family, family_key_cmp}
use Rattle.vacm_core.specs.declared.tables.GroupRow.{GroupRow}
use Rattle.vacm_core.specs.declared.tables.AccessRow.{AccessRow}
use Rattle.vacm_core.specs.declared.tables.FamilyRow.{FamilyRow}

pub family_total : IsTotalOrder family_cmp
family_total = then_total (on_total (λ f. length f.subtree) nat_cmp_total) (on_total (λ f. f.subtree) nat_list_cmp_total)

pub family_order : IsStrictWeakOrder family_beats
family_order = IsStrictWeakOrder-flip _ (ranks_by family_total (λ f. f))

pub access_total : (ask : Ask) → IsTotalOrder (access_cmp ask)
access_total ask =
    then_total
    (then_total
    (then_total (on_total (λ a. a.model == ask.model) bool_cmp_total) (on_total (λ a. bytes_eq a.prefix ask.context) bool_cmp_total))
    (on_total (λ a. length a.prefix) nat_cmp_total))
    (on_total (λ a. level_number a.level) nat_cmp_total)

pub access_order : (ask : Ask) → IsStrictWeakOrder (access_beats ask)
access_order ask = IsStrictWeakOrder-flip _ (ranks_by (access_total ask) (λ a. a))

-- ---- keys

is_eq-then : (o p : Ordering) → is_eq (ordering_then o p) ≡ (is_eq o && is_eq p)
is_eq-then Less p = refl
is_eq-then Equal p = refl
is_eq-then Greater p = refl

then_tied : (o : Ordering) → ordering_then o Equal ≡ o
then_tied Less = refl
then_tied Equal = refl
then_tied Greater = refl

and_true_is : (b : Bool) → (b && true) ≡ b
and_true_is true = refl
and_true_is false = refl

and_false_is : (b : Bool) → (b && false) ≡ false
and_false_is true = refl
and_false_is false = refl

is_eq-nat_cmp : (a b : ℕ) → is_eq (nat_cmp a b) ≡ (a == b)
is_eq-nat_cmp a b = sym (ap is_eq (then_tied (nat_cmp a b))) ∙ is_eq-slice_cmp (a ∷ []) (b ∷ []) ∙ and_true_is (a == b)

-- where all numbers are equal, so are how many they are
long_too : (xs ys : List ℕ) → ((length xs == length ys) && bytes_eq xs ys) ≡ bytes_eq xs ys
long_too xs ys =
    elim (cases_Bool (bytes_eq xs ys)) [
      | inl e ↦ ap (λ (b : Bool). b && bytes_eq xs ys) (eq-eqb (length xs) (length ys) (ap length (same_text xs ys (sym e))))
      | inr e ↦ ap (λ (b : Bool). (length xs == length ys) && b) e ∙ and_false_is (length xs == length ys) ∙ sym e
    ]

pub group_key_total : IsTotalOrder group_key_cmp
group_key_total = then_total (on_total (λ r. r.model) nat_cmp_total) (on_total (λ r. r.name) nat_list_cmp_total)

pub group_key_ties : (a b : GroupRow) → same_group a b ≡ is_eq (group_key_cmp a b)
group_key_ties a b =
    sym
    (is_eq-then (nat_cmp a.model b.model) (slice_cmp nat_cmp a.name b.name)
    ∙ (λ i. is_eq-nat_cmp a.model b.model i && is_eq-slice_cmp a.name b.name i))

pub access_key_total : IsTotalOrder access_key_cmp
access_key_total =
    then_total
    (then_total (then_total (on_total (λ r. r.group) nat_list_cmp_total) (on_total (λ r. r.prefix) nat_list_cmp_total)) (on_total (λ r. r.model) nat_cmp_total))
    (on_total (λ r. level_number r.level) nat_cmp_total)

pub access_key_ties : (a b : AccessRow) → same_access a b ≡ is_eq (access_key_cmp a b)
access_key_ties a b =
    let group = slice_cmp nat_cmp a.group b.group in
    let prefix = slice_cmp nat_cmp a.prefix b.prefix in
    let model = nat_cmp a.model b.model in
    let level = nat_cmp (level_number a.level) (level_number b.level) in
    sym
    (is_eq-then (ordering_then (ordering_then group prefix) model) level
    ∙ ap (λ (x : Bool). x && is_eq level) (is_eq-then (ordering_then group prefix) model ∙ ap (λ (x : Bool). x && is_eq model) (is_eq-then group prefix))
    ∙ (λ i.
    is_eq-slice_cmp a.group b.group i && is_eq-slice_cmp a.prefix b.prefix i && is_eq-nat_cmp a.model b.model i
    && is_eq-nat_cmp (level_number a.level) (level_number b.level) i))

pub family_key_total : IsTotalOrder family_key_cmp
family_key_total =
    then_total (then_total (on_total (λ r. length r.view) nat_cmp_total) (on_total (λ r. r.view) nat_list_cmp_total)) (on_total (λ r. r.subtree) nat_list_cmp_total)

pub family_key_ties : (a b : FamilyRow) → same_family a b ≡ is_eq (family_key_cmp a b)
family_key_ties a b =
    let long = nat_cmp (length a.view) (length b.view) in
    let view = slice_cmp nat_cmp a.view b.view in
    let subtree = slice_cmp nat_cmp a.subtree b.subtree in
    sym
    (is_eq-then (ordering_then long view) subtree
    ∙ ap (λ (x : Bool). x && is_eq subtree) (is_eq-then long view)
    ∙ (λ i. is_eq-nat_cmp (length a.view) (length b.view) i && is_eq-slice_cmp a.view b.view i && is_eq-slice_cmp a.subtree b.subtree i)
    ∙ ap (λ (x : Bool). x && bytes_eq a.subtree b.subtree) (long_too a.view b.view))
