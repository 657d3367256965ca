use Rattle.std.proofs.Common.{◌≡◌, ℕ, Bool, false, Some, None, rules, sym, ap, subst, ◌∙◌}
use Rattle.std.specs.Ordering.{is_lt, is_eq}
use Rattle.std.specs.List.{slice_get}
use Rattle.std.proofs.lemmas.Option.{same_Some, none-some}
use Rattle.std.proofs.lemmas.List.Sorted.{IsPartitionPoint-from_clause}
use Rattle.vacm_core.specs.Keys.{key_cmp, key_at, index_key}
use Rattle.vacm_core.proofs.FamilyIndexes.{found_at, none_at}
use Rattle.vacm_core.proofs.Indexes.{parted_lt}
use Rattle.vacm_core.proofs.by_index.family_at.Goals as goal

pub returns-in-Some-clause-place : goal.returns-in-Some-clause-place
returns-in-Some-clause-place c =
    let rows = c.args.rows.now in
    let index = c.args.index.now in
    let asked = c.args.numbers.now in
    let below : ℕ → Bool = λ n. is_lt (key_cmp (key_at index_key rows n) (0, asked)) in
    let first = c.partition_point-first.result in
    let point = IsPartitionPoint-from_clause below index first c.partition_point-first.ensures.partitioned (parted_lt index_key rows (0, asked) index c.requires.index.sorted)
    (λ a r f' k. search rules) in
    found_at rows asked index c.requires.index first point c.requires.differ c.in-Some.n (sym c.in-Some.is ∙ c.number_at.ensures) (sym (c.is_eq.ensures ∙ ap is_eq c.cmp_with.ensures) ∙ c.if-is_eq.true)

pub returns-in_default-clause-place : goal.returns-in_default-clause-place
returns-in_default-clause-place c =
    let rows = c.args.rows.now in
    let index = c.args.index.now in
    let asked = c.args.numbers.now in
    let below : ℕ → Bool = λ n. is_lt (key_cmp (key_at index_key rows n) (0, asked)) in
    let first = c.partition_point-first.result in
    let point = IsPartitionPoint-from_clause below index first c.partition_point-first.ensures.partitioned (parted_lt index_key rows (0, asked) index c.requires.index.sorted)
    (λ a r f' k. search rules) in
    let not_equal : is_eq (key_cmp (key_at index_key rows c.in-Some.n) (0, asked)) ≡ false = sym (c.is_eq.ensures ∙ ap is_eq c.cmp_with.ensures) ∙ c.if-is_eq.false in
    let here : Some c.in-Some.n ≡ slice_get index first = sym c.in-Some.is ∙ c.number_at.ensures in
    none_at rows asked index c.requires.index first point (λ n e. subst (λ (m : ℕ). is_eq (key_cmp (key_at index_key rows m) (0, asked)) ≡ false) (same_Some c.in-Some.n n (here ∙ sym e)) not_equal)

pub returns-in_default-2-clause-place : goal.returns-in_default-2-clause-place
returns-in_default-2-clause-place c =
    let rows = c.args.rows.now in
    let index = c.args.index.now in
    let asked = c.args.numbers.now in
    let below : ℕ → Bool = λ n. is_lt (key_cmp (key_at index_key rows n) (0, asked)) in
    let first = c.partition_point-first.result in
    let point = IsPartitionPoint-from_clause below index first c.partition_point-first.ensures.partitioned (parted_lt index_key rows (0, asked) index c.requires.index.sorted)
    (λ a r f' k. search rules) in
    let none : None ≡ slice_get index first = sym c.in_default.is ∙ c.number_at.ensures in
    none_at rows asked index c.requires.index first point (λ n e. absurd (none-some n (none ∙ sym e)))
