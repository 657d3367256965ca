use Rattle.std.proofs.Common.{◌≡◌, ◌<◌, length, rules, sym, subst}
use Rattle.std.specs.Ordering.{is_lt}
use Rattle.std.proofs.lemmas.Fn.{always_returns_same}
use Rattle.std.proofs.lemmas.List.Sorted.{All-permutation, Contains-permutation}
use Rattle.vacm_core.specs.Keys.{key_before, index_key, IsIndex}
use Rattle.vacm_core.proofs.Indexes.{key_order}
use Rattle.vacm_core.proofs.by_index.numbers_by_index.Goals as goal

pub returns-clause-index : goal.returns-clause-index
returns-clause-index c =
    let key = index_key in
    let rows = c.args.rows.now in
    let numbers = c.sort_unstable_by.new.self.items in
    let is : IsIndex key rows numbers = record {
      sorted = c.sort_unstable_by.ensures.sorted (key_before key rows) (key_order key rows)
          (always_returns_same _ (λ a r. is_lt r ≡ key_before key rows a.0.now a.1.0.now) _ (λ a r f' k. search rules));
      within = All-permutation (λ n. n < length rows) c.in_ok-numbers.numbers.items numbers c.sort_unstable_by.ensures.permutation c.in_ok-numbers.ensures.below;
      all = λ n lt. Contains-permutation c.in_ok-numbers.numbers.items numbers n c.sort_unstable_by.ensures.permutation (c.in_ok-numbers.ensures.all n lt);
    } in
    subst (IsIndex key rows) (sym c.new.ensures) is
