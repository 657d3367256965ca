use Rattle.std.proofs.Common.{◌≡◌, ◌<◌, length, nat_eq, rules}
use Rattle.std.specs.Ordering.{is_lt}
use Rattle.std.proofs.lemmas.Cmp.{nat_eq_equiv}
use Rattle.std.proofs.lemmas.Fn.{always_returns_same}
use Rattle.std.proofs.lemmas.List.Sorted.{All-permutation, Contains-permutation}
use Rattle.std.proofs.lemmas.Map.Keys.{IsDistinct-IsPermutation}
use Rattle.vacm_core.specs.Repeats.{comes_before}
use Rattle.vacm_core.proofs.Tied.{order_of_numbers}
use Rattle.vacm_core.proofs.repeats.numbers_by_key.Goals as goal

pub returns-clause-order : goal.returns-clause-order
returns-clause-order g c =
    let cmp = g.W.WrittenRow.key_cmp in
    let rows = c.args.rows.now in
    let before = c.in_ok-numbers.numbers.items in
    let numbers = c.sort_unstable_by.new.self.items in
    let moved = c.sort_unstable_by.ensures.permutation in
    record {
      sorted = c.sort_unstable_by.ensures.sorted (comes_before cmp rows) (order_of_numbers g.met.W.WrittenRow.keys_are_ordered rows)
          (always_returns_same _ (λ a r. is_lt r ≡ comes_before cmp rows a.0.now a.1.0.now) _ (λ a r f' k. search rules));
      within = All-permutation (λ n. n < length rows) before numbers moved c.in_ok-numbers.ensures.below;
      all = λ n lt. Contains-permutation before numbers n moved (c.in_ok-numbers.ensures.all n lt);
      once = IsDistinct-IsPermutation nat_eq nat_eq_equiv.symm before numbers moved c.in_ok-numbers.ensures.once;
    }
