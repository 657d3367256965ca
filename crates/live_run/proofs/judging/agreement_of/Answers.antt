use Rattle.std.proofs.Common.{sym, ap, refl, ◌∙◌, arith, length, rules}
use Rattle.std.specs.Prelude.{IsPermutation}
use Rattle.std.proofs.lemmas.List.Sorted.{length_permutation, IsNonDecreasingBy-from_sort_by_key}
use Rattle.history_core.specs.declared.receipt.Receipt.{Receipt}
use Rattle.history_core.specs.Comparing.{count_older}
use Rattle.live_run.specs.Reports.{all_receipts}
use Rattle.live_run.proofs.Gathering.{length-all_receipts}
use Rattle.live_run.proofs.judging.agreement_of.Goals as goal

pub returns-in-Ok-compare : goal.returns-in-Ok-compare
returns-in-Ok-compare g c =
    let t = c.in-Ok-compare.ensures in
    let sorted = c.sort_by_key.new.self.items in
    let same : IsPermutation (all_receipts c.args.runs.now) sorted = rw (sym c.in-Ok.ensures.receipts) c.sort_by_key.ensures.permutation in
    record {
      sorted = sorted;
      agrees = record { same = same; fitting = (rw c.as_slice.ensures.value at t.fitting) };
      entries_are = omega (arith, c.len-entries.ensures, c.as_slice.ensures.len, ap length c.as_slice.ensures.value, length_permutation _ _ same, length-all_receipts c.args.runs.now);
      requests_are = c.in-Ok.ensures.requests;
      older_are = t.older ∙ ap (count_older c.args.kept.now.base_number) c.as_slice.ensures.value;
    }

pub returns : goal.returns
returns g c =
    record {
      sorted = c.sort_by_key.new.self.items;
      by_number = record {
        same = rw (sym c.in-Ok.ensures.receipts) c.sort_by_key.ensures.permutation;
        rises = IsNonDecreasingBy-from_sort_by_key (λ (r : Receipt). r.number) _ c.in-Ok-sort_by_key.ensures.sorted (λ a r q k. search rules);
      };
      mismatch = c.in-Err.mismatch;
      number_is = refl;
      breaks = rw c.as_slice.ensures.value at c.in-Err.ensures;
    }
