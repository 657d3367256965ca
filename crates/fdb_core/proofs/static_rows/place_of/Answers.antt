use Rattle.std.proofs.Common.{ℕ, List, rules, subst}
use Rattle.std.specs.Cmp.Lexicographic.{slice_cmp}
use Rattle.std.specs.Ordering.{nat_cmp}
use Rattle.std.specs.List.Sorted.{IsBinarySearchResult}
use Rattle.std.proofs.lemmas.List.Sorted.{answers_always}
use Rattle.fdb_core.specs.Statics.{numbers_of}
use Rattle.fdb_core.proofs.StaticSplit.{placed}
use Rattle.fdb_core.proofs.static_rows.place_of.Goals as goal

-- the closure gives the numbers of a row's index
pub returns : goal.returns
returns c =
    let facts = c.binary_search_by_key.ensures in
    let by_key = facts.position (λ r. numbers_of r.index) (answers_always _ _ _ (λ f a r g called. search rules)) in
    let by_index = subst (λ (numbers : List ℕ). IsBinarySearchResult (λ r. slice_cmp nat_cmp (numbers_of r.index) numbers) c.args.rows.now c.binary_search_by_key.result) c.numbers.ensures by_key in
    placed c.args.rows.now c.requires c.args.index c.binary_search_by_key.result facts.bound by_index
