use Rattle.std.proofs.Common.{ℕ, List, sym, ap, ◌∙◌}
use Rattle.std.proofs.lemmas.Option.{slice_get_within}
use Rattle.vacm_core.specs.Access.{candidate, access_beats}
use Rattle.vacm_core.specs.Keys.{access_key, key_or}
use Rattle.vacm_core.specs.Orders.{access_order}
use Rattle.vacm_core.specs.Rows.{same_access}
use Rattle.vacm_core.specs.Trees.{Covers}
use Rattle.vacm_core.proofs.GroupRows.{group_of}
use Rattle.vacm_core.proofs.Ties.{one_only, access_ties}
use Rattle.vacm_core.proofs.Unbeaten.{decides}
use Rattle.vacm_core.proofs.deciding.deciding_access.Goals as goal

pub returns-clause-place : goal.returns-clause-place
returns-clause-place c =
    let rows = c.args.rows.now in
    let ask = c.args.ask.now in
    let group = c.args.group.now in
    let all : (n : ℕ) → Covers (candidate ask group) (access_beats ask) rows c.best_among.result n = λ n row at pass.
    let here = ap (key_or access_key) at ∙ ap (λ (l : List ℕ). (0, l)) (group_of ask group row pass ∙ sym c.as_bytes.ensures.value) in
    c.best_among.ensures.found n (c.with_key-numbers.ensures.all n (slice_get_within rows n row at) here) row at pass in
    decides (access_order ask) (candidate ask group) rows
    (one_only (candidate ask group) (access_beats ask) same_access rows c.requires.differ (access_ties ask group)) c.best_among.result c.best_among.ensures.fit all
