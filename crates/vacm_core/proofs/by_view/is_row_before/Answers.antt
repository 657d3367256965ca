use Rattle.std.proofs.Common.{◌≡◌, length, ap, sym, ◌∙◌}
use Rattle.vacm_core.proofs.OfView.{front_by_names}
use Rattle.vacm_core.proofs.by_view.is_row_before.Goals as goal

pub returns : goal.returns
returns c =
    let own = c.as_bytes-own.ensures.value in
    let subtree = c.as_slice-subtree.ensures.value in
    let same : length c.args.row.now.view ≡ length c.args.view.now = sym (ap length own) ∙ c.if-own-view.false in
    let whole = front_by_names c.args.row.now c.args.view.now c.args.long same in
    cc
