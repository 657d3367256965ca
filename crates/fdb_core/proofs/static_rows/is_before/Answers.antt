use Rattle.std.proofs.Common.{◌≡◌, length, rules, ◌∙◌}
use Rattle.fdb_core.proofs.StaticOf.{before_by}
use Rattle.fdb_core.proofs.static_rows.is_before.Goals as goal

pub returns : goal.returns
returns c =
    let six : length c.args.index.address.0 ≡ length c.args.address.0 = search rules in
    c.lt.ensures ∙ before_by c.args.index c.args.address six
