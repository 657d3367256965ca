use Rattle.std.proofs.Common.{ap, ◌∙◌}
use Rattle.toml.specs.View.{view, members_view}
use Rattle.settings_text.specs.Building.{with_member}
use Rattle.settings_text.proofs.Inserted.{inserted_view}
use Rattle.settings_text.proofs.building.put.Goals as goal

pub returns : goal.returns
returns c =
    ap members_view c.in_ok-_before.ensures.entries
    ∙ (inserted_view c.args.table.now.entries c.in_ok-name.name c.args.value
    ∙ ap (λ k. with_member k (view c.args.value) (members_view c.args.table.now.entries)) c.in_ok-name.ensures.ok)
