use Rattle.std.proofs.Common.{◌∙◌, ap}
use Rattle.toml.specs.View.{members_view}
use Rattle.configuration.proofs.Without.{without_view}
use Rattle.configuration.proofs.reading.without.Goals as goal

pub returns : goal.returns
returns c = ap members_view c.remove.ensures.entries ∙ without_view c.args.key.now c.args.table.entries
