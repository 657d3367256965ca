use Rattle.settings_text.proofs.Depths.{settings_within}
use Rattle.settings_text.proofs.laws.tables_are_flat.Goals as goal

pub returns : goal.returns
returns c = settings_within
