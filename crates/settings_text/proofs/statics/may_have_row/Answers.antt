use Rattle.settings_text.proofs.StaticIndexes.{tested}
use Rattle.settings_text.proofs.statics.may_have_row.Goals as goal

pub returns : goal.returns
returns c = tested c.args.bridge.now c.args.index c.is_static_index.result c.known_address.ensures c.is_static_index.ensures
