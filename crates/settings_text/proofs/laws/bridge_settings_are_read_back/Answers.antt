use Rattle.settings_text.proofs.BridgeBack.{bridge_back}
use Rattle.settings_text.proofs.laws.bridge_settings_are_read_back.Goals as goal

pub returns : goal.returns
returns c = bridge_back
