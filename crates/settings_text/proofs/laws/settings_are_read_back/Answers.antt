use Rattle.settings_text.proofs.RoundTrip.{round_trip}
use Rattle.settings_text.proofs.laws.settings_are_read_back.Goals as goal

pub returns : goal.returns
returns c = round_trip
