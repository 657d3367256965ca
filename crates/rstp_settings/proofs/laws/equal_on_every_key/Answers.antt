use Rattle.rstp_settings.proofs.Puts.{table-ext}
use Rattle.rstp_settings.proofs.laws.equal_on_every_key.Goals as goal

pub returns : goal.returns
returns c = table-ext
