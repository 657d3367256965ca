use Rattle.rstp_settings.proofs.Puts.{get-put}
use Rattle.rstp_settings.proofs.laws.get_after_put.Goals as goal

pub returns : goal.returns
returns c = get-put
