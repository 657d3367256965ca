use Rattle.rstp_settings.proofs.Puts.{put-comm}
use Rattle.rstp_settings.proofs.laws.puts_commute.Goals as goal

pub returns : goal.returns
returns c = put-comm
