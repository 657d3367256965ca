use Rattle.rstp_settings.proofs.Puts.{put-back}
use Rattle.rstp_settings.proofs.laws.undo_restores.Goals as goal

pub returns : goal.returns
returns c = put-back
