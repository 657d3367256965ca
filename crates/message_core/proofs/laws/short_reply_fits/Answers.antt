use Rattle.message_core.proofs.Short.{reply_short}
use Rattle.message_core.proofs.laws.short_reply_fits.Goals as goal

pub returns : goal.returns
returns c = reply_short
