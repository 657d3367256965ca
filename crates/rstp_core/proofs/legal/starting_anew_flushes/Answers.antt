use Rattle.rstp_core.proofs.Restarted.{restarts_flush}
use Rattle.rstp_core.proofs.legal.starting_anew_flushes.Goals as goal

pub returns-clause-flushed : goal.returns-clause-flushed
returns-clause-flushed c = λ h s r t u out legal happens n port restarts. (restarts_flush s r t u h out legal happens n port restarts).0

pub returns-clause-anew : goal.returns-clause-anew
returns-clause-anew c = λ h s r t u out legal happens n port restarts. (restarts_flush s r t u h out legal happens n port restarts).1
