use Rattle.rstp_core.proofs.RunLaws.{runs_legal}
use Rattle.rstp_core.proofs.Restarted.{restarts_flush}
use Rattle.rstp_core.proofs.laws.starting_anew_flushes.Goals as goal

pub returns-clause-flushed : goal.returns-clause-flushed
returns-clause-flushed c = λ a cs hs s r t u h out run happens n port restarts. (restarts_flush s r t u h out (runs_legal a cs hs s t run) happens n port restarts).0

pub returns-clause-anew : goal.returns-clause-anew
returns-clause-anew c = λ a cs hs s r t u h out run happens n port restarts. (restarts_flush s r t u h out (runs_legal a cs hs s t run) happens n port restarts).1
