use Rattle.rstp_core.proofs.RunLaws.{runs_legal}
use Rattle.rstp_core.proofs.TurnsClosed.{turns_closed}
use Rattle.rstp_core.proofs.Numbered.{event_turns}
use Rattle.rstp_core.proofs.laws.turns_are_one_change.Goals as goal

pub returns-clause-rows : goal.returns-clause-rows
returns-clause-rows c = turns_closed

pub returns-clause-event : goal.returns-clause-event
returns-clause-event c = λ a cs hs s t h run. event_turns h s t (runs_legal a cs hs s t run)
