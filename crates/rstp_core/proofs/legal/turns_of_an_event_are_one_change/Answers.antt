use Rattle.rstp_core.proofs.Numbered.{event_turns}
use Rattle.rstp_core.proofs.legal.turns_of_an_event_are_one_change.Goals as goal

pub returns : goal.returns
returns c = event_turns
