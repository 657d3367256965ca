use Rattle.history_core.proofs.Histories as histories
use Rattle.history_core.proofs.laws.one_history.Goals as goal

pub returns : goal.returns
returns c = histories.one_history
