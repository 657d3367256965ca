use Rattle.fdb_core.proofs.StaticNext.{next_is_above, next_is_lowest, none_is_above}
use Rattle.fdb_core.proofs.laws.next_made_is_the_lowest_above.Goals as goal

pub returns-clause-above : goal.returns-clause-above
returns-clause-above c = λ rows numbers row up e. next_is_above numbers rows row up e

pub returns-clause-lowest : goal.returns-clause-lowest
returns-clause-lowest c = λ rows numbers row other up e h. next_is_lowest numbers rows row other up e h

pub returns-clause-none : goal.returns-clause-none
returns-clause-none c = λ rows numbers row e h. none_is_above numbers rows row e h
