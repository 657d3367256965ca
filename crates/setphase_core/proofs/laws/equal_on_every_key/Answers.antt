use Rattle.setphase_core.proofs.Puts.{settings-ext, rows-ext, marks-ext}
use Rattle.setphase_core.proofs.laws.equal_on_every_key.Goals as goal

pub returns-clause-bridge : goal.returns-clause-bridge
returns-clause-bridge c = settings-ext

pub returns-clause-statics : goal.returns-clause-statics
returns-clause-statics c = rows-ext

pub returns-clause-families : goal.returns-clause-families
returns-clause-families c = marks-ext
