use Rattle.std.proofs.Common.{refl}
use Rattle.manager_core.specs.Asks.{was_unsent}
use Rattle.manager_core.proofs.asking.try_once.Goals as goal

pub returns-in-Err-clause-tried : goal.returns-in-Err-clause-tried
returns-in-Err-clause-tried g c = (was_unsent, refl, rw c.in-Err.ensures.fault at c.in-Err.ensures.went)
