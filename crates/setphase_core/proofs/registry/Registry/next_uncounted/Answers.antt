use Rattle.std.proofs.Common.{◌∙◌}
use Rattle.setphase_core.specs.Registry.{rows_of}
use Rattle.setphase_core.proofs.Walks.{next_of_all}
use Rattle.setphase_core.proofs.registry.Registry.next_uncounted.Goals as goal

pub returns-clause-found : goal.returns-clause-found
returns-clause-found g c = c.next_open.ensures.found ∙ next_of_all (rows_of c.args.self.now) c.args.world.now c.args.name.now
