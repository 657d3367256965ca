use Rattle.std.proofs.Common.{ap}
use Rattle.bridge_core.proofs.Changes.{after_learn}
use Rattle.fdb_core.specs.Table.{Table}
use Rattle.bridge_core.proofs.bridge.Bridge.learn.Goals as goal

pub returns-clause-step : goal.returns-clause-step
returns-clause-step c = rw (← c.self.view_is) (after_learn _ _ _ _ _ _ _ _ c.args.port c.args.frame.now c.learn_from-learnt.result c.lacks_memory.result c.self.inside.fdb.limit c.state.result c.self.invariant.limit c.state.ensures c.lacks_memory.ensures c.learn_from-learnt.ensures.answer (ap (λ (t : Table). t.rows) c.learn_from-learnt.ensures.rows) c.count_discards-self-inside.ensures)
