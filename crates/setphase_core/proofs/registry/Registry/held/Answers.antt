use Rattle.std.proofs.Common.{arith, rules}
use Rattle.setphase_core.proofs.Released.{counted_more}
use Rattle.setphase_core.proofs.registry.Registry.held.Goals as goal

pub loop-object-preserved : goal.loop-object-preserved
loop-object-preserved g c =
    omega (
      arith,
      c.saturating_add-count.ensures,
      c.held.ensures,
      c.loop-object.invariant,
      counted_more g.O.MibObject.state c.deref-object-items.result.now c.args.self.now c.loop-object.object-index c.object-item.result (search rules) c.loop-object-test.true c.object-item.is,
    )
