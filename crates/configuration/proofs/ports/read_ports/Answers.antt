use Rattle.std.proofs.Common.{refl, Some, arith}
use Rattle.toml.specs.View.{view}
use Rattle.policy_text.proofs.RowLemmas.{rows_step}
use Rattle.configuration.specs.Ports.{port_says}
use Rattle.configuration.proofs.PortLemmas.{value_here}
use Rattle.configuration.proofs.ports.read_ports.Goals as goal

pub returns-in-Err-clause-fault : goal.returns-in-Err-clause-fault
returns-in-Err-clause-fault c = (
  c.loop-n.n,
  c.in-Err.key,
  refl,
  record {
    value = view c.row-item.result;
    here = value_here c.args.rows.now.items c.deref-row-items.result.now c.loop-n.n c.row-item.result c.deref-row-items.ensures.value c.row-item.is c.loop-n-test.true;
    wrong = c.in-Err.ensures.fault;
    ports = c.loop-n.ports.items;
    before = c.loop-n.invariant.stated;
  },
)

pub loop-n-preserved : goal.loop-n-preserved
loop-n-preserved c = record {
  stated =
      rows_step port_says c.args.rows.now.items c.deref-row-items.result.now c.loop-n.n c.row-item.result
      c.loop-n.ports.items c.push.new.self.items (Some c.in-Ok.port) c.in-Ok.port
      c.deref-row-items.ensures.value c.row-item.is c.loop-n-test.true c.loop-n.invariant.stated c.in-Ok.ensures.port refl c.push.ensures.items;
  count = omega (arith, c.push.ensures.len, c.loop-n.invariant.count);
}
