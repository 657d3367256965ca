use Rattle.std.proofs.Common.{ℕ, sym, subst, ◌∙◌}
use Rattle.fdb_core.specs.declared.port_set.PortSet.{PortSet}
use Rattle.fdb_core.specs.PortSets.{IsOfPorts}
use Rattle.bridge_core.specs.Statics.{AreStaticRows}
use Rattle.bridge_core.proofs.StaticKept.{allowed_ports}
use Rattle.bridge_core.proofs.bridge.Bridge.allowed.Goals as goal

pub returns-clause-in_range : goal.returns-clause-in_range
returns-clause-in_range c =
    let rows = c.self.inside.statics.rows in
    let n = c.ports.result in
    let are : AreStaticRows n rows = subst (λ (k : ℕ). AreStaticRows k rows) (c.self.invariant.set ∙ sym c.ports.ensures.count) c.self.invariant.reporting in
    let ports = subst (λ (s : PortSet). IsOfPorts n s) (sym c.allowed.ensures) (allowed_ports n rows c.args.index are) in
    rw (← c.self.view_is) (subst (λ (k : ℕ). IsOfPorts k c.allowed.result) c.ports.ensures.count ports)
