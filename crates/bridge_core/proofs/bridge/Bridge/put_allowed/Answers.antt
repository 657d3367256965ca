use Rattle.std.proofs.Common.{ℕ, sym, subst, ap, ◌∙◌}
use Rattle.fdb_core.specs.PortSets.{IsOfPorts}
use Rattle.fdb_core.specs.Statics.{Statics, row_of}
use Rattle.bridge_core.specs.Bridge.{port_count}
use Rattle.bridge_core.specs.Statics.{AreStaticRows, is_made_in}
use Rattle.bridge_core.proofs.StaticKept.{with_row}
use Rattle.bridge_core.proofs.bridge.Bridge.put_allowed.Goals as goal

pub invariant_of-self : goal.invariant_of-self
invariant_of-self c =
    let h = c.self.invariant in
    let rows = c.self.inside.statics.rows in
    let n = c.ports-count.result in
    let count = h.set ∙ sym c.ports-count.ensures.count in
    let are : AreStaticRows n rows = subst (λ (k : ℕ). AreStaticRows k rows) count h.reporting in
    let value = subst (λ (k : ℕ). IsOfPorts k c.args.ports) (sym (ap port_count c.self.view_is) ∙ sym c.ports-count.ensures.count) c.requires.value in
    let left = with_row n (record { index = c.args.index; made = is_made_in (row_of rows c.args.index); ports = c.args.ports }) rows value are in
    record {
      configured = h.configured;
      set = h.set;
      counted = h.counted;
      least = h.least;
      most = h.most;
      limit = h.limit;
      reporting = subst (λ (k : ℕ). AreStaticRows k c.put_allowed.new.statics.rows) (sym count) (subst (AreStaticRows n) (sym (ap (λ (t : Statics). t.rows) c.put_allowed.ensures.after)) left);
    }
