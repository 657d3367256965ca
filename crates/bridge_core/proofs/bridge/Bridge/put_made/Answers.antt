use Rattle.std.proofs.Common.{ℕ, sym, subst, ap, ◌∙◌}
use Rattle.fdb_core.specs.Statics.{Statics, row_of}
use Rattle.bridge_core.specs.Statics.{AreStaticRows, ports_of}
use Rattle.bridge_core.proofs.StaticKept.{allowed_ports, with_row}
use Rattle.bridge_core.proofs.bridge.Bridge.put_made.Goals as goal

pub invariant_of-self : goal.invariant_of-self
invariant_of-self c =
    let h = c.self.invariant in
    let rows = c.self.inside.statics.rows in
    let n = c.ports-count.result in
    let count = h.set ∙ sym c.ports-count.ensures.count in
    let are : AreStaticRows n rows = subst (λ (k : ℕ). AreStaticRows k rows) count h.reporting in
    let left = with_row n (record { index = c.args.index; made = c.args.made; ports = ports_of n (row_of rows c.args.index) }) rows (allowed_ports n rows c.args.index are) are in
    record {
      configured = h.configured;
      set = h.set;
      counted = h.counted;
      least = h.least;
      most = h.most;
      limit = h.limit;
      reporting = subst (λ (k : ℕ). AreStaticRows k c.put_made.new.statics.rows) (sym count) (subst (AreStaticRows n) (sym (ap (λ (t : Statics). t.rows) c.put_made.ensures.after)) left);
    }
