use Rattle.std.proofs.Common.{subst, sym, arith}
use Rattle.fdb_core.specs.Statics.{IsRising}
use Rattle.fdb_core.proofs.StaticKept.{rising_made}
use Rattle.fdb_core.proofs.static_table.StaticTable.keep_made.Goals as goal

pub invariant_of-self : goal.invariant_of-self
invariant_of-self c =
    record {
      rising = subst IsRising (sym c.keep_made.ensures.rows) (rising_made _ c.self.invariant.rising);
      promised = omega (arith, c.keep_made.ensures.capacity, c.self.invariant.promised);
    }
