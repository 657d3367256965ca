use Rattle.std.proofs.Common.{subst, sym, arith}
use Rattle.fdb_core.specs.Statics.{IsRising}
use Rattle.fdb_core.proofs.StaticKept.{rising_without}
use Rattle.fdb_core.proofs.static_table.StaticTable.remove.Goals as goal

pub invariant_of-self : goal.invariant_of-self
invariant_of-self c =
    record {
      rising = subst IsRising (sym c.remove_from.ensures.rows) (rising_without _ c.args.index c.self.invariant.rising);
      promised = omega (arith, c.remove_from.ensures.capacity, c.self.invariant.promised);
    }
