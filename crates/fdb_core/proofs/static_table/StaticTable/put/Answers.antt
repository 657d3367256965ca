use Rattle.std.proofs.Common.{subst, sym, arith}
use Rattle.fdb_core.specs.Statics.{IsRising}
use Rattle.fdb_core.proofs.StaticKept.{rising_put}
use Rattle.fdb_core.proofs.static_table.StaticTable.put.Goals as goal

pub invariant_of-self : goal.invariant_of-self
invariant_of-self c =
    record {
      rising = subst IsRising (sym c.put_in.ensures.rows) (rising_put _ c.args.row c.self.invariant.rising);
      promised = omega (arith, c.put_in.ensures.capacity, c.self.invariant.promised);
    }
