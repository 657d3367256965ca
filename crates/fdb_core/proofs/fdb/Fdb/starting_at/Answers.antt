use Rattle.std.proofs.Common.{sym, subst, ap, length, arith}
use Rattle.fdb_core.specs.Rows.{IsRising, IsYoung, HaveAddresses}
use Rattle.fdb_core.specs.Seen.{rows_at}
use Rattle.fdb_core.proofs.Kept.{rising_none}
use Rattle.fdb_core.proofs.fdb.Fdb.starting_at.Goals as goal

pub invariant_of-result : goal.invariant_of-result
invariant_of-result c =
    let none = ap (rows_at c.new.result.tick) c.new.ensures.seen in
    record {
      table = record {
        rising = subst IsRising (sym none) rising_none;
        young = subst IsYoung (sym none) tt;
        addresses = subst HaveAddresses (sym none) tt;
        few = omega (arith, ap length none);
      };
      ready = c.new.ensures.ready;
    }
