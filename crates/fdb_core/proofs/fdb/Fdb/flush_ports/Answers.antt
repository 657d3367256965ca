use Rattle.std.proofs.Common.{sym, subst, arith}
use Rattle.std.proofs.lemmas.List.{length-map}
use Rattle.fdb_core.specs.Rows.{IsRising, IsYoung, HaveAddresses}
use Rattle.fdb_core.specs.Seen.{row_at, rows_at}
use Rattle.fdb_core.proofs.Kept.{rising_kept, kept_by}
use Rattle.fdb_core.proofs.fdb.Fdb.flush_ports.Goals as goal

pub invariant_of-self : goal.invariant_of-self
invariant_of-self c =
    let old = c.self.inside.sightings in
    let new = c.flush.new.self in
    let rows = rows_at old.tick old.seen.entries in
    let table = c.self.invariant.table in
    record {
      table = record {
        rising = subst IsRising (sym c.flush.ensures.rows) (rising_kept _ rows table.rising);
        young = subst IsYoung (sym c.flush.ensures.rows) (kept_by _ _ rows table.young);
        addresses = subst HaveAddresses (sym c.flush.ensures.rows) (kept_by _ _ rows table.addresses);
        few = omega (arith, c.flush.ensures.few, table.few, length-map old.seen.entries (row_at old.tick), length-map new.seen.entries (row_at new.tick));
      };
      ready = c.flush.ensures.ready;
    }
