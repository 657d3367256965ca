use Rattle.std.proofs.Common.{sym, subst, map, arith}
use Rattle.std.proofs.lemmas.List.{length-map}
use Rattle.fdb_core.specs.Rows.{IsRising, IsYoung, HaveAddresses, older_row}
use Rattle.fdb_core.specs.Seen.{row_at, rows_at}
use Rattle.fdb_core.proofs.Addresses.{addresses_later}
use Rattle.fdb_core.proofs.Kept.{rising_later, young_left}
use Rattle.fdb_core.proofs.fdb.Fdb.age.Goals as goal

pub invariant_of-self : goal.invariant_of-self
invariant_of-self c =
    let old = c.self.inside.sightings in
    let new = c.age.new.self in
    let rows = rows_at old.tick old.seen.entries in
    let table = c.self.invariant.table in
    record {
      table = record {
        rising = subst IsRising (sym c.age.ensures.rows) (rising_later c.args.limit rows table.rising);
        young = subst IsYoung (sym c.age.ensures.rows) (young_left c.args.limit (map older_row rows) c.requires.most);
        addresses = subst HaveAddresses (sym c.age.ensures.rows) (addresses_later c.args.limit rows table.addresses);
        few = omega (arith, c.age.ensures.few, table.few, length-map old.seen.entries (row_at old.tick), length-map new.seen.entries (row_at new.tick));
      };
      ready = c.age.ensures.ready;
    }
