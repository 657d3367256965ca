use Rattle.std.proofs.Common.{◌∙◌, ap, sym, subst, List, arith}
use Rattle.std.proofs.lemmas.List.{length-map}
use Rattle.fdb_core.specs.Rows.{IsRising, IsYoung, HaveAddresses, row_of}
use Rattle.fdb_core.specs.Seen.{row_at, rows_at}
use Rattle.fdb_core.proofs.Addresses.{addresses_learned}
use Rattle.fdb_core.proofs.Kept.{rising_learned, young_learned}
use Rattle.fdb_core.proofs.Found.{learned_here, learned_others}
use Rattle.fdb_core.specs.declared.row.LearnedRow.{LearnedRow}
use Rattle.fdb_core.specs.Table.{Table}
use Rattle.fdb_core.proofs.fdb.Fdb.learn.Goals as goal

pub invariant_of-self : goal.invariant_of-self
invariant_of-self c =
    let old = c.self.inside.sightings in
    let new = c.learn.new.self in
    let rows = rows_at old.tick old.seen.entries in
    let table = c.self.invariant.table in
    record {
      table = record {
        rising = subst IsRising (sym c.learn.ensures.rows) (rising_learned c.learn.result rows c.args.address c.args.port table.rising);
        young = subst IsYoung (sym c.learn.ensures.rows) (young_learned c.learn.result rows c.args.address c.args.port table.young);
        addresses = subst HaveAddresses (sym c.learn.ensures.rows) (addresses_learned c.learn.result rows c.args.address c.args.port c.known_address.ensures table.addresses);
        few = omega (arith, c.learn.ensures.few, length-map new.seen.entries (row_at new.tick));
      };
      ready = c.learn.ensures.ready;
    }

pub returns-clause-own : goal.returns-clause-own
returns-clause-own c full memory =
    let old = c.self.inside.sightings in
    ap (λ (l : List LearnedRow). row_of l c.args.address) c.learn.ensures.rows ∙ learned_here c.learn.result (rows_at old.tick old.seen.entries) c.args.address c.args.port full memory

pub returns-clause-others : goal.returns-clause-others
returns-clause-others c other differs =
    let old = c.self.inside.sightings in
    ap (λ (l : List LearnedRow). row_of l other) c.learn.ensures.rows ∙ learned_others c.learn.result (rows_at old.tick old.seen.entries) c.args.address c.args.port other differs ∙ ap (λ (t : Table). row_of t.rows other) c.self.view_is
