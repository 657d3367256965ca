use Rattle.std.proofs.Common.{◌∙◌, sym, subst, ap, length, arith}
use Rattle.fdb_core.specs.Seen.{rows_at, IsReady}
use Rattle.fdb_core.proofs.Moments.{rows_other, few_other, ready_kept}
use Rattle.fdb_core.proofs.sightings.Sightings.flush.Goals as goal

pub returns-clause-rows : goal.returns-clause-rows
returns-clause-rows c =
    let tick = c.args.self.now.tick in
    ap (rows_at tick) c.forget_ports.ensures ∙ sym (rows_other tick c.args.ports.now c.args.self.now.seen.entries)

pub returns-clause-few : goal.returns-clause-few
returns-clause-few c = omega (arith, ap length c.forget_ports.ensures, few_other c.args.ports.now c.args.self.now.seen.entries)

pub returns-clause-ready : goal.returns-clause-ready
returns-clause-ready c =
    let s = c.args.self.now in
    subst (IsReady s.oldest s.tick) (sym c.forget_ports.ensures) (ready_kept _ s.oldest s.tick s.seen.entries c.requires.ready)
