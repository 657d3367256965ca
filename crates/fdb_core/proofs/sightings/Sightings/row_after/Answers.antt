use Rattle.std.proofs.Common.{◌∙◌, sym, ap}
use Rattle.fdb_core.specs.Rows.{next_after}
use Rattle.fdb_core.specs.Seen.{rows_at}
use Rattle.fdb_core.proofs.Around.{first_of_all, first_above}
use Rattle.fdb_core.proofs.sightings.Sightings.row_after.Goals as goal

pub returns-in-None : goal.returns-in-None
returns-in-None c =
    let s = c.args.self.now in
    c.first_from.ensures ∙ first_of_all s.tick s.seen.entries ∙ sym (ap (next_after (rows_at s.tick s.seen.entries)) c.in-None.is)

pub returns-in-Some : goal.returns-in-Some
returns-in-Some c =
    let s = c.args.self.now in
    c.first_from-in-Some.ensures ∙ first_above s.tick c.in-Some.address s.seen.entries ∙ sym (ap (next_after (rows_at s.tick s.seen.entries)) c.in-Some.is)
