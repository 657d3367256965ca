use Rattle.std.proofs.Common.{◌∙◌, sym, ap}
use Rattle.fdb_core.specs.Rows.{young_rows}
use Rattle.fdb_core.proofs.Moments.{rows_older}
use Rattle.fdb_core.proofs.sightings.Sightings.age.Goals as goal

pub returns-then-self-clause-rows : goal.returns-then-self-clause-rows
returns-then-self-clause-rows c =
    let s = c.args.self.now in
    c.lower.ensures.rows ∙ c.forget.ensures.rows ∙ sym (ap (young_rows c.args.limit) (rows_older s.oldest s.tick s.seen.entries c.requires.ready.timed.within))

pub returns-else-self-clause-rows : goal.returns-else-self-clause-rows
returns-else-self-clause-rows c =
    let s = c.args.self.now in
    c.forget.ensures.rows ∙ sym (ap (young_rows c.args.limit) (rows_older s.oldest s.tick s.seen.entries c.requires.ready.timed.within))
