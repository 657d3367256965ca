use Rattle.std.proofs.Common.{◌∙◌, ◌-◌, sym, subst, ap, arith}
use Rattle.fdb_core.specs.Seen.{rows_at, AreSeenWithin}
use Rattle.fdb_core.proofs.Moments.{rows_lowered, within_lowered}
use Rattle.fdb_core.proofs.sightings.Sightings.lower.Goals as goal

pub returns-clause-rows : goal.returns-clause-rows
returns-clause-rows c =
    let s = c.args.self.now in
    ap (rows_at (s.tick - s.oldest)) c.lower_all.ensures ∙ rows_lowered s.oldest s.tick s.seen.entries c.requires.within

pub returns-clause-timed : goal.returns-clause-timed
returns-clause-timed c =
    let s = c.args.self.now in
    record {
      within = subst (AreSeenWithin 0 (s.tick - s.oldest)) (sym c.lower_all.ensures) (within_lowered s.oldest s.tick s.seen.entries c.requires.within);
      not_later = omega arith;
    }
