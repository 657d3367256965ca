use Rattle.std.proofs.Common.{◌∙◌, sym, subst, ap, length, List, arith}
use Rattle.std.specs.Map.{values_of}
use Rattle.frame_core.specs.declared.mac.Mac.{Mac}
use Rattle.fdb_core.specs.declared.seen.Seen.{Seen}
use Rattle.fdb_core.specs.Seen.{rows_at, oldest_tick, AreSeenWithin}
use Rattle.fdb_core.proofs.Moments.{rows_young, few_young, within_young, within_oldest, oldest_not_later, oldest_recent, all_young}
use Rattle.fdb_core.proofs.sightings.Sightings.forget.Goals as goal

pub returns-then-self-limit-clause-rows : goal.returns-then-self-limit-clause-rows
returns-then-self-limit-clause-rows c =
    let s = c.args.self.now in
    ap (rows_at s.tick) c.forget_old.ensures ∙ sym (rows_young s.tick c.args.limit s.seen.entries)

pub returns-then-self-limit-clause-few : goal.returns-then-self-limit-clause-few
returns-then-self-limit-clause-few c =
    let s = c.args.self.now in
    omega (arith, ap length c.forget_old.ensures, few_young s.tick c.args.limit s.seen.entries)

pub returns-then-self-limit-clause-timed : goal.returns-then-self-limit-clause-timed
returns-then-self-limit-clause-timed c =
    let s = c.args.self.now in
    let left = c.forget_old.new.seen.entries in
    let within = subst (AreSeenWithin s.oldest s.tick) (sym c.forget_old.ensures) (within_young s.oldest s.tick c.args.limit s.seen.entries c.requires.timed.within) in
    record {
      within = rw c.oldest_of-self.ensures (within_oldest s.oldest s.tick left within);
      not_later = omega (arith, c.oldest_of-self.ensures, oldest_not_later s.tick (values_of left));
    }

pub returns-then-self-limit-clause-recent : goal.returns-then-self-limit-clause-recent
returns-then-self-limit-clause-recent c =
    let s = c.args.self.now in
    let oldest = c.oldest_of-self.ensures ∙ ap (λ (l : List (Mac × Seen)). oldest_tick s.tick (values_of l)) c.forget_old.ensures in
    omega (arith, oldest, oldest_recent s.tick c.args.limit c.requires.some s.seen.entries)

pub returns-else-self-limit-clause-rows : goal.returns-else-self-limit-clause-rows
returns-else-self-limit-clause-rows c =
    let s = c.args.self.now in
    let none = all_young s.oldest s.tick c.args.limit s.seen.entries c.requires.timed.within c.if-self-limit.false in
    sym (rows_young s.tick c.args.limit s.seen.entries ∙ ap (rows_at s.tick) none)
