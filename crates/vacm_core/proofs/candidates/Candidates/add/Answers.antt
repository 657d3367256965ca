use Rattle.std.proofs.Common.{◌≡◌, ℕ, get_or, subst}
use Rattle.vacm_core.proofs.Followed.{IsNextLevel, followed_next}
use Rattle.vacm_core.proofs.candidates.Candidates.add.Goals as goal

pub returns-clause-followed : goal.returns-clause-followed
returns-clause-followed c =
    let blocks = c.args.blocks.now in
    let levels = c.args.self.now.levels.items in
    let level = c.index.result.now in
    let next = c.next_level-level.result in
    let at = subst (λ (n : ℕ). level ≡ get_or levels n level) c.len-place.ensures.value c.index.ensures in
    let on = subst (λ (n : ℕ). IsNextLevel blocks n c.args.number level.rows next.rows) c.len-place.ensures.value c.next_level-level.ensures in
    rw (c.push-2.ensures.items, c.in_ok-push.ensures.items) (followed_next blocks c.args.self.now.numbers.items levels c.args.number level next c.requires.followed at on)
