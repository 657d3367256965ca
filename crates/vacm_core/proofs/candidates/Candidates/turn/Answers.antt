use Rattle.std.proofs.Common.{length, take, sym, ap, ◌∙◌, arith}
use Rattle.vacm_core.proofs.Followed.{followed_less}
use Rattle.vacm_core.proofs.candidates.Candidates.turn.Goals as goal

pub loop-k-init : goal.loop-k-init
loop-k-init c =
    let same = c.alike-same in
    let numbers = c.args.self.now.numbers.items in
    record {
      followed = rw (c.truncate.ensures.items, c.truncate-2.ensures.items)
          (followed_less c.args.blocks.now numbers c.args.self.now.levels.items same.result (omega (arith, same.ensures.one, ap length c.as_slice.ensures.value)) c.requires.followed);
      numbers = c.truncate.ensures.items ∙ ap (take same.result) (sym c.as_slice.ensures.value) ∙ same.ensures.same;
      within = same.ensures.other;
    }
