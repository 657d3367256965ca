use Rattle.live_laps.proofs.Summing.{worked_more}
use Rattle.live_laps.proofs.book.Worked.count.Goals as goal

pub returns : goal.returns
returns c = λ before was. worked_more _ _ _ before _ was c.worked_of.ensures c.add.ensures.requests c.add.ensures.drops c.add.ensures.by_cause
