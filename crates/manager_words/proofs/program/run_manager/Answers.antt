use Rattle.std.proofs.Common.{Global, inr, map, refl, string_bytes}
use Rattle.manager_words.proofs.Refused.{answered}
use Rattle.manager_words.proofs.program.run_manager.Goals as goal

pub returns-in-Err-clause-done : goal.returns-in-Err-clause-done
returns-in-Err-clause-done g c =
    let words = map (string_bytes {Z = Global}) c.args.words.now in
    inr (answered words c.in-Err.error c.args.out.now c.answer.result c.answer.new.out c.in-Err.ensures.refused c.answer.ensures.text c.answer.ensures.memory c.answer.ensures.refused, refl)
