use Rattle.std.proofs.Common.{Global, map, string_bytes}
use Rattle.agent_words.proofs.Refused.{answered}
use Rattle.agent_words.proofs.program.read_words.Goals as goal

pub returns-in-Err-clause-answered : goal.returns-in-Err-clause-answered
returns-in-Err-clause-answered g c =
    let words = map (string_bytes {Z = Global}) c.args.words.now in
    answered words c.in-Err.error c.args.out.now c.args.errors.now c.answer.result c.answer.new.out c.answer.new.errors c.in-Err.ensures.refused c.answer.ensures
