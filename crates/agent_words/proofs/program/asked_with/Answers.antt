use Rattle.std.proofs.Common.{Global, map, string_bytes}
use Rattle.std.proofs.lemmas.Result.{MatchResult-weaker}
use Rattle.clap.specs.Words.{app_of}
use Rattle.agent_words.proofs.Refused.{command_stated, none_stated, parse_failed}
use Rattle.agent_words.proofs.program.asked_with.Goals as goal

pub returns-in-Err-clause-refused : goal.returns-in-Err-clause-refused
returns-in-Err-clause-refused c =
    let words = map (string_bytes {Z = Global}) c.args.words.now in
    parse_failed (app_of c.args.agent.now) words c.in-Err.error c.requires.agent.words c.in-Err.ensures.kinds

pub returns-in-Ok : goal.returns-in-Ok
returns-in-Ok c =
    let words = map (string_bytes {Z = Global}) c.args.words.now in
    let a = app_of c.args.agent.now in
    let h = c.in-Ok.ensures in
    record {
      asked = MatchResult-weaker c.asked_of_matches.result c.asked_of_matches.ensures.asked (λ asked stated. command_stated a words c.in-Ok.matches asked c.requires.agent.words h.kinds h.ok.2 stated) (λ _ t. t);
      refused = MatchResult-weaker c.asked_of_matches.result c.asked_of_matches.ensures.refused (λ _ t. t) (λ e stated. none_stated a words c.in-Ok.matches e c.requires.agent.words h.kinds h.ok.2 stated);
    }
