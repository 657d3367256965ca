use Rattle.std.proofs.Common.{Global, map, string_bytes}
use Rattle.std.proofs.lemmas.Result.{MatchResult-weaker}
use Rattle.clap.specs.Words.{app_of}
use Rattle.manager_words.proofs.Refused.{command_stated, none_stated, parse_failed}
use Rattle.manager_words.proofs.program.command_with.Goals as goal

pub returns-in-Err-clause-refused : goal.returns-in-Err-clause-refused
returns-in-Err-clause-refused c =
    let words = map (string_bytes {Z = Global}) c.args.words.now in
    parse_failed (app_of c.args.manager.now) words c.in-Err.error c.requires.manager.words c.in-Err.ensures.kinds

pub returns-in-Ok : goal.returns-in-Ok
returns-in-Ok c =
    let words = map (string_bytes {Z = Global}) c.args.words.now in
    let a = app_of c.args.manager.now in
    let h = c.in-Ok.ensures in
    record {
      read = MatchResult-weaker c.command_of_matches.result c.command_of_matches.ensures.read (λ command stated. command_stated a words c.in-Ok.matches command c.requires.manager.words h.kinds h.ok.2 stated) (λ _ t. t);
      refused = MatchResult-weaker c.command_of_matches.result c.command_of_matches.ensures.refused (λ _ t. t) (λ e stated. none_stated a words c.in-Ok.matches e c.requires.manager.words h.kinds h.ok.2 stated);
      askable = c.command_of_matches.ensures.askable;
    }
