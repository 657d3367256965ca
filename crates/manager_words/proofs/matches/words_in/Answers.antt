use Rattle.std.proofs.Common.{◌∙◌, List, ℕ, ap, map}
use Rattle.std.specs.Prelude.{option_map}
use Rattle.std.specs.Borrow.{Bor}
use Rattle.clap.specs.Words.{found_of}
use Rattle.manager_words.proofs.Given.{words_given}
use Rattle.manager_words.proofs.matches.words_in.Goals as goal

pub returns-in-Some-clause-words : goal.returns-in-Some-clause-words
returns-in-Some-clause-words c =
    words_given (found_of c.args.matches.now) c.args.id.now c.get_strs.result c.get_strs.ensures ∙ ap (option_map (λ (s : Bor (List (Bor (List ℕ)))). map (λ v. v.now) s.now)) c.in-Some.is

pub returns-in-None-clause-none : goal.returns-in-None-clause-none
returns-in-None-clause-none c =
    words_given (found_of c.args.matches.now) c.args.id.now c.get_strs.result c.get_strs.ensures ∙ ap (option_map (λ (s : Bor (List (Bor (List ℕ)))). map (λ v. v.now) s.now)) c.in-None.is
