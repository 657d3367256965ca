use Rattle.std.proofs.Common.{codes, map}
use Rattle.manager_words.specs.Bindings.{IsAskedText}
use Rattle.manager_words.specs.Requests.{rows_in}
use Rattle.manager_words.proofs.Asks.{texts_given}
use Rattle.manager_words.proofs.matches.names_in.Goals as goal

pub returns-clause-read : goal.returns-clause-read
returns-clause-read c =
    texts_given IsAskedText (codes "NAME") (rows_in c.args.request.now) (map (λ word. word.now) c.in_ok-words.words.now) c.names_of.result c.in_ok-words.ensures.words c.names_of.ensures.read
