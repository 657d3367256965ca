use Rattle.std.proofs.Common.{pos}
use Rattle.manager_words.specs.Requests.{IsAskOf, AreNames, rows_in}
use Rattle.manager_words.proofs.Asks.{asks_of, one_names}
use Rattle.manager_words.proofs.Passed.{passed}
use Rattle.manager_words.proofs.matches.ask_of.Goals as goal

pub returns-in_err-bindings-clause-read : goal.returns-in_err-bindings-clause-read
returns-in_err-bindings-clause-read c =
    let are = AreNames (rows_in c.args.request.now) in
    passed are (IsAskOf c.args.kind c.args.community (pos 0) (pos 0) are) (λ e is. (is.bindings, is.given)) c.in_err-bindings.field-0.0 c.from_residual.result c.in_err-bindings.ensures.read c.from_residual.ensures.1

pub returns-clause-read : goal.returns-clause-read
returns-clause-read c =
    let are = AreNames (rows_in c.args.request.now) in
    asks_of c.args.kind c.args.community (pos 0) (pos 0) are (one_names (rows_in c.args.request.now)) c.in_ok-bindings.bindings c.asking.result c.in_ok-bindings.ensures.read c.asking.ensures.read
