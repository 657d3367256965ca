use Rattle.std.proofs.Common.{pos}
use Rattle.message_core.specs.declared.request.Kind.TheVariants as kind
use Rattle.manager_words.specs.Requests.{IsAskOf, AreSettings, rows_in}
use Rattle.manager_words.proofs.Asks.{asks_of, one_settings}
use Rattle.manager_words.proofs.Passed.{passed}
use Rattle.manager_words.proofs.matches.set_of.Goals as goal

pub returns-in_err-bindings-clause-read : goal.returns-in_err-bindings-clause-read
returns-in_err-bindings-clause-read c =
    let are = AreSettings (rows_in c.args.request.now) in
    passed are (IsAskOf kind.Set c.args.community (pos 0) (pos 0) are) (λ e is. (is.bindings, is.given)) c.in_err-bindings.field-0.0 c.from_residual.result c.in_err-bindings.ensures.read c.from_residual.ensures.1

pub returns-clause-read : goal.returns-clause-read
returns-clause-read c =
    let are = AreSettings (rows_in c.args.request.now) in
    asks_of kind.Set c.args.community (pos 0) (pos 0) are (one_settings (rows_in c.args.request.now)) c.in_ok-bindings.bindings c.asking.result c.in_ok-bindings.ensures.read c.asking.ensures.read
