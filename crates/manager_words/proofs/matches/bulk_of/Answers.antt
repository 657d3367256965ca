use Rattle.std.proofs.Common.{codes}
use Rattle.message_core.specs.declared.request.Kind.TheVariants as kind
use Rattle.clap.specs.Words.{one_of}
use Rattle.manager_words.specs.Requests.{AreNames, IsBulkNumber, IsBulkOf, rows_in}
use Rattle.manager_words.proofs.Asks.{asks_of, bulk_asks, one_names}
use Rattle.manager_words.proofs.Given.{bulk_kept}
use Rattle.manager_words.proofs.Passed.{passed}
use Rattle.manager_words.proofs.matches.bulk_of.Goals as goal

pub returns-in_err-first-clause-read : goal.returns-in_err-first-clause-read
returns-in_err-first-clause-read c =
    let rows = rows_in c.args.request.now in
    passed (IsBulkNumber (one_of (codes "N") rows)) (IsBulkOf c.args.community rows) (λ e is. (is.first, is.is_first)) c.in_err-first.field-0.0 c.from_residual.result c.in_err-first.ensures c.from_residual.ensures.1

pub returns-in_err-second-clause-read : goal.returns-in_err-second-clause-read
returns-in_err-second-clause-read c =
    let rows = rows_in c.args.request.now in
    passed (IsBulkNumber (one_of (codes "M") rows)) (IsBulkOf c.args.community rows) (λ e is. (is.second, is.is_second)) c.in_err-second.field-0.0 c.from_residual-in_err-second.result c.in_err-second.ensures c.from_residual-in_err-second.ensures.1

pub returns-in_err-bindings-clause-read : goal.returns-in_err-bindings-clause-read
returns-in_err-bindings-clause-read c =
    let rows = rows_in c.args.request.now in
    passed (AreNames rows) (IsBulkOf c.args.community rows) (λ e is. (is.asks.bindings, is.asks.given)) c.in_err-bindings.field-0.0 c.from_residual-in_err-bindings.result c.in_err-bindings.ensures.read c.from_residual-in_err-bindings.ensures.1

pub returns-clause-read : goal.returns-clause-read
returns-clause-read c =
    let rows = rows_in c.args.request.now in
    let first = c.in_ok-first.first in
    let second = c.in_ok-second.second in
    let kept = bulk_kept (one_of (codes "N") rows) first c.in_ok-first.ensures in
    let kept' = bulk_kept (one_of (codes "M") rows) second c.in_ok-second.ensures in
    bulk_asks c.args.community rows first second c.asking.result c.in_ok-first.ensures c.in_ok-second.ensures
    (asks_of kind.GetBulk c.args.community first second (AreNames rows) (one_names rows) c.in_ok-bindings.bindings c.asking.result c.in_ok-bindings.ensures.read (rw (kept, kept') at c.asking.ensures.read))
