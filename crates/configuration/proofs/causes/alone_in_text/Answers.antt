use Rattle.std.proofs.Common.{◌≡◌, Some, rules}
use Rattle.std.proofs.lemmas.Result.{on_err_weaker}
use Rattle.toml.specs.Parse.{parse_document}
use Rattle.toml.specs.View.{table_view}
use Rattle.configuration.proofs.CauseLemmas.{keys_not_blank, no_document}
use Rattle.configuration.proofs.causes.alone_in_text.Goals as goal

pub returns-in-Ok-clause-memory : goal.returns-in-Ok-clause-memory
returns-in-Ok-clause-memory c =
    let text = c.args.text.now in
    let ms = table_view c.in-Ok.table in
    let read : parse_document text ≡ Some ms = search rules in
    on_err_weaker c.alone_in_table.result (λ keys. keys_not_blank text ms read keys) c.alone_in_table.ensures.memory

pub returns-in_ok-line_cause-in-Err-clause-text : goal.returns-in_ok-line_cause-in-Err-clause-text
returns-in_ok-line_cause-in-Err-clause-text c =
    let line = c.in_ok-line_cause-in-Err.ensures.line in
    no_document c.args.text.now c.in_ok-line_cause-in-Err.field-0 (c.in-Err.ensures.refused line.0) line.1
