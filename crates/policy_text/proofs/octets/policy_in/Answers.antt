use Rattle.std.proofs.Common.{◌≡◌, Some, sym, rules}
use Rattle.std.proofs.lemmas.Result.{on_err_weaker}
use Rattle.toml.specs.Parse.{parse_document}
use Rattle.toml.specs.View.{table_view}
use Rattle.policy_text.proofs.BlankLemmas.{not_blank, has_content}
use Rattle.policy_text.proofs.octets.policy_in.Goals as goal

pub returns-in-Some-2-clause-memory : goal.returns-in-Some-2-clause-memory
returns-in-Some-2-clause-memory c =
    let text = c.in-Some.text.now in
    let ms = table_view c.in-Some-2.table in
    let read : parse_document text ≡ Some ms = search rules in
    on_err_weaker c.policy_stated.result (λ takes.
    has_content c.args.octets.now text (sym c.in-Some.ensures) (not_blank text ms read takes)) c.policy_stated.ensures.memory
