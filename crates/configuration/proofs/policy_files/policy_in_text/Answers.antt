use Rattle.std.proofs.Common.{◌≡◌, Some, rules}
use Rattle.toml.specs.Parse.{parse_document}
use Rattle.toml.specs.View.{table_view}
use Rattle.configuration.proofs.BlankLemmas.{policy_taken}
use Rattle.configuration.proofs.policy_files.policy_in_text.Goals as goal

pub returns-in-Ok-clause-memory : goal.returns-in-Ok-clause-memory
returns-in-Ok-clause-memory c =
    let ms = table_view c.in-Ok.table in
    let read : parse_document c.args.text.now ≡ Some ms = search rules in
    policy_taken c.args.text.now ms c.policy_in_table.result read c.policy_in_table.ensures.memory
