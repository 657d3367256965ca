use Rattle.toml.specs.View.{table_view}
use Rattle.configuration.specs.declared.causes.PolicyCause.TheVariants.{Keys}
use Rattle.configuration.proofs.CauseLemmas.{cause_reported}
use Rattle.configuration.proofs.causes.alone_in_table.Goals as goal

pub returns-in-Err-clause-table : goal.returns-in-Err-clause-table
returns-in-Err-clause-table c =
    let ms = table_view c.args.table.now in
    (cause_reported ms (Keys c.in-Err.key) c.in-Err.ensures.fault, c.in-Err.ensures.fault)

pub row_cause-requires : goal.row_cause-requires
row_cause-requires c = λ other. (c.in_default.ensures.right, c.in-Err-policy_of.ensures.fault other)

pub returns-in_ok-row_cause-in-Err-policy_of-clause-table :
    goal.returns-in_ok-row_cause-in-Err-policy_of-clause-table
returns-in_ok-row_cause-in-Err-policy_of-clause-table c =
    let ms = table_view c.args.table.now in
    let cause = c.in_ok-row_cause-in-Err-policy_of.field-0 in
    (cause_reported ms cause c.in_ok-row_cause-in-Err-policy_of.ensures, c.in_ok-row_cause-in-Err-policy_of.ensures)
