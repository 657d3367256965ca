use Rattle.std.proofs.lemmas.Result.{err_from_is_err_and}
use Rattle.toml.specs.View.{table_view}
use Rattle.configuration.specs.PolicyKeys.{HasKeys}
use Rattle.configuration.proofs.PolicyFaults.{values_fault}
use Rattle.configuration.proofs.reading.rest_policy.Goals as goal

pub returns-in_err-policy_of-clause-fault : goal.returns-in_err-policy_of-clause-fault
returns-in_err-policy_of-clause-fault c =
    let ms = table_view c.args.table.now in
    let p = err_from_is_err_and c.from_residual.result c.from_residual.ensures.1 in
    let keys : HasKeys ms = c.in_default.ensures.right in
    rw (p.1, p.2) (values_fault ms c.in_err-policy_of.field-0.0 keys c.in_err-policy_of.ensures.fault)
