use Rattle.std.proofs.Common.{inl}
use Rattle.std.proofs.lemmas.Result.{err_from_is_err_and}
use Rattle.policy_text.proofs.VacmFaults.{vacm_fault}
use Rattle.policy_text.proofs.policies.policy_of_rows.Goals as goal

pub returns-in_err-vacm-clause-fault : goal.returns-in_err-vacm-clause-fault
returns-in_err-vacm-clause-fault c =
    let p = err_from_is_err_and c.from_residual.result c.from_residual.ensures.1 in
    rw (p.1, p.2) (λ other. inl (vacm_fault c.args.rows.vacm c.in_err-vacm.field-0.0 c.in_err-vacm.ensures.fault other))
