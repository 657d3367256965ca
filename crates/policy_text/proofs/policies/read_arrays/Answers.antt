use Rattle.std.proofs.Common.{◌≡◌, ◌≢◌, Result, Ok, Err, IfErr, inl, inr, subst, sym}
use Rattle.std.specs.Prelude.{IsErrAnd}
use Rattle.community_core.specs.declared.fault.PolicyFault.{PolicyFault}
use Rattle.community_core.specs.declared.fault.PolicyFault.TheVariants.{Memory}
use Rattle.policy_text.specs.Policies.{IsUnreadOf, ReadingTakesMemoryOf, arrays_in}
use Rattle.policy_text.proofs.policies.read_arrays.Goals as goal

-- a fault that is handed on
handed_on : {T : Type 0} (r : Result T PolicyFault) (e : PolicyFault) (P : PolicyFault → Type 0) → IsErrAnd r (λ f. f ≡ e) → P e → IfErr r P
handed_on (Ok x) e P same here = absurd same
handed_on (Err f) e P same here = subst P (sym same) here

pub returns-in_err-groups-clause-fault : goal.returns-in_err-groups-clause-fault
returns-in_err-groups-clause-fault c =
    handed_on c.from_residual.result c.in_err-groups.field-0.0 (λ e. e ≢ Memory → IsUnreadOf (arrays_in c.args.arrays.now) e) c.from_residual.ensures.1 (λ other. inl (c.in_err-groups.ensures.fault other))

pub returns-in_err-groups-clause-memory : goal.returns-in_err-groups-clause-memory
returns-in_err-groups-clause-memory c =
    handed_on c.from_residual.result c.in_err-groups.field-0.0 (λ e. e ≡ Memory → ReadingTakesMemoryOf (arrays_in c.args.arrays.now)) c.from_residual.ensures.1 (λ other. inl (c.in_err-groups.ensures.memory other))

pub returns-in_err-access-clause-fault : goal.returns-in_err-access-clause-fault
returns-in_err-access-clause-fault c =
    handed_on c.from_residual-in_err-access.result c.in_err-access.field-0.0 (λ e. e ≢ Memory → IsUnreadOf (arrays_in c.args.arrays.now) e) c.from_residual-in_err-access.ensures.1 (λ other. inr (inl ((c.in_ok-groups.groups, c.in_ok-groups.ensures.rows), c.in_err-access.ensures.fault other)))

pub returns-in_err-access-clause-memory : goal.returns-in_err-access-clause-memory
returns-in_err-access-clause-memory c =
    handed_on c.from_residual-in_err-access.result c.in_err-access.field-0.0 (λ e. e ≡ Memory → ReadingTakesMemoryOf (arrays_in c.args.arrays.now)) c.from_residual-in_err-access.ensures.1 (λ other. inr (inl ((c.in_ok-groups.groups, c.in_ok-groups.ensures.rows), c.in_err-access.ensures.memory other)))

pub returns-in_err-families-clause-fault : goal.returns-in_err-families-clause-fault
returns-in_err-families-clause-fault c =
    handed_on c.from_residual-in_err-families.result c.in_err-families.field-0.0 (λ e. e ≢ Memory → IsUnreadOf (arrays_in c.args.arrays.now) e) c.from_residual-in_err-families.ensures.1 (λ other. inr (inr (inl ((c.in_ok-groups.groups, c.in_ok-groups.ensures.rows), (c.in_ok-access.access, c.in_ok-access.ensures.rows), c.in_err-families.ensures.fault other))))

pub returns-in_err-families-clause-memory : goal.returns-in_err-families-clause-memory
returns-in_err-families-clause-memory c =
    handed_on c.from_residual-in_err-families.result c.in_err-families.field-0.0 (λ e. e ≡ Memory → ReadingTakesMemoryOf (arrays_in c.args.arrays.now)) c.from_residual-in_err-families.ensures.1 (λ other. inr (inr (inl ((c.in_ok-groups.groups, c.in_ok-groups.ensures.rows), (c.in_ok-access.access, c.in_ok-access.ensures.rows), c.in_err-families.ensures.memory other))))

pub returns-in_err-contexts-clause-fault : goal.returns-in_err-contexts-clause-fault
returns-in_err-contexts-clause-fault c =
    handed_on c.from_residual-in_err-contexts.result c.in_err-contexts.field-0.0 (λ e. e ≢ Memory → IsUnreadOf (arrays_in c.args.arrays.now) e) c.from_residual-in_err-contexts.ensures.1 (λ other. inr (inr (inr (inl ((c.in_ok-groups.groups, c.in_ok-groups.ensures.rows), (c.in_ok-access.access, c.in_ok-access.ensures.rows), (c.in_ok-families.families, c.in_ok-families.ensures.rows), c.in_err-contexts.ensures.fault other)))))

pub returns-in_err-contexts-clause-memory : goal.returns-in_err-contexts-clause-memory
returns-in_err-contexts-clause-memory c =
    handed_on c.from_residual-in_err-contexts.result c.in_err-contexts.field-0.0 (λ e. e ≡ Memory → ReadingTakesMemoryOf (arrays_in c.args.arrays.now)) c.from_residual-in_err-contexts.ensures.1 (λ other. inr (inr (inr (inl ((c.in_ok-groups.groups, c.in_ok-groups.ensures.rows), (c.in_ok-access.access, c.in_ok-access.ensures.rows), (c.in_ok-families.families, c.in_ok-families.ensures.rows), c.in_err-contexts.ensures.memory other)))))

pub returns-in_err-communities-clause-fault : goal.returns-in_err-communities-clause-fault
returns-in_err-communities-clause-fault c =
    handed_on c.from_residual-in_err-communities.result c.in_err-communities.field-0.0 (λ e. e ≢ Memory → IsUnreadOf (arrays_in c.args.arrays.now) e) c.from_residual-in_err-communities.ensures.1 (λ other. inr (inr (inr (inr ((c.in_ok-groups.groups, c.in_ok-groups.ensures.rows), (c.in_ok-access.access, c.in_ok-access.ensures.rows), (c.in_ok-families.families, c.in_ok-families.ensures.rows), (c.in_ok-contexts.contexts, c.in_ok-contexts.ensures.rows), c.in_err-communities.ensures.fault other)))))

pub returns-in_err-communities-clause-memory : goal.returns-in_err-communities-clause-memory
returns-in_err-communities-clause-memory c =
    handed_on c.from_residual-in_err-communities.result c.in_err-communities.field-0.0 (λ e. e ≡ Memory → ReadingTakesMemoryOf (arrays_in c.args.arrays.now)) c.from_residual-in_err-communities.ensures.1 (λ other. inr (inr (inr (inr ((c.in_ok-groups.groups, c.in_ok-groups.ensures.rows), (c.in_ok-access.access, c.in_ok-access.ensures.rows), (c.in_ok-families.families, c.in_ok-families.ensures.rows), (c.in_ok-contexts.contexts, c.in_ok-contexts.ensures.rows), c.in_err-communities.ensures.memory other)))))
