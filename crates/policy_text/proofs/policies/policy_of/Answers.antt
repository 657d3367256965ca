use Rattle.std.proofs.Common.{inl, rules, ◌≢◌, ◌⊎◌}
use Rattle.std.specs.Prelude.{IfOk, IfErr}
use Rattle.std.proofs.lemmas.Result.{err_from_is_err_and}
use Rattle.toml.specs.View.{table_view}
use Rattle.community_core.specs.declared.fault.PolicyFault.TheVariants.{Memory}
use Rattle.policy_text.specs.Policies.{IsUnread, IsPolicy, IsWrongPolicy}
use Rattle.policy_text.proofs.StatedLemmas.{unread_reported, stated_if, refused_if}
use Rattle.policy_text.proofs.Taking.{memory_by, reading_takes}
use Rattle.policy_text.proofs.policies.policy_of.Goals as goal

pub returns-in_err-rows-clause-fault : goal.returns-in_err-rows-clause-fault
returns-in_err-rows-clause-fault c =
    let p = err_from_is_err_and c.from_residual.result c.from_residual.ensures.1 in
    rw (p.1, p.2) (λ other. inl (c.in_err-rows.ensures.fault other))

pub returns-in_err-rows-clause-refused : goal.returns-in_err-rows-clause-refused
returns-in_err-rows-clause-refused c =
    let p = err_from_is_err_and c.from_residual.result c.from_residual.ensures.1 in
    rw (p.1, p.2) (λ other. unread_reported (table_view c.args.table.now) c.in_err-rows.field-0.0 (c.in_err-rows.ensures.fault other))

pub returns-in_err-rows-clause-memory : goal.returns-in_err-rows-clause-memory
returns-in_err-rows-clause-memory c =
    let p = err_from_is_err_and c.from_residual.result c.from_residual.ensures.1 in
    rw (p.1, p.2) (λ other. reading_takes (table_view c.args.table.now) (c.in_err-rows.ensures.memory other))

pub returns-clause-stated : goal.returns-clause-stated
returns-clause-stated c =
    let ms = table_view c.args.table.now in
    let found : IfOk c.policy_of_rows.result (λ p. IsPolicy ms p) = search rules in
    stated_if ms c.policy_of_rows.result found

pub returns-clause-refused : goal.returns-clause-refused
returns-clause-refused c =
    let ms = table_view c.args.table.now in
    let found : IfErr c.policy_of_rows.result (λ e. e ≢ Memory → IsUnread ms e ⊎ IsWrongPolicy ms e) = search rules in
    refused_if ms c.policy_of_rows.result found

pub returns-clause-memory : goal.returns-clause-memory
returns-clause-memory c = memory_by (table_view c.args.table.now) c.in_ok-rows.rows c.policy_of_rows.result c.in_ok-rows.ensures.rows c.policy_of_rows.ensures.memory
