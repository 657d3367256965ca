use Rattle.std.proofs.Common.{◌≡◌, ◌∙◌, ℕ, List, Some, codes, refl, sym}
use Rattle.std.specs.Prelude.{IsSome}
use Rattle.std.proofs.lemmas.Result.{MatchResult-from_err}
use Rattle.toml.specs.Data.{Members}
use Rattle.toml.specs.View.{table_view}
use Rattle.policy_text.specs.Keys.{key_count, string_at}
use Rattle.policy_text.specs.Reading.{community_members}
use Rattle.policy_text.proofs.rows.read_community.Goals as goal

-- four keys, each of its type, are typed as a row
typed : (ms : Members) (index name security context : List ℕ) → key_count ms ≡ 4 → Some index ≡ string_at (codes "index") ms → Some name ≡ string_at (codes "name") ms → Some security ≡ string_at (codes "security") ms → Some context ≡ string_at (codes "context") ms → IsSome (community_members ms)
typed ms index name security context keys is_index is_name is_security is_context =
    rw (keys, ← is_index, ← is_name, ← is_security, ← is_context) refl

pub returns-in_err-new-clause-memory : goal.returns-in_err-new-clause-memory
returns-in_err-new-clause-memory c =
    MatchResult-from_err c.from_residual.result _ _ c.from_residual.ensures.0 (λ _. typed (table_view c.args.table.now) c.in-Some.index.now c.in-Some-string_at.name.now c.in-Some-string_at-2.security.now c.in-Some-string_at-3.context.now (sym c.key_count.ensures ∙ c.if-key_count-ne4.false) c.in-Some.ensures c.in-Some-string_at.ensures c.in-Some-string_at-2.ensures c.in-Some-string_at-3.ensures)

pub returns-in_err-new-2-clause-memory : goal.returns-in_err-new-2-clause-memory
returns-in_err-new-2-clause-memory c =
    MatchResult-from_err c.from_residual-in_err-new-2.result _ _ c.from_residual-in_err-new-2.ensures.0 (λ _. typed (table_view c.args.table.now) c.in-Some.index.now c.in-Some-string_at.name.now c.in-Some-string_at-2.security.now c.in-Some-string_at-3.context.now (sym c.key_count.ensures ∙ c.if-key_count-ne4.false) c.in-Some.ensures c.in-Some-string_at.ensures c.in-Some-string_at-2.ensures c.in-Some-string_at-3.ensures)

pub returns-in_err-new-3-clause-memory : goal.returns-in_err-new-3-clause-memory
returns-in_err-new-3-clause-memory c =
    MatchResult-from_err c.from_residual-in_err-new-3.result _ _ c.from_residual-in_err-new-3.ensures.0 (λ _. typed (table_view c.args.table.now) c.in-Some.index.now c.in-Some-string_at.name.now c.in-Some-string_at-2.security.now c.in-Some-string_at-3.context.now (sym c.key_count.ensures ∙ c.if-key_count-ne4.false) c.in-Some.ensures c.in-Some-string_at.ensures c.in-Some-string_at-2.ensures c.in-Some-string_at-3.ensures)

pub returns-in_err-new-4-clause-memory : goal.returns-in_err-new-4-clause-memory
returns-in_err-new-4-clause-memory c =
    MatchResult-from_err c.from_residual-in_err-new-4.result _ _ c.from_residual-in_err-new-4.ensures.0 (λ _. typed (table_view c.args.table.now) c.in-Some.index.now c.in-Some-string_at.name.now c.in-Some-string_at-2.security.now c.in-Some-string_at-3.context.now (sym c.key_count.ensures ∙ c.if-key_count-ne4.false) c.in-Some.ensures c.in-Some-string_at.ensures c.in-Some-string_at-2.ensures c.in-Some-string_at-3.ensures)
