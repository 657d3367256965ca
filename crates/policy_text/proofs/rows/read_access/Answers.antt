use Rattle.std.proofs.Common.{◌≡◌, ◌∙◌, ℕ, ℤ, Bool, List, Some, codes, refl, sym}
use Rattle.std.specs.Prelude.{IsSome}
use Rattle.std.proofs.lemmas.Result.{MatchResult-from_err}
use Rattle.toml.specs.Data.{Members}
use Rattle.toml.specs.View.{table_view}
use Rattle.policy_text.specs.Keys.{key_count, string_at, integer_at, bool_at}
use Rattle.policy_text.specs.Reading.{access_members}
use Rattle.policy_text.proofs.rows.read_access.Goals as goal

-- eight keys, each of its type, are typed as a row
typed : (ms : Members) (group prefix : List ℕ) (model level : ℤ) (exact : Bool) (read write notify : List ℕ) → key_count ms ≡ 8 → Some group ≡ string_at (codes "group") ms → Some prefix ≡ string_at (codes "prefix") ms → Some model ≡ integer_at (codes "model") ms → Some level ≡ integer_at (codes "level") ms → Some exact ≡ bool_at (codes "exact") ms → Some read ≡ string_at (codes "read") ms → Some write ≡ string_at (codes "write") ms → Some notify ≡ string_at (codes "notify") ms → IsSome (access_members ms)
typed ms group prefix model level exact read write notify keys is_group is_prefix is_model is_level is_exact is_read is_write is_notify =
    rw (keys, ← is_group, ← is_prefix, ← is_model, ← is_level, ← is_exact, ← is_read, ← is_write, ← is_notify) refl

pub returns-in_err-new-clause-memory : goal.returns-in_err-new-clause-memory
returns-in_err-new-clause-memory c =
    MatchResult-from_err c.from_residual.result _ _ c.from_residual.ensures.0 (λ _. typed (table_view c.args.table.now) c.in-Some.group.now c.in-Some-string_at.prefix.now c.in-Some-integer_at.model c.in-Some-integer_at-2.level c.in-Some-bool_at.exact c.in-Some-string_at-2.read.now c.in-Some-string_at-3.write.now c.in-Some-string_at-4.notify.now (sym c.key_count.ensures ∙ c.if-key_count-ne8.false) c.in-Some.ensures c.in-Some-string_at.ensures c.in-Some-integer_at.ensures c.in-Some-integer_at-2.ensures c.in-Some-bool_at.ensures c.in-Some-string_at-2.ensures c.in-Some-string_at-3.ensures c.in-Some-string_at-4.ensures)

pub returns-in_err-new-2-clause-memory : goal.returns-in_err-new-2-clause-memory
returns-in_err-new-2-clause-memory c =
    MatchResult-from_err c.from_residual-in_err-new-2.result _ _ c.from_residual-in_err-new-2.ensures.0 (λ _. typed (table_view c.args.table.now) c.in-Some.group.now c.in-Some-string_at.prefix.now c.in-Some-integer_at.model c.in-Some-integer_at-2.level c.in-Some-bool_at.exact c.in-Some-string_at-2.read.now c.in-Some-string_at-3.write.now c.in-Some-string_at-4.notify.now (sym c.key_count.ensures ∙ c.if-key_count-ne8.false) c.in-Some.ensures c.in-Some-string_at.ensures c.in-Some-integer_at.ensures c.in-Some-integer_at-2.ensures c.in-Some-bool_at.ensures c.in-Some-string_at-2.ensures c.in-Some-string_at-3.ensures c.in-Some-string_at-4.ensures)

pub returns-in_err-new-3-clause-memory : goal.returns-in_err-new-3-clause-memory
returns-in_err-new-3-clause-memory c =
    MatchResult-from_err c.from_residual-in_err-new-3.result _ _ c.from_residual-in_err-new-3.ensures.0 (λ _. typed (table_view c.args.table.now) c.in-Some.group.now c.in-Some-string_at.prefix.now c.in-Some-integer_at.model c.in-Some-integer_at-2.level c.in-Some-bool_at.exact c.in-Some-string_at-2.read.now c.in-Some-string_at-3.write.now c.in-Some-string_at-4.notify.now (sym c.key_count.ensures ∙ c.if-key_count-ne8.false) c.in-Some.ensures c.in-Some-string_at.ensures c.in-Some-integer_at.ensures c.in-Some-integer_at-2.ensures c.in-Some-bool_at.ensures c.in-Some-string_at-2.ensures c.in-Some-string_at-3.ensures c.in-Some-string_at-4.ensures)

pub returns-in_err-new-4-clause-memory : goal.returns-in_err-new-4-clause-memory
returns-in_err-new-4-clause-memory c =
    MatchResult-from_err c.from_residual-in_err-new-4.result _ _ c.from_residual-in_err-new-4.ensures.0 (λ _. typed (table_view c.args.table.now) c.in-Some.group.now c.in-Some-string_at.prefix.now c.in-Some-integer_at.model c.in-Some-integer_at-2.level c.in-Some-bool_at.exact c.in-Some-string_at-2.read.now c.in-Some-string_at-3.write.now c.in-Some-string_at-4.notify.now (sym c.key_count.ensures ∙ c.if-key_count-ne8.false) c.in-Some.ensures c.in-Some-string_at.ensures c.in-Some-integer_at.ensures c.in-Some-integer_at-2.ensures c.in-Some-bool_at.ensures c.in-Some-string_at-2.ensures c.in-Some-string_at-3.ensures c.in-Some-string_at-4.ensures)

pub returns-in_err-new-5-clause-memory : goal.returns-in_err-new-5-clause-memory
returns-in_err-new-5-clause-memory c =
    MatchResult-from_err c.from_residual-in_err-new-5.result _ _ c.from_residual-in_err-new-5.ensures.0 (λ _. typed (table_view c.args.table.now) c.in-Some.group.now c.in-Some-string_at.prefix.now c.in-Some-integer_at.model c.in-Some-integer_at-2.level c.in-Some-bool_at.exact c.in-Some-string_at-2.read.now c.in-Some-string_at-3.write.now c.in-Some-string_at-4.notify.now (sym c.key_count.ensures ∙ c.if-key_count-ne8.false) c.in-Some.ensures c.in-Some-string_at.ensures c.in-Some-integer_at.ensures c.in-Some-integer_at-2.ensures c.in-Some-bool_at.ensures c.in-Some-string_at-2.ensures c.in-Some-string_at-3.ensures c.in-Some-string_at-4.ensures)
