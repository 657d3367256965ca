use Rattle.std.proofs.Common.{◌≡◌, ◌∙◌, ℕ, Bool, List, Some, codes, refl, sym}
use Rattle.std.specs.Prelude.{IsSome}
use Rattle.std.proofs.lemmas.Result.{MatchResult-from_err}
use Rattle.toml.specs.Data.{Members}
use Rattle.toml.specs.View.{table_view}
use Rattle.policy_text.specs.Keys.{key_count, string_at, bool_at}
use Rattle.policy_text.specs.Reading.{family_members}
use Rattle.policy_text.proofs.rows.family_texts.Goals as goal

-- four keys, each of its type, are typed as a row
typed : (ms : Members) (view subtree mask : List ℕ) (included : Bool) → key_count ms ≡ 4 → Some view ≡ string_at (codes "view") ms → Some subtree ≡ string_at (codes "subtree") ms → Some mask ≡ string_at (codes "mask") ms → Some included ≡ bool_at (codes "included") ms → IsSome (family_members ms)
typed ms view subtree mask included keys is_view is_subtree is_mask is_included =
    rw (keys, ← is_view, ← is_subtree, ← is_mask, ← is_included) refl

pub returns-in_err-new-clause-memory : goal.returns-in_err-new-clause-memory
returns-in_err-new-clause-memory c =
    MatchResult-from_err c.from_residual.result _ _ c.from_residual.ensures.0 (λ _. typed (table_view c.args.table.now) c.in-Some.view.now c.in-Some-string_at.subtree.now c.in-Some-string_at-2.mask.now c.in-Some-bool_at.included (sym c.key_count.ensures ∙ c.if-key_count-ne4.false) c.in-Some.ensures c.in-Some-string_at.ensures c.in-Some-string_at-2.ensures c.in-Some-bool_at.ensures)

pub returns-in_err-new-2-clause-memory : goal.returns-in_err-new-2-clause-memory
returns-in_err-new-2-clause-memory c =
    MatchResult-from_err c.from_residual-in_err-new-2.result _ _ c.from_residual-in_err-new-2.ensures.0 (λ _. typed (table_view c.args.table.now) c.in-Some.view.now c.in-Some-string_at.subtree.now c.in-Some-string_at-2.mask.now c.in-Some-bool_at.included (sym c.key_count.ensures ∙ c.if-key_count-ne4.false) c.in-Some.ensures c.in-Some-string_at.ensures c.in-Some-string_at-2.ensures c.in-Some-bool_at.ensures)

pub returns-in_err-new-3-clause-memory : goal.returns-in_err-new-3-clause-memory
returns-in_err-new-3-clause-memory c =
    MatchResult-from_err c.from_residual-in_err-new-3.result _ _ c.from_residual-in_err-new-3.ensures.0 (λ _. typed (table_view c.args.table.now) c.in-Some.view.now c.in-Some-string_at.subtree.now c.in-Some-string_at-2.mask.now c.in-Some-bool_at.included (sym c.key_count.ensures ∙ c.if-key_count-ne4.false) c.in-Some.ensures c.in-Some-string_at.ensures c.in-Some-string_at-2.ensures c.in-Some-bool_at.ensures)
