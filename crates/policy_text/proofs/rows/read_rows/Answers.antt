use Rattle.std.proofs.Common.{subst}
use Rattle.std.proofs.lemmas.Result.{MatchResult-from_err}
use Rattle.toml.specs.View.{view}
use Rattle.policy_text.proofs.RowLemmas.{rows_step}
use Rattle.policy_text.proofs.Begins.{begins_typed}
use Rattle.policy_text.proofs.rows.read_rows.Goals as goal

pub loop-n-preserved : goal.loop-n-preserved
loop-n-preserved g c = record {
  so_far = rows_step g.T.Read.says c.args.values.now.items c.deref-value-items.result.now c.loop-n.n c.value-item.result
      c.loop-n.rows.items c.push.new.self.items c.in_ok-row.field-0 c.in-Some.row
      c.deref-value-items.ensures.value c.value-item.is c.loop-n-test.true c.loop-n.invariant.so_far c.in_ok-row.ensures.row c.in-Some.is c.in_ok-push-in-Some.ensures.items;
  begun = λ _. begins_typed g.T.Read.typed c.args.values.now.items c.deref-value-items.result.now c.loop-n.n c.value-item.result
      c.deref-value-items.ensures.value c.value-item.is c.loop-n-test.true c.loop-n.invariant.begun
      (g.met.T.Read.says_typed (view c.value-item.result) c.in-Some.row
      (subst (λ o. g.T.Read.says (view c.value-item.result) o) c.in-Some.is c.in_ok-row.ensures.row));
}

pub returns-in_err-row-clause-memory : goal.returns-in_err-row-clause-memory
returns-in_err-row-clause-memory g c =
    MatchResult-from_err c.from_residual.result _ _ c.from_residual.ensures.0 (λ e _. begins_typed g.T.Read.typed c.args.values.now.items c.deref-value-items.result.now c.loop-n.n c.value-item.result
    c.deref-value-items.ensures.value c.value-item.is c.loop-n-test.true c.loop-n.invariant.begun c.in_err-row.ensures.memory)

pub returns-in_err-push-in-Some-clause-memory : goal.returns-in_err-push-in-Some-clause-memory
returns-in_err-push-in-Some-clause-memory g c =
    MatchResult-from_err c.from_residual-in_err-push-in-Some.result _ _ c.from_residual-in_err-push-in-Some.ensures.0 (λ e _. begins_typed g.T.Read.typed c.args.values.now.items c.deref-value-items.result.now c.loop-n.n c.value-item.result
    c.deref-value-items.ensures.value c.value-item.is c.loop-n-test.true c.loop-n.invariant.begun
    (g.met.T.Read.says_typed (view c.value-item.result) c.in-Some.row
    (subst (λ o. g.T.Read.says (view c.value-item.result) o) c.in-Some.is c.in_ok-row.ensures.row)))
