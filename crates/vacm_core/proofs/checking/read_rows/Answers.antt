use Rattle.vacm_core.specs.Rules.{rules_of, BeginsRight}
use Rattle.vacm_core.proofs.Right.{reading_more, reading_begins, on_err}
use Rattle.vacm_core.proofs.checking.read_rows.Goals as goal

pub loop-row-preserved : goal.loop-row-preserved
loop-row-preserved g c =
    let w = g.W.WrittenRow in
    let rules = rules_of w.lengths w.fields w.row_of w.same_key in
    reading_more rules c.args.written c.loop-row.yielded c.loop-row.row-iterator.rest.items c.loop-row.row-iterator.rest.len c.loop-row.rows.items c.loop-row.invariant
    c.next.new.self.rest.items c.in-Some.row c.next.new.self.rest.len c.push.new.self.items c.in-Ok.row
    c.in-Some.ensures.steps.0 c.in-Some.ensures.steps.1 c.in-Ok.ensures c.in_ok-push-in-Ok.ensures.items

pub returns-in_err-push-in-Ok-clause-memory : goal.returns-in_err-push-in-Ok-clause-memory
returns-in_err-push-in-Ok-clause-memory g c =
    let w = g.W.WrittenRow in
    let rules = rules_of w.lengths w.fields w.row_of w.same_key in
    on_err c.from_residual.result (BeginsRight rules c.args.written)
    (reading_begins rules c.args.written c.loop-row.yielded c.loop-row.row-iterator.rest.items c.loop-row.row-iterator.rest.len c.loop-row.rows.items c.loop-row.invariant
    c.next.new.self.rest.items c.in-Some.row c.in-Ok.row c.in-Some.ensures.steps.0 c.in-Ok.ensures)
