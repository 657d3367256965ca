use Rattle.std.proofs.Common.{ℕ, ◌<◌, List, Option, length, ap, subst, arith}
use Rattle.vacm_core.specs.declared.fault.Wrong.{Wrong}
use Rattle.vacm_core.specs.Repeats.{IsFirstRepeat}
use Rattle.vacm_core.specs.Rules.{rules_of, AreRead, BeginsRight}
use Rattle.vacm_core.proofs.Right.{if_memory, begins_where_read, repeat_fault, stop_fault, all_are_right}
use Rattle.vacm_core.proofs.checking.checked_rows.Goals as goal

pub returns-in_err-n-clause-memory : goal.returns-in_err-n-clause-memory
returns-in_err-n-clause-memory g c =
    let w = g.W.WrittenRow in
    let rules = rules_of w.lengths w.fields w.row_of w.same_key in
    let some : 0 < length c.in_ok-rows.rows = omega (arith, c.in_err-n.ensures.memory, ap length c.as_slice.ensures) in
    if_memory c.from_residual-in_err-n.result (BeginsRight rules c.args.written)
    (begins_where_read rules c.args.written c.in_ok-rows.rows c.in_ok-rows.wrong c.in_ok-rows.ensures.read some)

pub returns-in-Some-clause-fault : goal.returns-in-Some-clause-fault
returns-in-Some-clause-fault g c other =
    let w = g.W.WrittenRow in
    let rules = rules_of w.lengths w.fields w.row_of w.same_key in
    let rows = c.in_ok-rows.rows in
    let first = subst (λ (l : List g.row.W-Row.Denot). IsFirstRepeat w.same_key l c.in_ok-n.field-0) c.as_slice.ensures c.in_ok-n.ensures.first in
    repeat_fault rules c.args.table c.args.written rows c.in_ok-rows.wrong c.in_ok-rows.ensures.read c.in-Some.n
    (subst (λ (o : Option ℕ). IsFirstRepeat w.same_key rows o) c.in-Some.is first)

pub returns-in-Some-wrong-clause-fault : goal.returns-in-Some-wrong-clause-fault
returns-in-Some-wrong-clause-fault g c other =
    let w = g.W.WrittenRow in
    let rules = rules_of w.lengths w.fields w.row_of w.same_key in
    let rows = c.in_ok-rows.rows in
    let first = subst (λ (l : List g.row.W-Row.Denot). IsFirstRepeat w.same_key l c.in_ok-n.field-0) c.as_slice.ensures c.in_ok-n.ensures.first in
    stop_fault rules c.args.table c.args.written rows c.in-Some-wrong.wrong
    (subst (λ (o : Option Wrong). AreRead rules c.args.written rows o) c.in-Some-wrong.is c.in_ok-rows.ensures.read)
    (subst (λ (o : Option ℕ). IsFirstRepeat w.same_key rows o) c.in_default.is first)
    _ (omega (arith, ap length c.as_slice-in-Some-wrong.ensures))

pub returns-in-None-clause-right : goal.returns-in-None-clause-right
returns-in-None-clause-right g c =
    let w = g.W.WrittenRow in
    let rules = rules_of w.lengths w.fields w.row_of w.same_key in
    let rows = c.in_ok-rows.rows in
    let first = subst (λ (l : List g.row.W-Row.Denot). IsFirstRepeat w.same_key l c.in_ok-n.field-0) c.as_slice.ensures c.in_ok-n.ensures.first in
    all_are_right rules c.args.written rows
    (subst (λ (o : Option Wrong). AreRead rules c.args.written rows o) c.in-None.is c.in_ok-rows.ensures.read)
    (subst (λ (o : Option ℕ). IsFirstRepeat w.same_key rows o) c.in_default.is first)
