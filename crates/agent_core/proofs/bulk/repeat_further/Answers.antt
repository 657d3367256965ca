use Rattle.std.proofs.Common.{◌≡◌, ◌∙◌, ◌++◌, ◌-◌, ◌+◌, sym, refl, rules, true, false, length, drop, arith}
use Rattle.message_core.specs.Instances.{names_of}
use Rattle.agent_core.specs.Reading.{visible, next_answers}
use Rattle.agent_core.proofs.Fits.{repeat_cut, repeat_more, further_ended, further_going, further_done, last_count, last_names}
use Rattle.setphase_core.proofs.States.{on_err_always}
use Rattle.agent_core.proofs.Lackings.{further_lacks, grown_none, grown_more}
use Rattle.agent_core.proofs.bulk.repeat_further.Goals as goal

pub returns-then-has_ended-clause-filled : goal.returns-then-has_ended-clause-filled
returns-then-has_ended-clause-filled g c =
    further_ended (visible (g.S.View.shows c.args.lookup.source.now) (g.S.Successors.instances c.args.lookup.source.now)) (c.args.most - c.loop-i.i) c.args.fitting.now.space (drop (length c.loop-i.fitting.bindings - c.args.columns) c.loop-i.fitting.bindings) _ c.loop-i.fitting.bindings c.loop-i.invariant.all (sym c.has_ended.ensures ∙ c.if-has_ended.true)

pub returns-then-not-branch-clause-filled : goal.returns-then-not-branch-clause-filled
returns-then-not-branch-clause-filled g c =
    let cut : c.in_ok-repeat_last.field-0 ≡ false = search rules in
    repeat_cut (visible (g.S.View.shows c.args.lookup.source.now) (g.S.Successors.instances c.args.lookup.source.now)) (c.args.most - c.loop-i.i) (c.args.most - (c.loop-i.i + 1)) c.repeat_last.new.fitting.space c.args.fitting.now.space (names_of (drop (length c.loop-i.fitting.bindings - c.args.columns) c.loop-i.fitting.bindings)) _ c.loop-i.fitting.bindings c.repeat_last.new.fitting.bindings (omega (arith, c.loop-i-test.true)) (search rules)
    (further_going (visible (g.S.View.shows c.args.lookup.source.now) (g.S.Successors.instances c.args.lookup.source.now)) (c.args.most - c.loop-i.i) (drop (length c.loop-i.fitting.bindings - c.args.columns) c.loop-i.fitting.bindings) _ c.loop-i.fitting.bindings c.loop-i.invariant.all (sym c.has_ended.ensures ∙ c.if-has_ended.false)) (c.in_ok-repeat_last.ensures.cut cut)

pub loop-i-preserved : goal.loop-i-preserved
loop-i-preserved g c =
    let whole : c.in_ok-repeat_last.field-0 ≡ true = search rules in
    let is : c.repeat_last.new.fitting.bindings ≡ c.loop-i.fitting.bindings ++ next_answers (visible (g.S.View.shows c.args.lookup.source.now) (g.S.Successors.instances c.args.lookup.source.now)) (names_of (drop (length c.loop-i.fitting.bindings - c.args.columns) c.loop-i.fitting.bindings)) = c.in_ok-repeat_last.ensures.whole whole in
    let count : c.args.columns ≡ length (names_of (drop (length c.loop-i.fitting.bindings - c.args.columns) c.loop-i.fitting.bindings)) = last_names c.loop-i.fitting.bindings c.args.columns c.loop-i.invariant.columns in
    record {
      all = repeat_more (visible (g.S.View.shows c.args.lookup.source.now) (g.S.Successors.instances c.args.lookup.source.now)) (c.args.most - c.loop-i.i) (c.args.most - (c.loop-i.i + 1)) c.args.columns (names_of (drop (length c.loop-i.fitting.bindings - c.args.columns) c.loop-i.fitting.bindings)) _ c.loop-i.fitting.bindings c.repeat_last.new.fitting.bindings (omega (arith, c.loop-i-test.true)) (further_going (visible (g.S.View.shows c.args.lookup.source.now) (g.S.Successors.instances c.args.lookup.source.now)) (c.args.most - c.loop-i.i) (drop (length c.loop-i.fitting.bindings - c.args.columns) c.loop-i.fitting.bindings) _ c.loop-i.fitting.bindings c.loop-i.invariant.all (sym c.has_ended.ensures ∙ c.if-has_ended.false)) is count;
      stands = c.in_ok-repeat_last.ensures.stands;
      space = search rules;
      work = omega (arith, c.loop-i.invariant.work, c.in_ok-repeat_last.ensures.once whole);
      runs = c.in_ok-repeat_last.ensures.runs whole;
      grown = grown_more c.args.fitting.now.bindings c.loop-i.fitting.bindings (next_answers (visible (g.S.View.shows c.args.lookup.source.now) (g.S.Successors.instances c.args.lookup.source.now)) (names_of (drop (length c.loop-i.fitting.bindings - c.args.columns) c.loop-i.fitting.bindings))) c.repeat_last.new.fitting.bindings c.loop-i.invariant.grown is;
      columns = last_count (visible (g.S.View.shows c.args.lookup.source.now) (g.S.Successors.instances c.args.lookup.source.now)) (names_of (drop (length c.loop-i.fitting.bindings - c.args.columns) c.loop-i.fitting.bindings)) c.args.columns c.loop-i.fitting.bindings c.repeat_last.new.fitting.bindings count is;
    }

pub returns-clause-filled : goal.returns-clause-filled
returns-clause-filled g c =
    further_done (visible (g.S.View.shows c.args.lookup.source.now) (g.S.Successors.instances c.args.lookup.source.now)) (c.args.most - c.loop-i.i) c.args.fitting.now.space (drop (length c.loop-i.fitting.bindings - c.args.columns) c.loop-i.fitting.bindings) _ c.loop-i.fitting.bindings _ refl (omega arith) c.loop-i.invariant.all

pub returns-clause-work : goal.returns-clause-work
returns-clause-work g c =
    omega (arith, c.loop-i.invariant.work)

pub loop-i-init : goal.loop-i-init
loop-i-init g c = record {
  all = search rules;
  stands = c.requires.stands;
  space = refl;
  work = omega arith;
  runs = c.requires.runs;
  columns = c.requires.columns;
  grown = grown_none c.args.fitting.now.bindings;
}

pub returns-in_err-repeat_last-clause-lacks : goal.returns-in_err-repeat_last-clause-lacks
returns-in_err-repeat_last-clause-lacks g c =
    on_err_always c.from_residual.result
    (further_lacks (g.S.View.shows c.args.lookup.source.now) (g.S.Successors.instances c.args.lookup.source.now) c.args.columns (c.args.most - c.loop-i.i) (c.args.most - (c.loop-i.i + 1)) c.args.fitting.now.bindings c.loop-i.fitting.bindings c.repeat_last.new.fitting.bindings _
    c.requires.columns c.loop-i.invariant.grown (omega (arith, c.loop-i-test.true))
    (further_going (visible (g.S.View.shows c.args.lookup.source.now) (g.S.Successors.instances c.args.lookup.source.now)) (c.args.most - c.loop-i.i) (drop (length c.loop-i.fitting.bindings - c.args.columns) c.loop-i.fitting.bindings) _ c.loop-i.fitting.bindings c.loop-i.invariant.all (sym c.has_ended.ensures ∙ c.if-has_ended.false))
    c.in_err-repeat_last.ensures.lacks)
