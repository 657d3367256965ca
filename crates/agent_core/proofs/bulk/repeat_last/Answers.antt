use Rattle.std.proofs.Common.{◌-◌, length, drop, get_or, [], refl, rules, arith}
use Rattle.message_core.specs.Instances.{names_of}
use Rattle.agent_core.specs.Reading.{visible, next_answer}
use Rattle.agent_core.proofs.Fits.{once_cut, once_more, sent_length, name_back, columns_within}
use Rattle.agent_core.specs.Hidden.{hidden_left}
use Rattle.agent_core.proofs.LookupLemmas.{pushed_lookups, cut_lookups}
use Rattle.setphase_core.proofs.States.{on_err_always}
use Rattle.agent_core.proofs.Lackings.{once_lacks}
use Rattle.agent_core.proofs.bulk.repeat_last.Goals as goal

pub send_successor-requires-clause-there : goal.send_successor-requires-clause-there
send_successor-requires-clause-there g c =
    omega (arith, c.requires.columns, sent_length (visible (g.S.View.shows c.args.lookup.source.now) (g.S.Successors.instances c.args.lookup.source.now)) c.args.fitting.now.bindings c.loop-column.fitting.bindings c.args.columns c.loop-column.column c.requires.columns (omega (arith, c.loop-column-test.true)) c.loop-column.invariant.whole)

pub returns-then-not-branch-clause-cut : goal.returns-then-not-branch-clause-cut
returns-then-not-branch-clause-cut g c = λ _ more.
    once_cut (visible (g.S.View.shows c.args.lookup.source.now) (g.S.Successors.instances c.args.lookup.source.now)) (names_of (drop (length c.args.fitting.now.bindings - c.args.columns) c.args.fitting.now.bindings)) c.loop-column.column (get_or (names_of c.loop-column.fitting.bindings) (length c.loop-column.fitting.bindings - c.args.columns) []) c.send_successor.new.fitting.space c.args.fitting.now.bindings c.loop-column.fitting.bindings c.send_successor.new.fitting.bindings more
    (columns_within c.args.fitting.now.bindings c.args.columns c.loop-column.column c.requires.columns c.loop-column-test.true) (name_back (visible (g.S.View.shows c.args.lookup.source.now) (g.S.Successors.instances c.args.lookup.source.now)) c.args.fitting.now.bindings c.loop-column.fitting.bindings c.args.columns c.loop-column.column (get_or (names_of c.loop-column.fitting.bindings) (length c.loop-column.fitting.bindings - c.args.columns) []) c.requires.columns c.loop-column-test.true c.loop-column.invariant.whole refl) c.loop-column.invariant.whole (search rules) (search rules)

pub loop-column-preserved : goal.loop-column-preserved
loop-column-preserved g c = record {
  whole =
      once_more (visible (g.S.View.shows c.args.lookup.source.now) (g.S.Successors.instances c.args.lookup.source.now)) (names_of (drop (length c.args.fitting.now.bindings - c.args.columns) c.args.fitting.now.bindings)) c.loop-column.column (get_or (names_of c.loop-column.fitting.bindings) (length c.loop-column.fitting.bindings - c.args.columns) []) c.args.fitting.now.bindings c.loop-column.fitting.bindings c.send_successor.new.fitting.bindings
      (columns_within c.args.fitting.now.bindings c.args.columns c.loop-column.column c.requires.columns c.loop-column-test.true) (name_back (visible (g.S.View.shows c.args.lookup.source.now) (g.S.Successors.instances c.args.lookup.source.now)) c.args.fitting.now.bindings c.loop-column.fitting.bindings c.args.columns c.loop-column.column (get_or (names_of c.loop-column.fitting.bindings) (length c.loop-column.fitting.bindings - c.args.columns) []) c.requires.columns c.loop-column-test.true c.loop-column.invariant.whole refl) c.loop-column.invariant.whole (search rules);
  stands = c.in_ok-send_successor.ensures.stands;
  space = search rules;
  work =
      pushed_lookups c.args.steps.now c.loop-column.steps c.send_successor.new.steps (length c.args.fitting.now.bindings) (hidden_left (g.S.View.shows c.args.lookup.source.now) (g.S.Successors.instances c.args.lookup.source.now) c.args.hidden.now.runs.items) (hidden_left (g.S.View.shows c.args.lookup.source.now) (g.S.Successors.instances c.args.lookup.source.now) c.loop-column.hidden.runs.items) (hidden_left (g.S.View.shows c.args.lookup.source.now) (g.S.Successors.instances c.args.lookup.source.now) c.send_successor.new.hidden.runs.items)
      c.loop-column.fitting.bindings c.send_successor.new.fitting.bindings (next_answer (visible (g.S.View.shows c.args.lookup.source.now) (g.S.Successors.instances c.args.lookup.source.now)) (get_or (names_of c.loop-column.fitting.bindings) (length c.loop-column.fitting.bindings - c.args.columns) []))
      c.loop-column.invariant.work c.in_ok-send_successor.ensures.once (search rules);
  runs = c.in_ok-send_successor.ensures.runs (search rules);
}

pub returns-in_err-send_successor-clause-work : goal.returns-in_err-send_successor-clause-work
returns-in_err-send_successor-clause-work g c =
    cut_lookups c.args.steps.now c.loop-column.steps c.send_successor.new.steps (length c.args.fitting.now.bindings) (hidden_left (g.S.View.shows c.args.lookup.source.now) (g.S.Successors.instances c.args.lookup.source.now) c.args.hidden.now.runs.items) (hidden_left (g.S.View.shows c.args.lookup.source.now) (g.S.Successors.instances c.args.lookup.source.now) c.loop-column.hidden.runs.items)
    c.loop-column.fitting.bindings c.send_successor.new.fitting.bindings c.loop-column.invariant.work (search rules) (search rules)

pub returns-then-not-branch-clause-work : goal.returns-then-not-branch-clause-work
returns-then-not-branch-clause-work g c =
    cut_lookups c.args.steps.now c.loop-column.steps c.send_successor.new.steps (length c.args.fitting.now.bindings) (hidden_left (g.S.View.shows c.args.lookup.source.now) (g.S.Successors.instances c.args.lookup.source.now) c.args.hidden.now.runs.items) (hidden_left (g.S.View.shows c.args.lookup.source.now) (g.S.Successors.instances c.args.lookup.source.now) c.loop-column.hidden.runs.items)
    c.loop-column.fitting.bindings c.send_successor.new.fitting.bindings c.loop-column.invariant.work (search rules) (search rules)

pub returns-clause-work : goal.returns-clause-work
returns-clause-work g c = omega (arith, c.loop-column.invariant.work)

pub returns-in_err-send_successor-clause-lacks : goal.returns-in_err-send_successor-clause-lacks
returns-in_err-send_successor-clause-lacks g c =
    on_err_always c.from_residual.result
    (once_lacks (g.S.View.shows c.args.lookup.source.now) (g.S.Successors.instances c.args.lookup.source.now) (names_of (drop (length c.args.fitting.now.bindings - c.args.columns) c.args.fitting.now.bindings)) c.loop-column.column (get_or (names_of c.loop-column.fitting.bindings) (length c.loop-column.fitting.bindings - c.args.columns) []) c.args.fitting.now.bindings c.loop-column.fitting.bindings c.send_successor.new.fitting.bindings
    (columns_within c.args.fitting.now.bindings c.args.columns c.loop-column.column c.requires.columns c.loop-column-test.true) (name_back (visible (g.S.View.shows c.args.lookup.source.now) (g.S.Successors.instances c.args.lookup.source.now)) c.args.fitting.now.bindings c.loop-column.fitting.bindings c.args.columns c.loop-column.column (get_or (names_of c.loop-column.fitting.bindings) (length c.loop-column.fitting.bindings - c.args.columns) []) c.requires.columns c.loop-column-test.true c.loop-column.invariant.whole refl) c.loop-column.invariant.whole c.in_err-send_successor.ensures.err c.in_err-send_successor.ensures.lacks)
