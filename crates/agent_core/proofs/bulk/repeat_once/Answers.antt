use Rattle.std.proofs.Common.{length, sym, subst, rules, arith}
use Rattle.oid_core.specs.Name.{HasRoot}
use Rattle.message_core.specs.Encodable.{IsEncodableBinding}
use Rattle.message_core.specs.Instances.{names_of}
use Rattle.agent_core.specs.Reading.{visible, next_answer}
use Rattle.agent_core.proofs.Fits.{all_at, once_cut, once_more, names-at, names-length}
use Rattle.agent_core.specs.Lookups.{PassesLong}
use Rattle.agent_core.specs.Hidden.{hidden_left}
use Rattle.agent_core.proofs.LookupLemmas.{pushed_lookups, cut_lookups}
use Rattle.setphase_core.proofs.States.{on_err_always}
use Rattle.agent_core.proofs.Lackings.{once_lacks}
use Rattle.agent_core.proofs.bulk.repeat_once.Goals as goal

pub send_next-requires-clause-root : goal.send_next-requires-clause-root
send_next-requires-clause-root g c =
    let encodable : IsEncodableBinding c.binding-item.result = subst IsEncodableBinding (sym c.binding-item.is) (all_at IsEncodableBinding c.args.asked.now c.loop-binding.binding-index c.binding-item.result c.requires.encodable c.loop-binding-test.true) in
    subst HasRoot (sym c.as_slice.ensures.value) encodable.name

pub returns-then-not-branch-clause-cut : goal.returns-then-not-branch-clause-cut
returns-then-not-branch-clause-cut g c = λ _ more.
    once_cut (visible (g.S.View.shows c.args.lookup.source.now) (g.S.Successors.instances c.args.lookup.source.now)) (names_of c.args.asked.now) c.loop-binding.binding-index c.binding-item.result.name c.send_next.new.fitting.space c.args.fitting.now.bindings c.loop-binding.fitting.bindings c.send_next.new.fitting.bindings more
    (omega (arith, c.loop-binding-test.true, names-length c.args.asked.now)) (names-at c.args.asked.now c.loop-binding.binding-index c.binding-item.result c.loop-binding-test.true c.binding-item.is) c.loop-binding.invariant.whole (search rules) (search rules)

pub loop-binding-preserved : goal.loop-binding-preserved
loop-binding-preserved g c = record {
  whole =
      once_more (visible (g.S.View.shows c.args.lookup.source.now) (g.S.Successors.instances c.args.lookup.source.now)) (names_of c.args.asked.now) c.loop-binding.binding-index c.binding-item.result.name c.args.fitting.now.bindings c.loop-binding.fitting.bindings c.send_next.new.fitting.bindings
      (omega (arith, c.loop-binding-test.true, names-length c.args.asked.now)) (names-at c.args.asked.now c.loop-binding.binding-index c.binding-item.result c.loop-binding-test.true c.binding-item.is) c.loop-binding.invariant.whole (search rules);
  stands = c.in_ok-send_next.ensures.stands;
  space = search rules;
  work =
      pushed_lookups c.args.steps.now c.loop-binding.steps c.send_next.new.steps (length c.args.fitting.now.bindings) (hidden_left (g.S.View.shows c.args.lookup.source.now) (g.S.Successors.instances c.args.lookup.source.now) c.args.hidden.now.runs.items) (hidden_left (g.S.View.shows c.args.lookup.source.now) (g.S.Successors.instances c.args.lookup.source.now) c.loop-binding.hidden.runs.items) (hidden_left (g.S.View.shows c.args.lookup.source.now) (g.S.Successors.instances c.args.lookup.source.now) c.send_next.new.hidden.runs.items)
      c.loop-binding.fitting.bindings c.send_next.new.fitting.bindings (next_answer (visible (g.S.View.shows c.args.lookup.source.now) (g.S.Successors.instances c.args.lookup.source.now)) c.binding-item.result.name)
      c.loop-binding.invariant.work c.in_ok-send_next.ensures.once (search rules);
  runs = c.in_ok-send_next.ensures.runs (search rules);
}

pub returns-in_err-send_next-clause-work : goal.returns-in_err-send_next-clause-work
returns-in_err-send_next-clause-work g c =
    cut_lookups c.args.steps.now c.loop-binding.steps c.send_next.new.steps (length c.args.fitting.now.bindings) (hidden_left (g.S.View.shows c.args.lookup.source.now) (g.S.Successors.instances c.args.lookup.source.now) c.args.hidden.now.runs.items) (hidden_left (g.S.View.shows c.args.lookup.source.now) (g.S.Successors.instances c.args.lookup.source.now) c.loop-binding.hidden.runs.items)
    c.loop-binding.fitting.bindings c.send_next.new.fitting.bindings c.loop-binding.invariant.work (search rules) (search rules)

pub returns-then-not-branch-clause-work : goal.returns-then-not-branch-clause-work
returns-then-not-branch-clause-work g c =
    cut_lookups c.args.steps.now c.loop-binding.steps c.send_next.new.steps (length c.args.fitting.now.bindings) (hidden_left (g.S.View.shows c.args.lookup.source.now) (g.S.Successors.instances c.args.lookup.source.now) c.args.hidden.now.runs.items) (hidden_left (g.S.View.shows c.args.lookup.source.now) (g.S.Successors.instances c.args.lookup.source.now) c.loop-binding.hidden.runs.items)
    c.loop-binding.fitting.bindings c.send_next.new.fitting.bindings c.loop-binding.invariant.work (search rules) (search rules)

pub returns-clause-work : goal.returns-clause-work
returns-clause-work g c = omega (arith, c.loop-binding.invariant.work)

pub returns-in_err-send_next-clause-lacks : goal.returns-in_err-send_next-clause-lacks
returns-in_err-send_next-clause-lacks g c =
    on_err_always c.from_residual.result
    (once_lacks (g.S.View.shows c.args.lookup.source.now) (g.S.Successors.instances c.args.lookup.source.now) (names_of c.args.asked.now) c.loop-binding.binding-index c.binding-item.result.name c.args.fitting.now.bindings c.loop-binding.fitting.bindings c.send_next.new.fitting.bindings
    (omega (arith, c.loop-binding-test.true, names-length c.args.asked.now)) (names-at c.args.asked.now c.loop-binding.binding-index c.binding-item.result c.loop-binding-test.true c.binding-item.is) c.loop-binding.invariant.whole c.in_err-send_next.ensures.err
    (subst (PassesLong (g.S.View.shows c.args.lookup.source.now) (g.S.Successors.instances c.args.lookup.source.now)) c.as_slice.ensures.value c.in_err-send_next.ensures.lacks))
