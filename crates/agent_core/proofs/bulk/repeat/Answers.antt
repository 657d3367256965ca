use Rattle.std.proofs.Common.{◌-◌, sym, refl, rules, length, arith}
use Rattle.message_core.specs.Instances.{names_of}
use Rattle.agent_core.specs.Reading.{visible}
use Rattle.agent_core.proofs.Fits.{repeat_none, repeat_cut, repeat_more, last_count, filled_ok, names-length}
use Rattle.setphase_core.proofs.States.{on_err_always}
use Rattle.agent_core.proofs.Lackings.{first_lacks, later_lack}
use Rattle.agent_core.proofs.bulk.repeat.Goals as goal

pub returns-then-most-eq0-clause-filled : goal.returns-then-most-eq0-clause-filled
returns-then-most-eq0-clause-filled g c =
    repeat_none (visible (g.S.View.shows c.args.lookup.source.now) (g.S.Successors.instances c.args.lookup.source.now)) c.args.most c.args.fitting.now.space (names_of c.args.asked.now) c.args.fitting.now.bindings (omega arith)

pub returns-then-not-branch-clause-filled : goal.returns-then-not-branch-clause-filled
returns-then-not-branch-clause-filled g c =
    repeat_cut (visible (g.S.View.shows c.args.lookup.source.now) (g.S.Successors.instances c.args.lookup.source.now)) c.args.most (c.args.most - 1) c.repeat_once.new.fitting.space c.args.fitting.now.space (names_of c.args.asked.now) _ c.args.fitting.now.bindings c.repeat_once.new.fitting.bindings (omega arith) (search rules)
    refl (c.in_ok-repeat_once.ensures.cut c.if-not-branch.true)

pub repeat_further-requires-clause-columns : goal.repeat_further-requires-clause-columns
repeat_further-requires-clause-columns g c =
    last_count (visible (g.S.View.shows c.args.lookup.source.now) (g.S.Successors.instances c.args.lookup.source.now)) (names_of c.args.asked.now) (length c.args.asked.now) c.args.fitting.now.bindings c.repeat_once.new.fitting.bindings (sym (names-length c.args.asked.now)) (c.in_ok-repeat_once.ensures.whole c.if-not-branch.false)

pub returns-clause-filled : goal.returns-clause-filled
returns-clause-filled g c =
    filled_ok c.repeat_further.result c.repeat_once.new.fitting.space c.args.fitting.now.space _ _ c.repeat_further.new.fitting.bindings c.in_ok-repeat_once.ensures.space
    (sym (repeat_more (visible (g.S.View.shows c.args.lookup.source.now) (g.S.Successors.instances c.args.lookup.source.now)) c.args.most (c.args.most - 1) (length c.args.asked.now) (names_of c.args.asked.now) _ c.args.fitting.now.bindings c.repeat_once.new.fitting.bindings (omega arith) refl (c.in_ok-repeat_once.ensures.whole c.if-not-branch.false) (sym (names-length c.args.asked.now))))
    c.repeat_further.ensures.filled

pub returns-in_err-repeat_once-clause-lacks : goal.returns-in_err-repeat_once-clause-lacks
returns-in_err-repeat_once-clause-lacks g c =
    on_err_always c.from_residual.result
    (first_lacks (g.S.View.shows c.args.lookup.source.now) (g.S.Successors.instances c.args.lookup.source.now) (names_of c.args.asked.now) c.args.most (c.args.most - 1) c.args.fitting.now.bindings c.repeat_once.new.fitting.bindings (omega arith) c.in_err-repeat_once.ensures.lacks)

pub returns-clause-lacks : goal.returns-clause-lacks
returns-clause-lacks g c =
    later_lack (g.S.View.shows c.args.lookup.source.now) (g.S.Successors.instances c.args.lookup.source.now) c.repeat_further.result (names_of c.args.asked.now) c.args.most (c.args.most - 1) (length c.args.asked.now) c.args.fitting.now.bindings c.repeat_once.new.fitting.bindings c.repeat_further.new.fitting.bindings (omega arith)
    (sym (names-length c.args.asked.now)) (c.in_ok-repeat_once.ensures.whole c.if-not-branch.false) c.repeat_further.ensures.lacks

pub repeat_further-requires-clause-runs : goal.repeat_further-requires-clause-runs
repeat_further-requires-clause-runs g c = c.in_ok-repeat_once.ensures.runs c.if-not-branch.false

pub returns-clause-work : goal.returns-clause-work
returns-clause-work g c = omega (arith, c.in_ok-repeat_once.ensures.once c.if-not-branch.false, c.repeat_further.ensures.work)
