use Rattle.std.proofs.Common.{◌++◌, ap, sym, subst, List, arith}
use Rattle.message_core.specs.Encodable.{IsEncodableBinding, AreEncodable}
use Rattle.message_core.specs.declared.binding.Binding.{Binding}
use Rattle.message_core.specs.Instances.{names_of}
use Rattle.agent_core.specs.Reading.{visible}
use Rattle.agent_core.specs.Bulk.{repetitions}
use Rattle.agent_core.proofs.Fits.{all_take, all_drop, list_parts, list_whole, filled_at, filled_ok}
use Rattle.setphase_core.proofs.States.{on_err_always}
use Rattle.agent_core.proofs.Lackings.{once_part_lacks, columns_lacks}
use Rattle.agent_core.proofs.bulk.send_list.Goals as goal

pub repeat_once-requires-clause-encodable : goal.repeat_once-requires-clause-encodable
repeat_once-requires-clause-encodable g c = subst AreEncodable (sym c.split_at.ensures.front) (all_take IsEncodableBinding c.args.asked.now c.args.once c.requires.encodable)

pub returns-then-not-branch-clause-filled : goal.returns-then-not-branch-clause-filled
returns-then-not-branch-clause-filled g c =
    let rows : List Binding = visible (g.S.View.shows c.args.lookup.source.now) (g.S.Successors.instances c.args.lookup.source.now) in
    filled_at c.repeat_once.new.fitting.space c.args.fitting.now.space _ _ c.repeat_once.new.fitting.bindings c.in_ok-repeat_once.ensures.space
    (ap (λ z. c.args.fitting.now.bindings ++ z) (list_parts rows c.args.once c.args.most c.args.asked.now c.split_at.result.0.now c.split_at.result.1.now c.split_at.ensures.front c.split_at.ensures.back))
    (c.in_ok-repeat_once.ensures.cut c.if-not-branch.true (repetitions rows c.args.most (names_of c.split_at.result.1.now)))

pub repeat-requires-clause-encodable : goal.repeat-requires-clause-encodable
repeat-requires-clause-encodable g c = subst AreEncodable (sym c.split_at.ensures.back) (all_drop IsEncodableBinding c.args.asked.now c.args.once c.requires.encodable)

pub returns-clause-filled : goal.returns-clause-filled
returns-clause-filled g c =
    let rows : List Binding = visible (g.S.View.shows c.args.lookup.source.now) (g.S.Successors.instances c.args.lookup.source.now) in
    filled_ok c.repeat.result c.repeat_once.new.fitting.space c.args.fitting.now.space _ _ c.repeat.new.fitting.bindings c.in_ok-repeat_once.ensures.space
    (list_whole rows c.args.once c.args.most c.args.asked.now c.split_at.result.0.now c.split_at.result.1.now c.args.fitting.now.bindings c.repeat_once.new.fitting.bindings
    (c.in_ok-repeat_once.ensures.whole c.if-not-branch.false) c.split_at.ensures.front c.split_at.ensures.back)
    c.repeat.ensures.filled

pub returns-in_err-repeat_once-clause-lacks : goal.returns-in_err-repeat_once-clause-lacks
returns-in_err-repeat_once-clause-lacks g c =
    on_err_always c.from_residual.result
    (once_part_lacks (g.S.View.shows c.args.lookup.source.now) (g.S.Successors.instances c.args.lookup.source.now) c.args.once c.args.most c.args.asked.now c.split_at.result.0.now c.split_at.result.1.now c.args.fitting.now.bindings c.repeat_once.new.fitting.bindings
    c.split_at.ensures.front c.split_at.ensures.back c.in_err-repeat_once.ensures.lacks)

pub returns-clause-lacks : goal.returns-clause-lacks
returns-clause-lacks g c =
    columns_lacks (g.S.View.shows c.args.lookup.source.now) (g.S.Successors.instances c.args.lookup.source.now) c.repeat.result c.args.once c.args.most c.args.asked.now c.split_at.result.0.now c.split_at.result.1.now c.args.fitting.now.bindings c.repeat_once.new.fitting.bindings c.repeat.new.fitting.bindings
    c.requires.once c.split_at.ensures.front c.split_at.ensures.back (c.in_ok-repeat_once.ensures.whole c.if-not-branch.false) c.repeat.ensures.lacks

pub repeat-requires-clause-runs : goal.repeat-requires-clause-runs
repeat-requires-clause-runs g c = c.in_ok-repeat_once.ensures.runs c.if-not-branch.false

pub returns-clause-work : goal.returns-clause-work
returns-clause-work g c = omega (arith, c.in_ok-repeat_once.ensures.once c.if-not-branch.false, c.repeat.ensures.work)
