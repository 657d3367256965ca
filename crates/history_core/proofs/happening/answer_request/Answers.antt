use Rattle.std.proofs.Common.{◌∙◌, rules}
use Rattle.history_core.proofs.Requests.{short_stays, long_read_stays, came_happens, came_stays, undone_has_space}
use Rattle.history_core.proofs.happening.answer_request.Goals as goal

pub returns-in_err-answered-clause-objects : goal.returns-in_err-answered-clause-objects
returns-in_err-answered-clause-objects g c =
    let same = (short_stays c.args.registry.now c.args.world.now c.args.request.now c.answer.new.buffer c.answer.new.world c.answer.new.registry c.requires.at_rest c.in_err-answered.ensures).1 in
    search (rules, same)

pub returns-in_err-replies-clause-world : goal.returns-in_err-replies-clause-world
returns-in_err-replies-clause-world g c =
    let same = (long_read_stays c.args.registry.now c.args.world.now c.args.request.now c.in_ok-answered.answered c.answer.new.buffer c.answer.new.world c.answer.new.registry c.reply.result.now _
    c.in_ok-answered.ensures (c.in_ok-spaces.ensures.set c.in_err-replies.ensures.none) c.reply.ensures.reply c.in_err-replies.ensures.inline).0 in
    search (rules, same)

pub returns-in_err-replies-clause-objects : goal.returns-in_err-replies-clause-objects
returns-in_err-replies-clause-objects g c =
    let same = (long_read_stays c.args.registry.now c.args.world.now c.args.request.now c.in_ok-answered.answered c.answer.new.buffer c.answer.new.world c.answer.new.registry c.reply.result.now _
    c.in_ok-answered.ensures (c.in_ok-spaces.ensures.set c.in_err-replies.ensures.none) c.reply.ensures.reply c.in_err-replies.ensures.inline).1 in
    search (rules, same)

pub record_outcome-requires-clause-space : goal.record_outcome-requires-clause-space
record_outcome-requires-clause-space g c =
    undone_has_space c.args.registry.now c.args.world.now c.args.request.now c.in_ok-answered.answered c.answer.new.buffer c.answer.new.world c.answer.new.registry c.in_ok-spaces.field-0.reported
    c.in_ok-answered.ensures c.in_ok-spaces.ensures.reported_keys

pub returns-clause-happens : goal.returns-clause-happens
returns-clause-happens g c =
    came_happens c.args.registry.now c.args.world.now c.args.request.now c.in_ok-answered.answered c.in_ok-replies.replies.0 c.answer.new.buffer c.answer.new.world c.answer.new.registry c.record_outcome.new.happened c.record_outcome.result
    c.in_ok-answered.ensures (c.in_ok-replies.ensures.entered ∙ c.reply.ensures.reply) c.record_outcome.ensures.happened

pub returns-clause-world : goal.returns-clause-world
returns-clause-world g c =
    (came_stays c.args.registry.now c.args.world.now c.args.request.now c.in_ok-answered.answered c.answer.new.buffer c.answer.new.world c.answer.new.registry c.record_outcome.result
    c.requires.at_rest c.in_ok-answered.ensures c.record_outcome.ensures.denied).0

pub returns-clause-objects : goal.returns-clause-objects
returns-clause-objects g c =
    (came_stays c.args.registry.now c.args.world.now c.args.request.now c.in_ok-answered.answered c.answer.new.buffer c.answer.new.world c.answer.new.registry c.record_outcome.result
    c.requires.at_rest c.in_ok-answered.ensures c.record_outcome.ensures.denied).1
