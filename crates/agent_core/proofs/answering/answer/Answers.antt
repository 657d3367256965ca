use Rattle.std.proofs.Common.{◌≢◌, ◌∙◌, sym, rules}
use Rattle.message_core.specs.declared.request.Kind.TheVariants.{Set}
use Rattle.agent_core.proofs.SetSteps.{dropped_step, empty_step, refused_step, set_stepped, read_stepped}
use Rattle.agent_core.proofs.answering.answer.Goals as goal

pub returns-in-Drop : goal.returns-in-Drop
returns-in-Drop g c =
    dropped_step c.args.registry.now c.args.world.now c.count.new.world c.args.request.now c.in-Drop.cause c.drop_request.result c.clear.new.self
    (sym c.in-Drop.ensures.decision) c.drop_request.ensures c.clear.ensures.reply c.clear.ensures.bpdus c.count.ensures

pub returns-in-Empty : goal.returns-in-Empty
returns-in-Empty g c =
    empty_step c.args.registry.now c.args.world.now c.args.request.now c.put-sent.result c.reply_with.result c.put-sent.new.self
    (sym c.in-Empty.ensures.decision) c.put-sent.ensures.sent (c.put-sent.ensures.bpdus ∙ c.clear.ensures.bpdus) (search rules)

pub returns-in-Refused : goal.returns-in-Refused
returns-in-Refused g c =
    refused_step c.args.registry.now c.args.world.now c.args.request.now c.in-Refused.why c.put-sent-in-Refused.result c.reply_with-in-Refused.result c.put-sent-in-Refused.new.self
    (sym c.in-Refused.ensures.decision) (search rules) (c.put-sent-in-Refused.ensures.bpdus ∙ c.clear.ensures.bpdus) (search rules)

pub returns-in-Set : goal.returns-in-Set
returns-in-Set g c =
    set_stepped c.args.registry.now c.answer_set.new.registry c.args.world.now c.answer_set.new.world c.args.request.now c.in-Allowed.row c.in-Allowed.view c.answer_set.result c.answer_set.new.buffer
    (sym c.in-Allowed.ensures.decision) c.in-Set.is (search rules) c.answer_set.ensures.may c.answer_set.ensures.by_plan c.answer_set.ensures.done c.answer_set.ensures.named c.answer_set.ensures.takes
    c.answer_set.ensures.empty c.answer_set.ensures.unsent c.answer_set.ensures.unchanged c.answer_set.ensures.kept

pub returns-in-Get : goal.returns-in-Get
returns-in-Get g c =
    let reads : c.args.request.now.kind ≢ Set = search rules in
    read_stepped c.args.registry.now c.args.world.now c.args.request.now c.in-Allowed.row c.in-Allowed.view c.answer_read.new.buffer
    (sym c.in-Allowed.ensures.decision) reads (c.answer_read.ensures.bpdus ∙ c.clear.ensures.bpdus) c.answer_read.result (search rules) c.answer_read.ensures.reply (search rules)
