use Rattle.std.proofs.Common.{◌∙◌, rules}
use Rattle.history_core.proofs.Quiet.{frame_happens, no_frame_happens}
use Rattle.history_core.proofs.happening.take_frame.Goals as goal

pub returns-then-not-has_port : goal.returns-then-not-has_port
returns-then-not-has_port c = λ objects.
    no_frame_happens objects c.args.world.now c.args.port c.args.frame.now c.args.buffer.now c.args.happened.now c.requires.quiet
    (search rules) c.requires.bpdus c.requires.reply

pub returns : goal.returns
returns c = λ objects.
    frame_happens objects c.args.world.now c.args.port c.args.frame.now c.frame-forwarding.result.no_room c.of-happened.result
    c.frame-forwarding.new.self c.send.new.self c.args.happened.now c.requires.quiet (search rules)
    c.frame-forwarding.ensures.gives.step (c.of-happened.ensures ∙ c.frame-forwarding.ensures.gives.egress)
    (c.send.ensures.bpdus ∙ c.frame-forwarding.ensures.gives.bpdus) (c.send.ensures.reply ∙ c.requires.reply) c.frame-forwarding.ensures.note
