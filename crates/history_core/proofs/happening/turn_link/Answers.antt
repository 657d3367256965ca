use Rattle.std.proofs.Common.{◌∙◌, refl, rules}
use Rattle.history_core.specs.Happening.{quiet}
use Rattle.history_core.proofs.Quiet.{link_happens, no_link_happens}
use Rattle.history_core.proofs.happening.turn_link.Goals as goal

pub returns-then-not-has_port : goal.returns-then-not-has_port
returns-then-not-has_port c = λ objects.
    no_link_happens objects c.args.world.now c.args.port c.args.up c.args.buffer.now quiet refl
    (search rules) c.requires.bpdus c.requires.reply

pub returns : goal.returns
returns c = λ objects.
    link_happens objects c.args.world.now c.args.port c.args.up c.link.new.self c.send.new.self quiet refl
    (search rules) c.link.ensures.step (c.send.ensures.bpdus ∙ c.link.ensures.bpdus) (c.send.ensures.reply ∙ c.requires.reply)
