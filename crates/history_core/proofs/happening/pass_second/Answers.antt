use Rattle.std.proofs.Common.{◌∙◌, refl}
use Rattle.history_core.specs.Happening.{quiet}
use Rattle.history_core.proofs.Quiet.{tick_happens}
use Rattle.history_core.proofs.happening.pass_second.Goals as goal

pub returns : goal.returns
returns c = λ objects.
    tick_happens objects c.args.world.now c.tick.new.self c.send.new.self quiet refl c.tick.ensures.step
    (c.send.ensures.bpdus ∙ c.tick.ensures.bpdus) (c.send.ensures.reply ∙ c.requires)
