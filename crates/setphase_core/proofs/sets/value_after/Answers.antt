use Rattle.std.proofs.Common.{◌∙◌, sym}
use Rattle.setphase_core.specs.Staging.{assignments_of}
use Rattle.setphase_core.proofs.Timers.{given_value, kept_value}
use Rattle.setphase_core.proofs.sets.value_after.Goals as goal

pub returns-in-Some : goal.returns-in-Some
returns-in-Some c =
    given_value (assignments_of c.args.staged.now) c.args.world.now c.args.key c.in-Some.value c.requires.distinct c.requires.legal c.requires.has (sym c.value_among.ensures ∙ c.in-Some.is)

pub returns-in-None : goal.returns-in-None
returns-in-None c =
    c.get_setting.ensures.value
    ∙ kept_value (assignments_of c.args.staged.now) c.args.world.now c.args.key c.requires.distinct c.requires.legal c.requires.has (sym c.value_among.ensures ∙ c.in-None.is)
