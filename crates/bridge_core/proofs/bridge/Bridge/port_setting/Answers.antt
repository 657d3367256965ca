use Rattle.rstp_settings.specs.declared.key.Key.TheVariants as key
use Rattle.bridge_core.proofs.Ranges.{setting_most}
use Rattle.bridge_core.proofs.bridge.Bridge.port_setting.Goals as goal

pub returns-clause-most : goal.returns-clause-most
returns-clause-most c = setting_most (key.Port c.args.port c.args.key) c.get.result c.get.ensures.in_range
