use Rattle.bridge_core.proofs.Ranges.{setting_most}
use Rattle.bridge_core.proofs.bridge.Bridge.get_setting.Goals as goal

pub returns-clause-most : goal.returns-clause-most
returns-clause-most c = setting_most c.args.key c.get.result c.get.ensures.in_range
