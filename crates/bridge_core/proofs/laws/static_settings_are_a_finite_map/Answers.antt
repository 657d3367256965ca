use Rattle.bridge_core.proofs.StaticSettings.{made_put, ports_put, made_keeps_ports, ports_keep_made, made_keeps_others, ports_keep_others}
use Rattle.bridge_core.proofs.laws.static_settings_are_a_finite_map.Goals as goal

pub returns-clause-made : goal.returns-clause-made
returns-clause-made c = made_put

pub returns-clause-ports : goal.returns-clause-ports
returns-clause-ports c = ports_put

pub returns-clause-made_keeps_ports : goal.returns-clause-made_keeps_ports
returns-clause-made_keeps_ports c = made_keeps_ports

pub returns-clause-ports_keep_made : goal.returns-clause-ports_keep_made
returns-clause-ports_keep_made c = ports_keep_made

pub returns-clause-made_keeps_others : goal.returns-clause-made_keeps_others
returns-clause-made_keeps_others c = made_keeps_others

pub returns-clause-ports_keep_others : goal.returns-clause-ports_keep_others
returns-clause-ports_keep_others c = ports_keep_others
