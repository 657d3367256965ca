use Rattle.agent_program.proofs.OpeningLemmas.{in_bounds}
use Rattle.agent_program.proofs.serving.open_setup.Goals as goal

pub open_bridge-bridge-requires : goal.open_bridge-bridge-requires
open_bridge-bridge-requires c = in_bounds c.args.octets.now c.in_ok-configuration.configuration c.in_ok-configuration.ensures.configuration
