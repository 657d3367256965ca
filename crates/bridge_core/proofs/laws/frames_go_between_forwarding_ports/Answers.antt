use Rattle.bridge_core.proofs.Ways.{framed_goes}
use Rattle.bridge_core.proofs.laws.frames_go_between_forwarding_ports.Goals as goal

pub returns : goal.returns
returns c = framed_goes
