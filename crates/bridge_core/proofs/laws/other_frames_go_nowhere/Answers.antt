use Rattle.bridge_core.proofs.Changes.{framed_off}
use Rattle.bridge_core.proofs.Relayed.{stays_at, stays_reserved, stays_own}
use Rattle.bridge_core.proofs.laws.other_frames_go_nowhere.Goals as goal

pub returns-clause-state : goal.returns-clause-state
returns-clause-state c = stays_at

pub returns-clause-reserved : goal.returns-clause-reserved
returns-clause-reserved c = stays_reserved

pub returns-clause-own : goal.returns-clause-own
returns-clause-own c = stays_own

pub returns-clause-off : goal.returns-clause-off
returns-clause-off c = framed_off
