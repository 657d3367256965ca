use Rattle.frame_core.proofs.Readings.{frame_reported, reported_frame, fault_reported, reported_fault}
use Rattle.frame_core.proofs.laws.frame_is_read.Goals as goal

pub returns-clause-frame : goal.returns-clause-frame
returns-clause-frame c = λ octets f. (frame_reported octets f, reported_frame octets f)

pub returns-clause-fault : goal.returns-clause-fault
returns-clause-fault c = λ octets e. (fault_reported octets e, reported_fault octets e)
