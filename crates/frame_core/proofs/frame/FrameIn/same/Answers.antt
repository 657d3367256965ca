use Rattle.frame_core.proofs.Equal.{frame_decides}
use Rattle.frame_core.proofs.frame.FrameIn.same.Goals as goal

pub returns : goal.returns
returns c = rw c.eq.ensures (frame_decides c.args.self.now c.args.other.now)
