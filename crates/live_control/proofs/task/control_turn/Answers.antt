use Rattle.std.proofs.Common.{refl, arith}
use Rattle.live_control.specs.Turns.{broke}
use Rattle.live_control.proofs.task.control_turn.Goals as goal

pub returns-in-Err-clause-turn : goal.returns-in-Err-clause-turn
returns-in-Err-clause-turn g c =
    record {
      turn = broke c.in-Err.fault;
      is = tt;
      behind = tt;
      acts = c.in-Err.ensures.did;
      recorded = g.met.K.ControlRecorder.starts _;
      amount_is = omega arith;
      ends_so = refl;
    }
