use Rattle.std.specs.Prelude.{◌≡◌, length}
use Rattle.live_agent.specs.Lines.{run_start_of}
use Rattle.live_control.specs.Lines.{IsControlTurn, command_space}
use Rattle.live_control.specs.Turns.{deeds_of}
use Rattle.live_control.proofs.Running.{Goes}
use Rattle.live_control.proofs.task.go_round.Given as goal

abbrev pub invariant-loop-i : goal.invariant-loop-i
invariant-loop-i g l =
    record {
      goes : Goes g.W.ControlWire.did g.K.ControlRecorder.went deeds_of (IsControlTurn (g.D.DropTally.reports l.tally) (run_start_of g.L.Run.start l.plan) l.ports) l._i l.initial.wire l.wire l.initial.state.recorder l.state.recorder l.initial.share.amount l.share.amount;
      parts : l.share.parts ≡ l.initial.share.parts;
      space : length l.space ≡ command_space;
    }
