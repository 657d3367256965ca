use Rattle.std.proofs.Common.{refl}
use Rattle.live_agent.specs.Lines.{worker_deeds}
use Rattle.live_agent.specs.Turns.{nothing_came, ended, broke, acts_of}
use Rattle.live_agent.proofs.Turning.{bare_turn}
use Rattle.live_agent.proofs.worker.worker_turn.Goals as goal

pub returns-in-Err-clause-turn : goal.returns-in-Err-clause-turn
returns-in-Err-clause-turn g c = bare_turn g.W.GatedWire.did g.K.Recorder.went g.met.K.Recorder.starts (worker_deeds c.args.line.now.worker) _ (broke c.in-Err.fault) _ _ _ _ _ tt tt (g.met.W.GatedWire.acts_are _ _ (acts_of (broke c.in-Err.fault)) c.in-Err.ensures.went) refl refl

pub returns-in-Ok-Nothing-clause-turn : goal.returns-in-Ok-Nothing-clause-turn
returns-in-Ok-Nothing-clause-turn g c = bare_turn g.W.GatedWire.did g.K.Recorder.went g.met.K.Recorder.starts (worker_deeds c.args.line.now.worker) _ nothing_came _ _ _ _ _ tt tt (g.met.W.GatedWire.acts_are _ _ (acts_of nothing_came) (rw c.in-Ok-Nothing.field-0-is at c.in-Ok-Nothing.ensures.went)) refl refl

pub returns-in-Ok-Closed-clause-turn : goal.returns-in-Ok-Closed-clause-turn
returns-in-Ok-Closed-clause-turn g c = bare_turn g.W.GatedWire.did g.K.Recorder.went g.met.K.Recorder.starts (worker_deeds c.args.line.now.worker) _ ended _ _ _ _ _ tt tt (g.met.W.GatedWire.acts_are _ _ (acts_of ended) (rw c.in-Ok-Closed.field-0-is at c.in-Ok-Closed.ensures.went)) refl refl
