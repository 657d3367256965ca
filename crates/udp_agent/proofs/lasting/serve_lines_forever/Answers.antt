use Rattle.std.proofs.Common.{ℕ, List, Bool, Option, Result, Ok, Err, Vec, subst}
use Rattle.std.specs.declared.alloc.AllocError.{AllocError}
use Rattle.std.specs.declared.alloc.Global.{Global}
use Rattle.wire_core.specs.Acts.{Act}
use Rattle.history_core.specs.History.{History}
use Rattle.live_agent.specs.Deeds.{Deed}
use Rattle.live_agent.specs.declared.plan.Plan.{Plan}
use Rattle.live_agent.specs.declared.trace.End.{End}
use Rattle.live_control.specs.Deeds.{Deed as ControlDeed}
use Rattle.live_run.specs.declared.lines.Lines.{Lines}
use Rattle.live_laps.specs.Laps.{ServesLaps}
use Rattle.live_laps.specs.Lines.{all_lines}
use Rattle.live_laps.specs.Notes.{Note}
use Rattle.live_laps.specs.declared.line.Watched.{Watched}
use Rattle.udp_agent.specs.Lasting.{IsServingForever}
use Rattle.udp_agent.proofs.lasting.serve_lines_forever.Goals as goal

-- what comes of all lines of a run
module _ {A W T C V P : Type 0} (worker_did : A → List Deed → A → Type 0) (worker_failures : A → ℕ) (went : W → List Act → W → Type 0) (failures : W → ℕ)
    (ticker_did : T → List Deed → T → Type 0) (ticker_failures : T → ℕ)
    (control_did : C → List ControlDeed → C → Type 0) (watch_went : V → List Note → V → Type 0) (pace_went : P → List Bool → P → Type 0)
    (watch : V) (pace : P) (plan : Plan) (start later : History) (run : Lines A W T) (control : Option C) (left : List (Watched A W T C V P)) where
  served : (answer : Result (Vec End Global) AllocError) →
      ServesLaps worker_did worker_failures went failures ticker_did ticker_failures control_did watch_went pace_went plan start later (all_lines watch pace run control) left answer →
      IsServingForever worker_did worker_failures went failures ticker_did ticker_failures control_did watch_went pace_went watch pace plan start run control answer
  served (Ok ends) gone = record { later = later; left = left; gone_on = gone }
  served (Err refused) gone = tt

pub returns : goal.returns
returns g c =
    served g.A.GatedWire.did g.A.Wire.failures g.W.Wire.went g.W.Wire.failures g.T.PacedWire.did g.T.Wire.failures g.C.ControlWire.did g.V.Watch.went g.P.Pace.went
    c.args.watch c.args.pace c.args.plan.now c.args.kept c.serve_laps-answer.result.0 c.args.lines c.args.control c.serve_laps-answer.result.1.items c.serve_laps-answer.result.2
    (subst (λ olds. ServesLaps g.A.GatedWire.did g.A.Wire.failures g.W.Wire.went g.W.Wire.failures g.T.PacedWire.did g.T.Wire.failures g.C.ControlWire.did g.V.Watch.went g.P.Pace.went
    c.args.plan.now c.args.kept c.serve_laps-answer.result.0 olds c.serve_laps-answer.result.1.items c.serve_laps-answer.result.2)
    c.in_ok-lines.ensures.lines c.serve_laps-answer.ensures)
