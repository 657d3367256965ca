-- What comes of serving lines that go on interval by interval.
use Rattle.std.specs.Prelude.{◌||◌, ◌≡◌, ℕ, Bool, true, false, List, [], ◌∷◌, Option, is_some, Result, Ok, Err, Vec}
use Rattle.std.specs.declared.alloc.AllocError.{AllocError}
use Rattle.std.specs.declared.alloc.Global.{Global}
use Rattle.wire_core.specs.Acts.{Act}
use Rattle.history_core.specs.History.{History}
use Rattle.live_agent.specs.Deeds.{Deed}
use Rattle.live_agent.specs.declared.plan.Plan.{Plan}
use Rattle.live_agent.specs.declared.trace.End.{End}
use Rattle.live_agent.specs.declared.trace.End.TheVariants.{Rounds, Closed, Full, Wire, Memory}
use Rattle.live_control.specs.Deeds.{Deed as ControlDeed}
use Rattle.live_run.specs.declared.lines.Lines.{Lines}
use Rattle.live_laps.specs.Laps.{HaveGoneOn}
use Rattle.live_laps.specs.Lines.{all_lines}
use Rattle.live_laps.specs.Notes.{Note}
use Rattle.live_laps.specs.declared.line.Watched.{Watched}
use Rattle.udp_agent.specs.Binding.{IsPlan, AreLines, AreAudited, IsFaultOf}
use Rattle.udp_agent.specs.declared.begin_fault.BeginFault.{BeginFault}
use Rattle.udp_agent.specs.declared.setup.Setup.{Setup}

-- a line that ended so failed: by its wire, or for want of memory
abbrev pub is_failure : End → Bool
is_failure Rounds = false
is_failure Closed = false
is_failure Full = false
is_failure (Wire fault) = true
is_failure Memory = true

-- one of the lines that ended so failed
abbrev pub is_any_failure : List End → Bool
is_any_failure [] = false
is_any_failure (end ∷ ends) = is_failure end || is_any_failure ends

module _ {A W T C V P : Type 0} (worker_did : A → List Deed → A → Type 0) (worker_failures : A → ℕ)
    (went : W → List Act → W → Type 0) (failures : W → ℕ)
    (ticker_did : T → List Deed → T → Type 0) (ticker_failures : T → ℕ)
    (control_did : C → List ControlDeed → C → Type 0)
    (watch_went : V → List Note → V → Type 0) (pace_went : P → List Bool → P → Type 0) where
  -- All these lines, and the control line where there is a wire for it, each with such a watch and such
  -- a pace, went on interval by interval over this history, by this plan, and each ended so.
  pub record HaveServed (watch : V) (pace : P) (plan : Plan) (start : History) (run : Lines A W T)
      (control : Option C) (ends : List End) : Type 0 where
    pub later : History
    pub left : List (Watched A W T C V P)
    pub gone_on : HaveGoneOn worker_did worker_failures went failures ticker_did ticker_failures
        control_did watch_went pace_went plan start later (all_lines watch pace run control) left ends

  -- What comes of lines that are to go on: nothing is stated of where there was no memory to begin with.
  abbrev pub IsServingForever : V → P → Plan → History → Lines A W T → Option C
      → Result (Vec End Global) AllocError → Type 0
  IsServingForever watch pace plan start run control (Ok ends) =
      HaveServed watch pace plan start run control ends.items
  IsServingForever watch pace plan start run control (Err refused) = Unit {0}

  -- Lines of this setup went on, by its plan, with their requests audited where that was asked for, and
  -- with a control line where that was.
  pub record IsServedForeverBy (is_worker_audited : A → Bool) (setup : Setup) (asked controlled : Bool)
      (start : History) (ends : List End) : Type 0 where
    pub plan : Plan
    pub planned : IsPlan setup plan
    pub run : Lines A W T
    pub bound : AreLines setup run
    pub audited : AreAudited is_worker_audited asked run
    pub control : Option C
    pub control_is : is_some control ≡ controlled
    pub watch : V
    pub pace : P
    pub served : HaveServed watch pace plan start run control ends

  -- What comes of a setup that is served without an end. Where its sockets could not be bound, there was no
  -- memory to begin with, or a task had not begun in time, a socket that is named has its address in the setup.
  abbrev pub IsServedForever : (A → Bool) → Setup → Bool → Bool → History
      → Result (Vec End Global) BeginFault → Type 0
  IsServedForever is_worker_audited setup asked controlled start (Ok ends) =
      IsServedForeverBy is_worker_audited setup asked controlled start ends.items
  IsServedForever is_worker_audited setup asked controlled start (Err fault) = IsFaultOf setup fault
