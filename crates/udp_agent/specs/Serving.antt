-- What comes of serving lines over a history.
use Rattle.std.specs.Prelude.{ℕ, List, Result, Ok, Err}
use Rattle.wire_core.specs.Acts.{Act}
use Rattle.history_core.specs.History.{History}
use Rattle.live_agent.specs.Deeds.{Deed}
use Rattle.live_agent.specs.declared.plan.Plan.{Plan}
use Rattle.live_run.specs.Served.{Serves}
use Rattle.live_run.specs.declared.lines.Lines.{Lines}
use Rattle.live_run.specs.declared.report.Report.{Report}
use Rattle.live_run.specs.declared.report.RunFault.{RunFault}
use Rattle.udp_agent.specs.Binding.{IsPlan, AreLines, IsFaultOf}
use Rattle.udp_agent.specs.declared.serving.ServeFault.{ServeFault}
use Rattle.udp_agent.specs.declared.serving.ServeFault.TheVariants.{Begin, Run}
use Rattle.udp_agent.specs.declared.setup.Setup.{Setup}

module _ {A W T : Type 0} (worker_did : A → List Deed → A → Type 0) (worker_failures : A → ℕ)
    (went : W → List Act → W → Type 0) (failures : W → ℕ)
    (ticker_did : T → List Deed → T → Type 0) (ticker_failures : T → ℕ) where
  -- These lines were run over this history, and this is what the run answers: for a history that they
  -- left, and lines as they left them.
  pub record IsServing (plan : Plan) (start : History) (lines : Lines A W T)
      (answer : Result Report RunFault) : Type 0 where
    pub later : History
    pub left : Lines A W T
    pub serves : Serves worker_did worker_failures went failures ticker_did ticker_failures plan start later lines left answer

  -- Lines of this setup were, by its plan.
  pub record IsServingBy (setup : Setup) (start : History) (answer : Result Report RunFault)
      : Type 0 where
    pub plan : Plan
    pub planned : IsPlan setup plan
    pub lines : Lines A W T
    pub bound : AreLines setup lines
    pub served : IsServing plan start lines answer

  -- What comes of a setup. Where nothing was served, a socket that is named has its address in the setup.
  abbrev pub IsServed : Setup → History → Result Report ServeFault → Type 0
  IsServed setup start (Ok report) = IsServingBy setup start (Ok report)
  IsServed setup start (Err (Run why)) = IsServingBy setup start (Err why)
  IsServed setup start (Err (Begin fault)) = IsFaultOf setup fault
