-- A whole run: its lines over one history, and what it answers.
use Rattle.std.specs.Prelude.{◌≡◌, ◌⊎◌, ℕ, List, Result, Ok, Err}
use Rattle.wire_core.specs.Acts.{Act}
use Rattle.history_core.specs.History.{History, IsHistory}
use Rattle.live_agent.specs.Deeds.{Deed}
use Rattle.live_agent.specs.Lines.{run_start_of}
use Rattle.live_agent.specs.declared.plan.Plan.{Plan}
use Rattle.live_lock.specs.Sharing.{IsHeld}
use Rattle.live_run.specs.Crews.{CrewRan, entered_of}
use Rattle.live_run.specs.Reports.{IsReport, IsRunFault}
use Rattle.live_run.specs.declared.lines.Lines.{Lines}
use Rattle.live_run.specs.declared.lines.Runs.{Runs}
use Rattle.live_run.specs.declared.report.Report.{Report}
use Rattle.live_run.specs.declared.report.RunFault.{RunFault}
use Rattle.live_run.specs.declared.report.RunFault.TheVariants as fault

module _ {A W T : Type 0} (worker_did : A → List Deed → A → Type 0) (worker_failures : A → ℕ)
    (went : W → List Act → W → Type 0) (failures : W → ℕ)
    (ticker_did : T → List Deed → T → Type 0) (ticker_failures : T → ℕ) where
  -- All lines ran over the history that was handed in, and this is what became of it: a legal one,
  -- which goes on from it by as many entries as the lines made.
  pub record HasServed (plan : Plan) (start later : History) (a b : Lines A W T) (runs : Runs)
      : Type 0 where
    pub crew : CrewRan worker_did worker_failures went failures ticker_did ticker_failures
        (run_start_of start plan) plan.rounds a b runs
    pub held : IsHeld start later (entered_of runs)
    pub legal : IsHistory later

  -- A run that has a report.
  pub record IsServed (plan : Plan) (start later : History) (a b : Lines A W T) (report : Report)
      : Type 0 where
    pub served : HasServed plan start later a b report.runs
    pub report_is : IsReport later report.runs report

  -- A run that has none: it took place all the same.
  pub record HasFailed (plan : Plan) (start later : History) (a b : Lines A W T) (why : RunFault)
      : Type 0 where
    pub runs : Runs
    pub served : HasServed plan start later a b runs
    pub fault_is : IsRunFault later runs why

  -- There was no memory to begin with, and nothing ran.
  abbrev pub HasNotBegun : History → History → Lines A W T → Lines A W T → RunFault → Type 0
  HasNotBegun start later a b why = (why ≡ fault.Memory) × (later ≡ start) × (b ≡ a)

  -- What a run answers: the lines, the history, and the report or why there is none.
  abbrev pub Serves : Plan → History → History → Lines A W T → Lines A W T
      → Result Report RunFault → Type 0
  Serves plan start later a b (Ok report) = IsServed plan start later a b report
  Serves plan start later a b (Err why) =
      HasNotBegun start later a b why ⊎ HasFailed plan start later a b why
