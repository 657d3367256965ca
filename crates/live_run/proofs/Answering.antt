-- What a run that took place answers.
use Rattle.std.proofs.Common.{ℕ, inr, List, sym, subst}
use Rattle.std.specs.Prelude.{Result, Ok, Err, MatchResult}
use Rattle.wire_core.specs.Acts.{Act}
use Rattle.history_core.specs.History.{History}
use Rattle.live_agent.specs.Deeds.{Deed}
use Rattle.live_agent.specs.declared.plan.Plan.{Plan}
use Rattle.live_run.specs.Reports.{IsReport, IsRunFault}
use Rattle.live_run.specs.Served.{HasServed, Serves}
use Rattle.live_run.specs.declared.lines.Lines.{Lines}
use Rattle.live_run.specs.declared.lines.Runs.{Runs}
use Rattle.live_run.specs.declared.report.Report.{Report}
use Rattle.live_run.specs.declared.report.RunFault.{RunFault}

module _ {A W T : Type 0} (worker_did : A → List Deed → A → Type 0) (worker_failures : A → ℕ)
    (went : W → List Act → W → Type 0) (failures : W → ℕ)
    (ticker_did : T → List Deed → T → Type 0) (ticker_failures : T → ℕ) where
  pub answered : (plan : Plan) (start later : History) (a b : Lines A W T) (runs : Runs)
      → HasServed worker_did worker_failures went failures ticker_did ticker_failures plan start later a b runs
      → (result : Result Report RunFault) → MatchResult result (IsReport later runs) (IsRunFault later runs)
      → Serves worker_did worker_failures went failures ticker_did ticker_failures plan start later a b result
  answered plan start later a b runs h (Ok report) is =
      record {
        served = subst (λ (r : Runs). HasServed worker_did worker_failures went failures ticker_did ticker_failures plan start later a b r) (sym is.runs_are) h;
        report_is = subst (λ (r : Runs). IsReport later r report) (sym is.runs_are) is;
      }
  answered plan start later a b runs h (Err why) is = inr (record { runs = runs; served = h; fault_is = is })
