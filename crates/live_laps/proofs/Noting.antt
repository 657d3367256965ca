-- An interval that was reported to the watch.
use Rattle.std.proofs.Common.{◌≡◌, ℕ, Bool, List, refl, sym, subst}
use Rattle.wire_core.specs.Acts.{Act}
use Rattle.live_agent.specs.Deeds.{Deed}
use Rattle.live_control.specs.Deeds.{Deed as ControlDeed}
use Rattle.live_agent.specs.Lines.{RunStart}
use Rattle.live_agent.specs.declared.trace.End.{End}
use Rattle.live_agent.specs.declared.trace.End.TheVariants.{Memory}
use Rattle.live_agent.specs.declared.trace.Item.{Item}
use Rattle.live_laps.specs.declared.line.Line.{Line}
use Rattle.live_laps.specs.declared.line.Watched.{Watched}
use Rattle.live_laps.specs.Notes.{Note}
use Rattle.live_laps.specs.Laps.{Place, place_of, IsInterval, IsShort, IsNoted, IsNotedInterval}

module _ {A W T C V P : Type 0} (worker_did : A → List Deed → A → Type 0) (worker_failures : A → ℕ)
    (went : W → List Act → W → Type 0) (failures : W → ℕ)
    (ticker_did : T → List Deed → T → Type 0) (ticker_failures : T → ℕ)
    (control_did : C → List ControlDeed → C → Type 0)
    (watch_went : V → List Note → V → Type 0) (pace_went : P → List Bool → P → Type 0)
    (s : RunStart) (rounds : ℕ) where
  -- What was reported between two states of the watch is of the interval.
  pub noted_interval : (a : Watched A W T C V P) (line : Line A W T C) (watch : V) (m n o : ℕ) (trace : List Item) (how : End)
      → IsInterval worker_did worker_failures went failures ticker_did ticker_failures control_did s rounds a.line line m n trace how
      → (how ≡ Memory → IsShort a.line trace)
      → (noted : (notes : List Note) × IsNoted s.start line n trace notes × watch_went a.watch notes watch) → o ≡ n
      → IsNotedInterval worker_did worker_failures went failures ticker_did ticker_failures control_did watch_went pace_went s rounds
      (place_of a m) (place_of (record a { line = line; watch = watch }) o) how
  noted_interval a line watch m n o trace how interval memory noted same = record {
    trace = trace;
    interval = subst (λ (k : ℕ). IsInterval worker_did worker_failures went failures ticker_did ticker_failures control_did s rounds a.line line m k trace how) (sym same) interval;
    memory = memory;
    notes = noted.0;
    noted = subst (λ (k : ℕ). IsNoted s.start line k trace noted.0) (sym same) noted.1;
    reported = noted.2;
    pace_is = refl;
    faults_are = refl;
  }
