-- One interval more.
use Rattle.std.proofs.Common.{ℕ, ◌+◌, Bool, true, List, [], ◌∷◌, refl, arith}
use Rattle.wire_core.specs.Acts.{Act}
use Rattle.live_agent.specs.Deeds.{Deed}
use Rattle.live_control.specs.Deeds.{Deed as ControlDeed}
use Rattle.live_agent.specs.Lines.{RunStart}
use Rattle.live_agent.specs.declared.trace.End.{End}
use Rattle.live_laps.specs.Notes.{Note}
use Rattle.live_laps.specs.Laps.{Place, HasPassedOn, HasPassedIntervals}

module _ {A W T C V P : Type 0} (worker_did : A → List Deed → A → Type 0) (worker_failures : A → ℕ)
    (went : W → List Act → W → Type 0) (failures : W → ℕ)
    (ticker_did : T → List Deed → T → Type 0) (ticker_failures : T → ℕ)
    (control_did : C → List ControlDeed → C → Type 0)
    (watch_went : V → List Note → V → Type 0) (pace_went : P → List Bool → P → Type 0)
    (s : RunStart) (rounds : ℕ) where
  -- nothing yet
  pub no_interval : (a : Place A W T C V P) → HasPassedIntervals worker_did worker_failures went failures ticker_did ticker_failures control_did watch_went pace_went s rounds 0 a a
  no_interval a = record { places = []; count_is = refl; laps = refl }

  -- an interval more, behind which the line goes on
  pub interval_more : (count : ℕ) (a b c : Place A W T C V P) (how : End)
      → HasPassedIntervals worker_did worker_failures went failures ticker_did ticker_failures control_did watch_went pace_went s rounds count a b
      → HasPassedOn worker_did worker_failures went failures ticker_did ticker_failures control_did watch_went pace_went s rounds b c how true
      → HasPassedIntervals worker_did worker_failures went failures ticker_did ticker_failures control_did watch_went pace_went s rounds (count + 1) a c
  interval_more count a b c how so_far interval =
      record { places = b ∷ so_far.places; count_is = omega (arith, so_far.count_is); laps = (so_far.laps, how, interval) }
