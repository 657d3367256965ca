-- Lines that ran over one history: what each did over its own wire, and how many entries they made.
use Rattle.std.specs.Prelude.{◌≡◌, ℕ, ◌+◌, ◌<◌, ◌≤◌, List, [], ◌∷◌, Vec, vec_len, vec_capacity}
use Rattle.std.specs.declared.alloc.Global.{Global}
use Rattle.wire_core.specs.Acts.{Act}
use Rattle.live_agent.specs.declared.trace.Ran.{Ran}
use Rattle.live_agent.specs.Deeds.{Deed}
use Rattle.live_agent.specs.Lines.{RunStart, HasWorked, HasPortRun, HasTicked}
use Rattle.live_agent.specs.Runs.{failures_at, adds}
use Rattle.live_agent.specs.Turns.{entered_in}
use Rattle.live_lock.specs.Standing.{Standing}
use Rattle.live_run.specs.declared.lines.Lines.{Lines}
use Rattle.live_run.specs.declared.lines.Runs.{Runs}

-- The worker of this number ran its rounds over its wire, and its wire counted its failure, if that
-- ended it.
pub record WorkerRan {W : Type 0} (did : W → List Deed → W → Type 0) (failures : W → ℕ)
    (s : RunStart) (rounds worker : ℕ) (a b : W) (ran : Ran) : Type 0 where
  pub run : HasWorked did adds s rounds worker a b [] ran.trace 0 (entered_in ran.trace) ran.end
  pub failed : failures b ≡ failures_at ran.end (failures a)

-- The same of the port of this number, whose link went up first.
pub record PortRan {W : Type 0} (went : W → List Act → W → Type 0) (failures : W → ℕ)
    (s : RunStart) (rounds port : ℕ) (a b : W) (ran : Ran) : Type 0 where
  pub run : HasPortRun went adds s port rounds a b [] ran.trace 0 (entered_in ran.trace) ran.end
  pub failed : failures b ≡ failures_at ran.end (failures a)

-- The same of the ticker, at its pace.
pub record TickerRan {W : Type 0} (did : W → List Deed → W → Type 0) (failures : W → ℕ)
    (s : RunStart) (rounds : ℕ) (a b : W) (ran : Ran) : Type 0 where
  pub run : HasTicked did adds s rounds a b [] ran.trace 0 (entered_in ran.trace) ran.end
  pub failed : failures b ≡ failures_at ran.end (failures a)

-- A line ran so, and between two counts of its thread's entries made those of its trace.
abbrev pub RanBetween : {W : Type 0} → (W → W → Ran → Type 0) → W → ℕ → W → ℕ → Ran → Type 0
RanBetween HasRan a m b n ran = HasRan a b ran × (n ≡ m + entered_in ran.trace)

-- Each line, numbered from this number on, ran so between the two states of its wire.
abbrev pub AllRan : {W : Type 0} → (ℕ → W → W → Ran → Type 0) → ℕ → List W → List W → List Ran → Type 0
AllRan HasRan n [] [] [] = Unit {0}
AllRan HasRan n (a ∷ xs) (b ∷ ys) (ran ∷ rans) = HasRan n a b ran × AllRan HasRan (n + 1) xs ys rans
AllRan HasRan n _ _ _ = ⊥

-- All lines of a run, each over its own wire.
pub record CrewRan {A W T : Type 0} (worker_did : A → List Deed → A → Type 0)
    (worker_failures : A → ℕ) (went : W → List Act → W → Type 0) (failures : W → ℕ)
    (ticker_did : T → List Deed → T → Type 0) (ticker_failures : T → ℕ) (s : RunStart) (rounds : ℕ)
    (a b : Lines A W T) (runs : Runs) : Type 0 where
  pub workers : AllRan (WorkerRan worker_did worker_failures s rounds) 0 a.workers.items
      b.workers.items runs.workers.items
  pub ports : AllRan (PortRan went failures s rounds) 1 a.ports.items b.ports.items
      runs.ports.items
  pub ticker : TickerRan ticker_did ticker_failures s rounds a.ticker b.ticker runs.ticker

-- how many entries these lines made
abbrev pub entered_by : List Ran → ℕ
entered_by [] = 0
entered_by (ran ∷ rans) = entered_in ran.trace + entered_by rans

-- the same of all lines of a run
abbrev pub entered_of : Runs → ℕ
entered_of runs =
    entered_by runs.workers.items + (entered_by runs.ports.items + entered_in runs.ticker.trace)

-- Each of these, at its place from this one on, went on so, and ended so; together they made the entries
-- between two counts.
abbrev pub AllGone : {N E : Type 0} → (ℕ → N → ℕ → N → ℕ → E → Type 0) → ℕ → List N → List N → List E
    → ℕ → ℕ → Type 0
AllGone gone place [] [] [] m n = n ≡ m
AllGone gone place (a ∷ olds) (b ∷ news) (end ∷ ends) m n =
    (made : ℕ) × gone place a 0 b made end × AllGone gone (place + 1) olds news ends (m + made) n
AllGone gone place _ _ _ m n = ⊥

-- These lines may begin: they are fewer than the limit, and there is space for how each ends.
pub record MayBegin {N E : Type 0} (limit : ℕ) (lines : Vec N Global) (ends : Vec E Global) : Type 0 where
  pub few : vec_len lines < limit
  pub empty : ends.items ≡ []
  pub space : vec_len lines ≤ vec_capacity ends

-- They went on side by side. The share that comes back has the parts of the one that was handed in, and
-- counts their entries too. What comes back stands in the memory that was there.
pub record HaveRun {N E : Type 0} (gone : ℕ → N → ℕ → N → ℕ → E → Type 0) (lines : Vec N Global)
    (ends : Vec E Global) (share : Standing) (after : Standing × Vec N Global × Vec E Global)
    : Type 0 where
  pub all_gone : AllGone gone 0 lines.items after.1.items after.2.items share.amount after.0.amount
  pub parts : after.0.parts ≡ share.parts
  pub lens : (vec_len after.1 ≡ vec_len lines) × (vec_len after.2 ≡ vec_len lines)
  pub spaces : (vec_capacity after.1 ≡ vec_capacity lines) × (vec_capacity after.2 ≡ vec_capacity ends)
