-- Lines that go on interval by interval: what each interval is, what is between two of them, and how
-- lines went on side by side.
use Rattle.std.specs.Prelude.{◌≡◌, ◌⊎◌, ◌||◌, ℕ, Bool, true, false, List, [], ◌∷◌, length, Result, Ok, Err, Vec}
use Rattle.std.specs.declared.alloc.AllocError.{AllocError}
use Rattle.std.specs.declared.alloc.Global.{Global}
use Rattle.wire_core.specs.Acts.{Act, one_more}
use Rattle.history_core.specs.History.{History, IsHistory}
use Rattle.live_lock.specs.Counting.{IsCounted}
use Rattle.live_lock.specs.Sharing.{IsHeld}
use Rattle.live_lock.specs.declared.held.Counts.{Counts}
use Rattle.live_agent.specs.Deeds.{Deed}
use Rattle.live_control.specs.Deeds.{Deed as ControlDeed}
use Rattle.live_agent.specs.Lines.{RunStart, run_start_of, IsPortTurn, HasWorked, HasPortRun, HasTicked}
use Rattle.live_agent.specs.Runs.{HasRun, failures_at, adds}
use Rattle.live_agent.specs.Turns.{acts_of}
use Rattle.live_agent.specs.declared.plan.Plan.{Plan}
use Rattle.live_agent.specs.declared.trace.End.{End}
use Rattle.live_agent.specs.declared.trace.End.TheVariants.{Rounds, Closed, Full, Wire, Memory}
use Rattle.live_agent.specs.declared.trace.Item.{Item}
use Rattle.live_agent.specs.declared.trace.Item.TheVariants.{Entered, Refused, Short}
use Rattle.live_agent.specs.declared.trace.Item.TheVariants as item
use Rattle.live_control.specs.Lines.{HasControlled}
use Rattle.live_control.specs.Runs.{adds as control_adds}
use Rattle.live_control.specs.declared.item.ControlItem.{ControlItem}
use Rattle.live_control.specs.declared.tally.DropCounts.{DropCounts}
use Rattle.live_run.specs.Crews.{AllGone}
use Rattle.live_laps.specs.Lines.{name_of}
use Rattle.live_laps.specs.Notes.{Note, interval_worked, interval_ticked, line_failed, line_ended, worked_in}
use Rattle.live_laps.specs.declared.line.Line.{Line}
use Rattle.live_laps.specs.declared.line.Line.TheVariants.{Worker, Port, Ticker, Control}
use Rattle.live_laps.specs.declared.line.Watched.{Watched}

-- the first event or datagram of a trace was entered
abbrev pub is_first_entered : List Item → Bool
is_first_entered [] = false
is_first_entered (Entered receipt ∷ items) = true
is_first_entered (Refused cause ∷ items) = false
is_first_entered (Short ∷ items) = false
is_first_entered (item.Full ∷ items) = false

-- An interval of the control line of so many ports: one item for each command; and where the counts were
-- asked for, they were answered with such drops.
abbrev pub HasCommanded : {C : Type 0} → (C → List ControlDeed → C → Type 0) → (DropCounts → Type 0) → RunStart
    → ℕ → ℕ → C → C → ℕ → ℕ → End → Type 0
HasCommanded control_did Answers s rounds ports a b m n end = (items : List ControlItem)
    × HasControlled control_did control_adds Answers s ports rounds a b [] items m n end

-- All of these went on over the history that was handed in, and this is what became of it: a legal
-- one, which goes on from it by as many entries as they made.
pub record HaveGone {N : Type 0} (gone : RunStart → ℕ → ℕ → N → ℕ → N → ℕ → End → Type 0) (plan : Plan)
    (start later : History) (olds news : List N) (ends : List End) : Type 0 where
  pub entries : ℕ
  pub lines : AllGone (gone (run_start_of start plan) plan.rounds) 0 olds news ends 0 entries
  pub held : IsHeld start later entries
  pub legal : IsHistory later

module _ {A W T C : Type 0} (worker_did : A → List Deed → A → Type 0) (worker_failures : A → ℕ)
    (went : W → List Act → W → Type 0) (failures : W → ℕ)
    (ticker_did : T → List Deed → T → Type 0) (ticker_failures : T → ℕ)
    (control_did : C → List ControlDeed → C → Type 0) (s : RunStart) (rounds : ℕ) where
  -- An interval of a port, which begins with its link until that was entered.
  abbrev pub HasPassed : Bool → ℕ → W → W → ℕ → ℕ → List Item → End → Type 0
  HasPassed false port a b m n trace end = HasPortRun went adds s port rounds a b [] trace m n end
  HasPassed true port a b m n trace end =
      HasRun went adds acts_of (IsPortTurn s port) rounds a b [] trace m n end

  -- An interval of a line, from one count of its thread's entries to another, with the trace of what
  -- became of its events and datagrams and how it ended: the line is the same afterwards but for its
  -- wire, and that a port's link went up: where it begins an interval, it is the first item of the
  -- trace, and it went up if that was entered (an interval may end for want of memory before it is). A
  -- wire counts a fault that ended it, but for that of the control line, whose commands are no items of
  -- the trace.
  abbrev pub IsInterval : Line A W T C → Line A W T C → ℕ → ℕ → List Item → End → Type 0
  IsInterval (Worker number a) (Worker number' b) m n trace end =
      (number' ≡ number) × HasWorked worker_did adds s rounds number a b [] trace m n end
      × (worker_failures b ≡ failures_at end (worker_failures a))
  IsInterval (Port number is_begun a) (Port number' is_begun' b) m n trace end =
      (number' ≡ number) × (is_begun' ≡ (is_begun || is_first_entered trace))
      × HasPassed is_begun number a b m n trace end
      × (failures b ≡ failures_at end (failures a))
  IsInterval (Ticker a) (Ticker b) m n trace end =
      HasTicked ticker_did adds s rounds a b [] trace m n end
      × (ticker_failures b ≡ failures_at end (ticker_failures a))
  IsInterval (Control ports a) (Control ports' b) m n trace end =
      (ports' ≡ ports) × (trace ≡ []) × HasCommanded control_did (λ counts. Unit) s rounds ports a b m n end
  IsInterval _ _ m n trace end = ⊥

-- What is reported to the watch of a line of an interval that left this trace, once its thread has
-- made so many entries: what a worker's interval amounted to, and for one of the ticker how far the
-- history was at some time, by no fewer entries than these.
abbrev pub IsNoted : {A W T C : Type 0} → History → Line A W T C → ℕ → List Item → List Note → Type 0
IsNoted start (Worker number wire) made trace notes = notes ≡ interval_worked (worked_in trace) ∷ []
IsNoted start (Port number is_begun wire) made trace notes = notes ≡ []
IsNoted start (Ticker wire) made trace notes =
    (counts : Counts) × IsCounted start made counts × (notes ≡ interval_ticked counts ∷ [])
IsNoted start (Control ports wire) made trace notes = notes ≡ []

-- A line with its watch, its pace and its count of faults, and how many entries its thread has made by
-- then.
pub record Place (A W T C V P : Type 0) : Type 0 where
  pub watched : Watched A W T C V P
  pub amount : ℕ

abbrev pub place_of : {A W T C V P : Type 0} → Watched A W T C V P → ℕ → Place A W T C V P
place_of watched amount = record { watched = watched; amount = amount }

module _ {A W T C V P : Type 0} (watch_went : V → List Note → V → Type 0)
    (pace_went : P → List Bool → P → Type 0) where
  -- A fault that ended an interval so: it was counted, and reported once to the watch with that count,
  -- and the pace answered this once.
  pub record HasFailed (a b : Watched A W T C V P) (how : End) (answer : Bool) : Type 0 where
    pub line_is : b.line ≡ a.line
    pub faults_are : b.faults ≡ one_more a.faults
    pub reported : watch_went a.watch (line_failed (name_of a.line) how b.faults ∷ []) b.watch
    pub paced : pace_went a.pace (answer ∷ []) b.pace

  -- Whether a line goes on behind an interval that ended so: where its rounds are over, at once; where
  -- a fault ended it, if its pace says so behind the report; and not where its wire or its ticker's
  -- pace has ended, or no number is left for an entry.
  abbrev pub GoesOn : Watched A W T C V P → Watched A W T C V P → End → Bool → Type 0
  GoesOn a b Rounds answer = (answer ≡ true) × (b ≡ a)
  GoesOn a b Closed answer = (answer ≡ false) × (b ≡ a)
  GoesOn a b Full answer = (answer ≡ false) × (b ≡ a)
  GoesOn a b (Wire fault) answer = HasFailed a b (Wire fault) answer
  GoesOn a b Memory answer = HasFailed a b Memory answer

-- An interval of such a line may end for want of memory: where the link of a port that was not up found
-- none, and nothing else became of the interval; or the control line, for an answer.
abbrev pub IsShort : {A W T C : Type 0} → Line A W T C → List Item → Type 0
IsShort (Worker number wire) trace = ⊥
IsShort (Port number false wire) trace = trace ≡ Short ∷ []
IsShort (Port number true wire) trace = ⊥
IsShort (Ticker wire) trace = ⊥
IsShort (Control ports wire) trace = Unit

module _ {A W T C V P : Type 0} (worker_did : A → List Deed → A → Type 0) (worker_failures : A → ℕ)
    (went : W → List Act → W → Type 0) (failures : W → ℕ)
    (ticker_did : T → List Deed → T → Type 0) (ticker_failures : T → ℕ)
    (control_did : C → List ControlDeed → C → Type 0)
    (watch_went : V → List Note → V → Type 0) (pace_went : P → List Bool → P → Type 0)
    (s : RunStart) (rounds : ℕ) where
  -- An interval from one place to another that ended so. One of a worker or of the ticker was reported once to
  -- the watch, and none of another line. The pace and the count of faults are the same. Only a port's link, and
  -- a command, ends one for want of memory.
  pub record IsNotedInterval (a b : Place A W T C V P) (how : End) : Type 0 where
    pub trace : List Item
    pub interval : IsInterval worker_did worker_failures went failures ticker_did ticker_failures control_did s rounds
        a.watched.line b.watched.line a.amount b.amount trace how
    pub memory : how ≡ Memory → IsShort a.watched.line trace
    pub notes : List Note
    pub noted : IsNoted s.start b.watched.line b.amount trace notes
    pub reported : watch_went a.watched.watch notes b.watched.watch
    pub pace_is : b.watched.pace ≡ a.watched.pace
    pub faults_are : b.watched.faults ≡ a.watched.faults

  -- An interval that ended so, and what is behind it: the next, or none.
  pub record HasPassedOn (a b : Place A W T C V P) (how : End) (answer : Bool) : Type 0 where
    pub between : Watched A W T C V P
    pub interval : IsNotedInterval a (place_of between b.amount) how
    pub behind : GoesOn watch_went pace_went between b.watched how answer

  -- Intervals lead from one place to another, each from the place to which the one before it led, and
  -- behind each the line went on: that of the latest first.
  abbrev pub AreIntervals : List (Place A W T C V P) → Place A W T C V P → Place A W T C V P → Type 0
  AreIntervals [] a b = b ≡ a
  AreIntervals (at ∷ before) a b = AreIntervals before a at × (how : End) × HasPassedOn at b how true

  -- so many of them
  pub record HasPassedIntervals (count : ℕ) (a b : Place A W T C V P) : Type 0 where
    pub places : List (Place A W T C V P)
    pub count_is : length places ≡ count
    pub laps : AreIntervals places a b

  -- Intervals behind which the line went on, and one behind which it did not, as was reported to the
  -- watch last of all.
  pub record HasEnded (a b : Place A W T C V P) (end : End) : Type 0 where
    pub count : ℕ
    pub place : Place A W T C V P
    pub passed_intervals : HasPassedIntervals count a place
    pub closing : Watched A W T C V P
    pub last : HasPassedOn place (place_of closing b.amount) end false
    pub reported : watch_went closing.watch (line_ended (name_of closing.line) end ∷ []) b.watched.watch
    pub rest_is : b.watched ≡ record closing { watch = b.watched.watch }

  -- A line went on interval by interval until one ended it, or there were as many as can be counted.
  abbrev pub HasGoneOn : Place A W T C V P → Place A W T C V P → End → Type 0
  HasGoneOn a b end = HasEnded a b end ⊎ ((end ≡ Rounds) × HasPassedIntervals 18446744073709551615 a b)

module _ {A W T C V P : Type 0} (worker_did : A → List Deed → A → Type 0) (worker_failures : A → ℕ)
    (went : W → List Act → W → Type 0) (failures : W → ℕ)
    (ticker_did : T → List Deed → T → Type 0) (ticker_failures : T → ℕ)
    (control_did : C → List ControlDeed → C → Type 0)
    (watch_went : V → List Note → V → Type 0) (pace_went : P → List Bool → P → Type 0) where
  -- A line went on so between two counts of its thread's entries, whichever its place.
  abbrev pub GoneOn : RunStart → ℕ → ℕ → Watched A W T C V P → ℕ → Watched A W T C V P → ℕ → End → Type 0
  GoneOn s rounds place a m b n end = HasGoneOn worker_did worker_failures went failures ticker_did
      ticker_failures control_did watch_went pace_went s rounds (place_of a m) (place_of b n) end

  -- All lines went on over the history that was handed in, and this is what became of it.
  abbrev pub HaveGoneOn : Plan → History → History → List (Watched A W T C V P)
      → List (Watched A W T C V P) → List End → Type 0
  HaveGoneOn plan start later olds news ends = HaveGone GoneOn plan start later olds news ends

  -- What a run without an end answers: how each line ended, or that there was no memory to begin
  -- with, and nothing ran.
  abbrev pub ServesLaps : Plan → History → History → List (Watched A W T C V P)
      → List (Watched A W T C V P) → Result (Vec End Global) AllocError → Type 0
  ServesLaps plan start later olds news (Ok ends) = HaveGoneOn plan start later olds news ends.items
  ServesLaps plan start later olds news (Err refused) = (later ≡ start) × (news ≡ olds)
