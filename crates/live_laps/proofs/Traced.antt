-- An interval of a line, whose items were added to a sum.
use Rattle.std.proofs.Common.{◌≡◌, ◌⊎◌, ℕ, Bool, true, false, List, [], ◌∷◌, ◌++◌, refl, inl, inr, ⊎_elim}
use Rattle.std.specs.Prelude.{Option, Some, None}
use Rattle.wire_core.specs.Acts.{Act}
use Rattle.wire_core.specs.declared.wire.WireFault.{WireFault}
use Rattle.history_core.specs.declared.applied.Applied.{Applied}
use Rattle.history_core.specs.declared.applied.Applied.TheVariants as applied
use Rattle.live_agent.specs.Deeds.{Deed}
use Rattle.live_control.specs.Deeds.{Deed as ControlDeed}
use Rattle.live_agent.specs.Lines.{RunStart, IsPortTurn, HasWorked, HasLinked, HasPortRun, HasTicked, worker_deeds, ticker_deeds, end_after_link}
use Rattle.live_agent.specs.Runs.{HasRun, failures_at, adds}
use Rattle.live_agent.specs.Turns.{acts_of, item_of}
use Rattle.live_agent.specs.declared.trace.End.{End}
use Rattle.live_agent.specs.declared.trace.End.TheVariants.{Rounds, Closed, Full, Wire, Memory}
use Rattle.live_agent.specs.declared.trace.Item.{Item}
use Rattle.live_agent.specs.declared.trace.Item.TheVariants as item
use Rattle.live_agent.proofs.Recording.{run_traced, port_traced}
use Rattle.live_laps.specs.Laps.{IsInterval, IsShort, is_first_entered}
use Rattle.live_laps.specs.Sums.{sum_of, Sums}
use Rattle.live_laps.specs.SumLaws.{sums_more}
use Rattle.live_laps.specs.declared.line.Line.TheVariants.{Worker, Port, Ticker}
use Rattle.live_laps.specs.declared.sum.IntervalSum.{IntervalSum}

-- the item of a link that ended its line for want of memory
short_item : (a : Applied) (fault : Option WireFault) → Some Memory ≡ end_after_link a fault → item_of a ∷ [] ≡ item.Short ∷ []
short_item a (Some fault) e = cc
short_item (applied.Done receipt audit) None e = cc
short_item (applied.Dropped receipt cause audit) None e = cc
short_item (applied.Short back) None e = refl
short_item (applied.HistoryFull back) None e = cc

module _ {A W T C : Type 0} (worker_did : A → List Deed → A → Type 0) (worker_failures : A → ℕ)
    (went : W → List Act → W → Type 0) (failures : W → ℕ)
    (ticker_did : T → List Deed → T → Type 0) (ticker_failures : T → ℕ)
    (control_did : C → List ControlDeed → C → Type 0) (s : RunStart) (rounds : ℕ) where
  pub worked_interval : (number : ℕ) (a b : A) (begin sum : IntervalSum) (m n : ℕ) (how : End) → begin ≡ sum_of []
      → HasWorked worker_did Sums s rounds number a b begin sum m n how → worker_failures b ≡ failures_at how (worker_failures a) → (how ≡ Memory → ⊥)
      → (trace : List Item) × (sum ≡ sum_of trace) × IsInterval worker_did worker_failures went failures ticker_did ticker_failures control_did s rounds (Worker number a) (Worker number b) m n trace how
      × (how ≡ Memory → IsShort {A = A} {W = W} {T = T} {C = C} (Worker number a) trace)
  worked_interval number a b begin sum m n how none run failed fits =
      let t = run_traced worker_did Sums (worker_deeds number) _ rounds a b begin sum m n how run in (t.0, t.1 [] none, (refl, t.2, failed), fits)

  pub begun_interval : (number : ℕ) (is_begun : Bool) (a b : W) (begin sum : IntervalSum) (m n : ℕ) (how : End) → is_begun ≡ true → begin ≡ sum_of []
      → HasRun went Sums acts_of (IsPortTurn s number) rounds a b begin sum m n how → failures b ≡ failures_at how (failures a) → (how ≡ Memory → ⊥)
      → (trace : List Item) × (sum ≡ sum_of trace) × IsInterval worker_did worker_failures went failures ticker_did ticker_failures control_did s rounds (Port number is_begun a) (Port number is_begun b) m n trace how
      × (how ≡ Memory → IsShort {A = A} {W = W} {T = T} {C = C} (Port number is_begun a) trace)
  begun_interval number true a b begin sum m n how is none run failed fits =
      let t = run_traced went Sums acts_of _ rounds a b begin sum m n how run in (t.0, t.1 [] none, (refl, refl, t.2, failed), fits)
  begun_interval number false a b begin sum m n how is none run failed fits = cc

  -- an interval of a port that begins with its link, and ends for another cause than want of memory
  linked_else : (number : ℕ) (has_begun : Bool) (a b : W) (begin sum : IntervalSum) (m n : ℕ) (how : End) → begin ≡ sum_of []
      → HasPortRun went Sums s number rounds a b begin sum m n how → failures b ≡ failures_at how (failures a)
      → ((items : List Item) → sum ≡ sum_of items → has_begun ≡ is_first_entered items) → (how ≡ Memory → ⊥)
      → (trace : List Item) × (sum ≡ sum_of trace) × IsInterval worker_did worker_failures went failures ticker_did ticker_failures control_did s rounds (Port number false a) (Port number has_begun b) m n trace how
      × (how ≡ Memory → IsShort {A = A} {W = W} {T = T} {C = C} (Port number false a) trace)
  linked_else number has_begun a b begin sum m n how none run failed first fits =
      let t = port_traced went Sums sums_more s number rounds a b begin sum m n how run in
      (t.0, t.1 [] none, (refl, first t.0 (t.1 [] none), t.2, failed), λ is. absurd (fits is))

  -- the same that ends for want of memory: that of its link
  linked_short : (number : ℕ) (has_begun : Bool) (a b : W) (begin sum : IntervalSum) (m n : ℕ) → begin ≡ sum_of []
      → HasLinked went Sums s number a b begin sum m n (Some Memory) → failures b ≡ failures_at Memory (failures a)
      → ((items : List Item) → sum ≡ sum_of items → has_begun ≡ is_first_entered items)
      → (trace : List Item) × (sum ≡ sum_of trace) × IsInterval worker_did worker_failures went failures ticker_did ticker_failures control_did s rounds (Port number false a) (Port number has_begun b) m n trace Memory
      × (Memory ≡ Memory → IsShort {A = A} {W = W} {T = T} {C = C} (Port number false a) trace)
  linked_short number has_begun a b begin sum m n none linked failed first =
      let trace = item_of linked.happening.applied ∷ [] in
      let is_sum : sum ≡ sum_of trace = linked.recorded [] none in
      let in_list : HasLinked went adds s number a b [] trace m n (Some Memory) = record {
        happening = linked.happening;
        happens = linked.happens;
        behind = linked.behind;
        acts = linked.acts;
        recorded = refl;
        amount_is = linked.amount_is;
        ends_so = linked.ends_so;
      } in
      (trace, is_sum, (refl, first trace is_sum, inr (inl in_list), failed), λ is. short_item linked.happening.applied linked.happening.fault linked.ends_so)

  pub linked_interval : (number : ℕ) (is_begun has_begun : Bool) (a b : W) (begin sum : IntervalSum) (m n : ℕ) (how : End) → is_begun ≡ false → begin ≡ sum_of []
      → HasPortRun went Sums s number rounds a b begin sum m n how → failures b ≡ failures_at how (failures a)
      → ((items : List Item) → sum ≡ sum_of items → has_begun ≡ is_first_entered items)
      → (how ≡ Memory → (Unit {0} → ⊥) ⊎ HasLinked went Sums s number a b begin sum m n (Some Memory))
      → (trace : List Item) × (sum ≡ sum_of trace) × IsInterval worker_did worker_failures went failures ticker_did ticker_failures control_did s rounds (Port number is_begun a) (Port number has_begun b) m n trace how
      × (how ≡ Memory → IsShort {A = A} {W = W} {T = T} {C = C} (Port number is_begun a) trace)
  linked_interval number true has_begun a b begin sum m n how is none run failed first short = cc
  linked_interval number false has_begun a b begin sum m n Rounds is none run failed first short = linked_else number has_begun a b begin sum m n Rounds none run failed first (λ e. cc)
  linked_interval number false has_begun a b begin sum m n Closed is none run failed first short = linked_else number has_begun a b begin sum m n Closed none run failed first (λ e. cc)
  linked_interval number false has_begun a b begin sum m n Full is none run failed first short = linked_else number has_begun a b begin sum m n Full none run failed first (λ e. cc)
  linked_interval number false has_begun a b begin sum m n (Wire fault) is none run failed first short = linked_else number has_begun a b begin sum m n (Wire fault) none run failed first (λ e. cc)
  linked_interval number false has_begun a b begin sum m n Memory is none run failed first short =
      ⊎_elim (λ full. absurd (full tt)) (λ linked. linked_short number has_begun a b begin sum m n none linked failed first) (short refl)

  pub ticked_interval : (a b : T) (begin sum : IntervalSum) (m n : ℕ) (how : End) → begin ≡ sum_of []
      → HasTicked ticker_did Sums s rounds a b begin sum m n how → ticker_failures b ≡ failures_at how (ticker_failures a) → (how ≡ Memory → ⊥)
      → (trace : List Item) × (sum ≡ sum_of trace) × IsInterval worker_did worker_failures went failures ticker_did ticker_failures control_did s rounds (Ticker a) (Ticker b) m n trace how
      × (how ≡ Memory → IsShort {A = A} {W = W} {T = T} {C = C} (Ticker a) trace)
  ticked_interval a b begin sum m n how none run failed fits =
      let t = run_traced ticker_did Sums ticker_deeds _ rounds a b begin sum m n how run in (t.0, t.1 [] none, (t.2, failed), fits)
