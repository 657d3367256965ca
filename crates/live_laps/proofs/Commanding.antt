-- An interval of the control line, whose items were reported, and kept by nobody.
use Rattle.std.proofs.Common.{ℕ, List, slice_index_or, refl}
use Rattle.live_agent.specs.Lines.{RunStart}
use Rattle.live_agent.specs.declared.trace.End.{End}
use Rattle.live_control.specs.Deeds.{Deed as ControlDeed}
use Rattle.live_control.specs.Lines.{IsControlTurn, HasControlled}
use Rattle.live_control.specs.Runs.{all_items}
use Rattle.live_control.specs.Turns.{Turn, nothing_came, ended, broke, was_refused, was_reported, was_done}
use Rattle.live_control.specs.declared.item.ControlItem.{ControlItem}
use Rattle.live_control.specs.declared.tally.DropCounts.{DropCounts}
use Rattle.live_laps.specs.Laps.{HasCommanded}

-- as each command has one, they are a list all the same
pub commanded : {C K : Type 0} (control_did : C → List ControlDeed → C → Type 0)
    (kept : K → List ControlItem → K → Type 0) (Answers : DropCounts → Type 0) (s : RunStart) (rounds ports : ℕ)
    (a b : C) (k l : K) (m n : ℕ) (how : End)
    → HasControlled control_did kept Answers s ports rounds a b k l m n how
    → HasCommanded control_did Answers s rounds ports a b m n how
commanded control_did kept Answers s rounds ports a b k l m n how run = (
  all_items run.turns,
  record {
    turns = run.turns;
    are = run.are;
    behind = run.behind;
    acts = run.acts;
    recorded = refl;
    amount_is = run.amount_is;
    ends = run.ends;
  },
)

-- A turn is one too where any counts may be answered,
turn_of_any : (Answers : DropCounts → Type 0) (s : RunStart) (ports : ℕ) (t : Turn)
    → IsControlTurn Answers s ports t → IsControlTurn (λ counts. Unit) s ports t
turn_of_any Answers s ports nothing_came is = tt
turn_of_any Answers s ports ended is = tt
turn_of_any Answers s ports (broke fault) is = tt
turn_of_any Answers s ports (was_refused a refusal reply) is = is
turn_of_any Answers s ports (was_reported a made reply) is = (
  is.0,
  record {
    reads = is.1.reads;
    dropped = is.1.dropped;
    tallied = tt;
    world = is.1.world;
    counted = is.1.counted;
    says = is.1.says;
  },
)
turn_of_any Answers s ports (was_done a h reply) is = is

-- and so is an interval.
pub commanded_any : {C : Type 0} (control_did : C → List ControlDeed → C → Type 0)
    (Answers : DropCounts → Type 0) (s : RunStart) (rounds ports : ℕ) (a b : C) (m n : ℕ) (how : End)
    → HasCommanded control_did Answers s rounds ports a b m n how
    → HasCommanded control_did (λ counts. Unit) s rounds ports a b m n how
commanded_any control_did Answers s rounds ports a b m n how has = (
  has.0,
  record {
    turns = has.1.turns;
    are = λ k d within. turn_of_any Answers s ports (slice_index_or has.1.turns k d) (has.1.are k d within);
    behind = has.1.behind;
    acts = has.1.acts;
    recorded = has.1.recorded;
    amount_is = has.1.amount_is;
    ends = has.1.ends;
  },
)
