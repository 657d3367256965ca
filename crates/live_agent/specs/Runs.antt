-- The loop of a line: its turns one after another, until its rounds are over or a turn ends it.
use Rattle.std.specs.Prelude.{◌≡◌, ℕ, ◌+◌, ◌<◌, ◌≤◌, List, [], ◌∷◌, ◌++◌, length, Option, Some, None, All}
use Rattle.wire_core.specs.Acts.{one_more}
use Rattle.live_agent.specs.declared.trace.End.{End}
use Rattle.live_agent.specs.declared.trace.End.TheVariants as end
use Rattle.live_agent.specs.declared.trace.Item.{Item}
use Rattle.live_agent.specs.Turns.{Turn, was_taken, was_own, items_of, end_of, entered_in}

-- The event of a turn, if it has one, took its place after the line's thread had made at least so many
-- entries.
abbrev pub IsBehind : ℕ → Turn → Type 0
IsBehind made (was_taken a h) = made ≤ h.made
IsBehind made (was_own h) = made ≤ h.made
IsBehind made turn = Unit

-- So did the events of turns one behind another, each behind the entries of those before it too.
abbrev pub AreBehind : ℕ → List Turn → Type 0
AreBehind made [] = Unit
AreBehind made (t ∷ ts) = IsBehind made t × AreBehind (made + entered_in (items_of t)) ts

-- a list of items behind which these were recorded
abbrev pub adds : List Item → List Item → List Item → Type 0
adds before items later = later ≡ before ++ items

-- One turn of a line between two states of its wire, and of what records its items: it is one of these,
-- behind the entries that the line's thread had made, did on the wire what such a turn does, had its
-- items recorded, and ended the line so, if it did. The share counts the entries that it made.
pub record HasTurned {W D K : Type 0} (went : W → List D → W → Type 0)
    (kept : K → List Item → K → Type 0) (does : Turn → List D) (is_turn : Turn → Type 0) (a b : W)
    (k l : K) (amount later_amount : ℕ) (ends : Option End) : Type 0 where
  pub turn : Turn
  pub is : is_turn turn
  pub behind : IsBehind amount turn
  pub acts : went a (does turn) b
  pub recorded : kept k (items_of turn) l
  pub amount_is : later_amount ≡ amount + entered_in (items_of turn)
  pub ends_so : ends ≡ end_of turn

-- what turns did, one behind another
abbrev pub all_of : {D : Type 0} → (Turn → List D) → List Turn → List D
all_of does [] = []
all_of does (t ∷ ts) = does t ++ all_of does ts

abbrev pub all_items : List Turn → List Item
all_items [] = []
all_items (t ∷ ts) = items_of t ++ all_items ts

-- a turn after which the line goes on
abbrev pub GoesOn : Turn → Type 0
GoesOn t = end_of t ≡ None

-- The last turn ended the line, and no other did.
abbrev pub Stops : ℕ → List Turn → End → Type 0
Stops rounds turns how =
    (ahead : List Turn) × (last : Turn) × (turns ≡ ahead ++ last ∷ [])
    × All GoesOn ahead × (end_of last ≡ Some how) × (length ahead < rounds)

-- How a loop of so many rounds ended: they are over; there was no memory for the next item; or by
-- its last turn.
abbrev pub EndsBy : ℕ → List Turn → End → Type 0
EndsBy rounds turns end.Rounds = All GoesOn turns × (length turns ≡ rounds)
EndsBy rounds turns end.Memory = All GoesOn turns × (length turns < rounds)
EndsBy rounds turns end.Closed = Stops rounds turns end.Closed
EndsBy rounds turns end.Full = Stops rounds turns end.Full
EndsBy rounds turns (end.Wire fault) = Stops rounds turns (end.Wire fault)

-- Between two states of its wire, and of what records its items, a line of so many rounds has run: each
-- turn is one of these, behind the entries that the line's thread had made, and they did on the wire
-- what such turns do, and had their items recorded, in their order.
pub record HasRun {W D K : Type 0} (went : W → List D → W → Type 0)
    (kept : K → List Item → K → Type 0) (does : Turn → List D) (is_turn : Turn → Type 0)
    (rounds : ℕ) (a b : W) (k l : K) (amount later_amount : ℕ) (how : End) : Type 0 where
  pub turns : List Turn
  pub are : All is_turn turns
  pub behind : AreBehind amount turns
  pub acts : went a (all_of does turns) b
  pub recorded : kept k (all_items turns) l
  pub amount_is : later_amount ≡ amount + entered_in (all_items turns)
  pub ends : EndsBy rounds turns how

-- A line that ended for want of memory has none for one item more.
abbrev pub EndsShort : {K : Type 0} → (K → Type 0) → K → End → Type 0
EndsShort has_space l how = how ≡ end.Memory → has_space l → ⊥

-- the count of a wire's failures after a line that ended so: a fault ends it, and nothing else fails
abbrev pub failures_at : End → ℕ → ℕ
failures_at end.Rounds count = count
failures_at end.Closed count = count
failures_at end.Full count = count
failures_at end.Memory count = count
failures_at (end.Wire fault) count = one_more count

-- the same after a turn, which may have ended the line
abbrev pub failures_by : Option End → ℕ → ℕ
failures_by None count = count
failures_by (Some how) count = failures_at how count
