-- What was recorded of a line, as a list of its items.
use Rattle.std.proofs.Common.{ℕ, inl, inr, List, [], ◌∷◌, ◌++◌, refl}
use Rattle.std.specs.Prelude.{Option}
use Rattle.wire_core.specs.Acts.{Act}
use Rattle.live_agent.specs.declared.trace.End.{End}
use Rattle.live_agent.specs.declared.trace.Item.{Item}
use Rattle.live_agent.specs.Turns.{Turn, item_of}
use Rattle.live_agent.specs.Runs.{HasRun, all_items, adds}
use Rattle.live_agent.specs.Lines.{RunStart, HasLinked, HasPortRun}

-- The link of a port went up, behind memory that was made for its item.
pub linked_behind : {W K : Type 0} (went : W → List Act → W → Type 0) (kept : K → List Item → K → Type 0)
    → ((a b c : K) (xs ys : List Item) → kept a xs b → kept b ys c → kept a (xs ++ ys) c)
    → (s : RunStart) (port : ℕ) (a b : W) (k lent l : K) (amount later : ℕ) (ends : Option End)
    → kept k [] lent → HasLinked went kept s port a b lent l amount later ends → HasLinked went kept s port a b k l amount later ends
linked_behind went kept keeps_on s port a b k lent l amount later ends same linked = record {
  happening = linked.happening;
  happens = linked.happens;
  behind = linked.behind;
  acts = linked.acts;
  recorded = keeps_on k lent l [] (item_of linked.happening.applied ∷ []) same linked.recorded;
  amount_is = linked.amount_is;
  ends_so = linked.ends_so;
}

-- A line recorded these items, and ran as one that kept them in a list.
pub run_traced : {W D K : Type 0} (went : W → List D → W → Type 0) (kept : K → List Item → K → Type 0) (does : Turn → List D) (is_turn : Turn → Type 0) (rounds : ℕ) (a b : W) (k l : K) (amount later : ℕ) (how : End)
    → HasRun went kept does is_turn rounds a b k l amount later how
    → (trace : List Item) × kept k trace l × HasRun went adds does is_turn rounds a b [] trace amount later how
run_traced went kept does is_turn rounds a b k l amount later how r = (
  all_items r.turns,
  r.recorded,
  record {
    turns = r.turns;
    are = r.are;
    behind = r.behind;
    acts = r.acts;
    recorded = refl;
    amount_is = r.amount_is;
    ends = r.ends;
  },
)

-- The same of a port, whose link went up first.
pub port_traced : {W K : Type 0} (went : W → List Act → W → Type 0) (kept : K → List Item → K → Type 0)
    → ((a b c : K) (xs ys : List Item) → kept a xs b → kept b ys c → kept a (xs ++ ys) c)
    → (s : RunStart) (port rounds : ℕ) (a b : W) (k l : K) (amount later : ℕ) (how : End)
    → HasPortRun went kept s port rounds a b k l amount later how
    → (trace : List Item) × kept k trace l × HasPortRun went adds s port rounds a b [] trace amount later how
port_traced went kept keeps_on s port rounds a b k l amount later how (inl t) = ([], t.2, inl (t.0, t.1, refl, t.3))
port_traced went kept keeps_on s port rounds a b k l amount later how (inr (inl r)) = (
  item_of r.happening.applied ∷ [],
  r.recorded,
  inr (inl (record {
    happening = r.happening;
    happens = r.happens;
    behind = r.behind;
    acts = r.acts;
    recorded = refl;
    amount_is = r.amount_is;
    ends_so = r.ends_so;
  })),
)
port_traced went kept keeps_on s port rounds a b k l amount later how (inr (inr r)) =
    let one = item_of r.linked.happening.applied ∷ [] in
    let more = all_items r.run.turns in (
      one ++ more,
      keeps_on k r.first_kept l one more r.linked.recorded r.run.recorded,
      inr (inr (record {
        between = r.between;
        first_kept = one;
        first_amount = r.first_amount;
        linked = record {
          happening = r.linked.happening;
          happens = r.linked.happens;
          behind = r.linked.behind;
          acts = r.linked.acts;
          recorded = refl;
          amount_is = r.linked.amount_is;
          ends_so = r.linked.ends_so;
        };
        run = record {
          turns = r.run.turns;
          are = r.run.are;
          behind = r.run.behind;
          acts = r.run.acts;
          recorded = refl;
          amount_is = r.run.amount_is;
          ends = r.run.ends;
        };
      })),
    )
