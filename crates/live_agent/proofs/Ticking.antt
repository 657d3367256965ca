-- One turn more of the ticker.
use Rattle.std.proofs.Common.{◌≡◌, ℕ, true, false, List, [], ◌∷◌, ◌++◌, refl, sym, subst, arith}
use Rattle.std.specs.Prelude.{Option, Some}
use Rattle.wire_core.specs.Acts.{Act}
use Rattle.live_agent.specs.declared.trace.End.{End}
use Rattle.live_agent.specs.declared.trace.End.TheVariants as end
use Rattle.live_agent.specs.declared.trace.Item.{Item}
use Rattle.live_agent.specs.Deeds.{Deed, answered, all_acted}
use Rattle.live_agent.specs.Turns.{Turn, nothing_came, ended, broke, was_refused, was_taken, was_own, paused, acts_of}
use Rattle.live_agent.specs.Lines.{RunStart, IsSecond, IsTickerTurn, ticker_deeds}
use Rattle.live_agent.specs.Runs.{HasTurned}

pub second_ticks : (s : RunStart) (t : Turn) → IsSecond s t → IsTickerTurn s t
second_ticks s nothing_came is = absurd is
second_ticks s ended is = absurd is
second_ticks s (broke f) is = absurd is
second_ticks s (was_refused a c) is = absurd is
second_ticks s (was_taken a h) is = absurd is
second_ticks s (was_own h) is = is
second_ticks s paused is = absurd is

pub second_deeds : (s : RunStart) (t : Turn) → IsSecond s t → ticker_deeds t ≡ answered true ∷ all_acted (acts_of t)
second_deeds s nothing_came is = absurd is
second_deeds s ended is = absurd is
second_deeds s (broke f) is = absurd is
second_deeds s (was_refused a c) is = absurd is
second_deeds s (was_taken a h) is = absurd is
second_deeds s (was_own h) is = refl
second_deeds s paused is = absurd is

-- a second is a turn of the ticker, behind its pace's true
abbrev pub second_turn : {W K : Type 0} (went : W → List Act → W → Type 0) (did : W → List Deed → W → Type 0) (kept : K → List Item → K → Type 0)
    → ((a b : W) (acts : List Act) → went a acts b → did a (all_acted acts) b)
    → ((a b c : W) (xs ys : List Deed) → did a xs b → did b ys c → did a (xs ++ ys) c)
    → (s : RunStart) (a b c : W) (k l : K) (amount later_amount : ℕ) (ends : Option End)
    → did a (answered true ∷ []) b → HasTurned went kept acts_of (IsSecond s) b c k l amount later_amount ends
    → HasTurned did kept ticker_deeds (IsTickerTurn s) a c k l amount later_amount ends
second_turn went did kept acts_are on s a b c k l amount later_amount ends more t =
    record {
      turn = t.turn;
      is = second_ticks s t.turn t.is;
      behind = t.behind;
      acts = subst (λ (l : List Deed). did a l c) (sym (second_deeds s t.turn t.is)) (on a b c (answered true ∷ []) (all_acted (acts_of t.turn)) more (acts_are b c (acts_of t.turn) t.acts));
      recorded = t.recorded;
      amount_is = t.amount_is;
      ends_so = t.ends_so;
    }

-- so is the end of the pace
abbrev pub pause_turn : {W K : Type 0} (did : W → List Deed → W → Type 0) (kept : K → List Item → K → Type 0) → ((k : K) → kept k [] k) → (s : RunStart) (a b : W) (k : K) (amount : ℕ)
    → did a (answered false ∷ []) b → HasTurned did kept ticker_deeds (IsTickerTurn s) a b k k amount amount (Some end.Closed)
pause_turn did kept keeps s a b k amount over =
    record { turn = paused; is = tt; behind = tt; acts = over; recorded = keeps k; amount_is = omega arith; ends_so = refl }
