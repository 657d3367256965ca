-- One turn more of a line.
use Rattle.std.proofs.Common.{Result, Ok, Err, inl, inr, ◌≡◌, ◌∙◌, ℕ, ◌+◌, ◌<◌, List, [], ◌∷◌, ◌++◌, length, refl, sym, ap, subst, arith, append_assoc, append-nil, length-append}
use Rattle.std.specs.Prelude.{Option, Some, None, All}
use Rattle.std.proofs.lemmas.List.Elements.{All-append, All-cons}
use Rattle.history_core.specs.declared.applied.Applied.{Applied}
use Rattle.history_core.specs.declared.applied.Applied.TheVariants.{Done, Dropped, Short, HistoryFull}
use Rattle.wire_core.specs.declared.wire.WireFault.{WireFault}
use Rattle.live_lock.specs.Sharing.{entry_count}
use Rattle.live_agent.specs.declared.trace.End.{End}
use Rattle.live_agent.specs.declared.trace.End.TheVariants as end
use Rattle.live_control.specs.declared.item.ControlItem.{ControlItem}
use Rattle.live_control.specs.declared.item.ControlItem.TheVariants as item
use Rattle.live_agent.specs.Turns.{end_by}
use Rattle.live_control.specs.Turns.{Turn, nothing_came, ended, broke, was_refused, was_reported, was_done, items_of, item_of, end_of, end_by_reply, end_after, entered_in}
use Rattle.live_control.specs.Runs.{HasTurned, HasRun, IsBehind, AreBehind, all_of, all_items, GoesOn, EndsBy}

pub all_of-snoc : {D : Type 0} (does : Turn → List D) (ts : List Turn) (t : Turn) → all_of does (ts ++ t ∷ []) ≡ all_of does ts ++ does t
all_of-snoc does [] t = append-nil (does t)
all_of-snoc does (x ∷ ts) t = ap (λ l. does x ++ l) (all_of-snoc does ts t) ∙ sym (append_assoc (does x) (all_of does ts) (does t))

all_items-snoc : (ts : List Turn) (t : Turn) → all_items (ts ++ t ∷ []) ≡ all_items ts ++ items_of t
all_items-snoc [] t = append-nil (items_of t)
all_items-snoc (x ∷ ts) t = ap (λ (l : List ControlItem). items_of x ++ l) (all_items-snoc ts t) ∙ sym (append_assoc (items_of x) (all_items ts) (items_of t))

pub entered_in-append : (xs ys : List ControlItem) → entered_in (xs ++ ys) ≡ entered_in xs + entered_in ys
entered_in-append [] ys = omega arith
entered_in-append (item.Entered r ∷ xs) ys = omega (arith, entered_in-append xs ys)
entered_in-append (item.Refused c ∷ xs) ys = entered_in-append xs ys
entered_in-append (item.Reported ∷ xs) ys = entered_in-append xs ys
entered_in-append (item.Short ∷ xs) ys = entered_in-append xs ys
entered_in-append (item.Full ∷ xs) ys = entered_in-append xs ys

pub AreBehind-snoc : (amount : ℕ) (ts : List Turn) (t : Turn) → AreBehind amount ts → IsBehind (amount + entered_in (all_items ts)) t → AreBehind amount (ts ++ t ∷ [])
AreBehind-snoc amount [] t before one =
    let e : amount + 0 ≡ amount = omega arith in (subst (λ (n : ℕ). IsBehind n t) e one, tt)
AreBehind-snoc amount (x ∷ ts) t before one =
    let e : amount + entered_in (items_of x ++ all_items ts) ≡ amount + entered_in (items_of x) + entered_in (all_items ts) = omega (arith, entered_in-append (items_of x) (all_items ts)) in
    (before.0, AreBehind-snoc (amount + entered_in (items_of x)) ts t before.1 (subst (λ (n : ℕ). IsBehind n t) e one))

-- what an event left in the trace counts its entries
pub entered_one : (a : Applied) → entered_in (item_of a ∷ []) ≡ entry_count a
entered_one (Done r audit) = omega arith
entered_one (Dropped r cause audit) = omega arith
entered_one (Short back) = refl
entered_one (HistoryFull back) = refl

-- a turn does not end a line by its rounds
not_rounds_reply : (how : Option (Result (Unit {0}) WireFault)) → end_by_reply how ≡ Some end.Rounds → ⊥
not_rounds_reply None e = cc
not_rounds_reply (Some (Ok done)) e = cc
not_rounds_reply (Some (Err fault)) e = cc

not_rounds_by : (a : Applied) → end_by a ≡ Some end.Rounds → ⊥
not_rounds_by (Done r audit) e = cc
not_rounds_by (Dropped r cause audit) e = cc
not_rounds_by (Short back) e = cc
not_rounds_by (HistoryFull back) e = cc

not_rounds_after : (a : Applied) (fault : Option WireFault) (how : Option (Result (Unit {0}) WireFault)) → end_after a fault how ≡ Some end.Rounds → ⊥
not_rounds_after a (Some fault) how e = cc
not_rounds_after a None None e = cc
not_rounds_after a None (Some (Err fault)) e = cc
not_rounds_after a None (Some (Ok done)) e = not_rounds_by a e

not_rounds : (t : Turn) → end_of t ≡ Some end.Rounds → ⊥
not_rounds nothing_came e = cc
not_rounds ended e = cc
not_rounds (broke f) e = cc
not_rounds (was_refused a c r) e = not_rounds_reply r.how e
not_rounds (was_reported a made r) e = not_rounds_reply r.how e
not_rounds (was_done a h r) e = not_rounds_after h.applied h.fault r.how e

-- a turn that ends the line
pub stops : (rounds : ℕ) (ts : List Turn) (t : Turn) (how : End) → All GoesOn ts → end_of t ≡ Some how → length ts < rounds → EndsBy rounds (ts ++ t ∷ []) how
stops rounds ts t end.Rounds on by less = absurd (not_rounds t by)
stops rounds ts t end.Memory on by less = inr (ts, t, refl, on, by, less)
stops rounds ts t end.Closed on by less = (ts, t, refl, on, by, less)
stops rounds ts t end.Full on by less = (ts, t, refl, on, by, less)
stops rounds ts t (end.Wire f) on by less = (ts, t, refl, on, by, less)

pub All-snoc : {X : Type 0} (P : X → Type 0) → (xs : List X) (x : X) → All P xs → P x → All P (xs ++ x ∷ [])
All-snoc P xs x all one = All-append P xs (x ∷ []) all (All-cons P x [] one (λ k d h. absurd (omega arith)))

-- ---- a line so far

-- So many turns of a line, after all of which it goes on.
pub record Goes {W D K : Type 0} (went : W → List D → W → Type 0) (kept : K → List ControlItem → K → Type 0) (does : Turn → List D) (is_turn : Turn → Type 0) (count : ℕ) (a b : W) (k l : K) (amount later_amount : ℕ) : Type 0 where
  pub turns : List Turn
  pub are : All is_turn turns
  pub behind : AreBehind amount turns
  pub on : All GoesOn turns
  pub count_is : length turns ≡ count
  pub acts : went a (all_of does turns) b
  pub recorded : kept k (all_items turns) l
  pub amount_is : later_amount ≡ amount + entered_in (all_items turns)

abbrev pub goes_none : {W D K : Type 0} (went : W → List D → W → Type 0) → ((a : W) → went a [] a) → (kept : K → List ControlItem → K → Type 0) → ((k : K) → kept k [] k) → (does : Turn → List D) (is_turn : Turn → Type 0) (a : W) (k : K) (amount : ℕ) → Goes went kept does is_turn 0 a a k k amount amount
goes_none went starts kept keeps does is_turn a k amount =
    record {
      turns = [];
      are = λ k d h. absurd (omega arith);
      behind = tt;
      on = λ k d h. absurd (omega arith);
      count_is = refl;
      acts = starts a;
      recorded = keeps k;
      amount_is = omega arith;
    }

-- what was recorded of turns, of memory made for the next item, and of one turn more
pub recorded_more : {K : Type 0} (kept : K → List ControlItem → K → Type 0) → ((a b c : K) (xs ys : List ControlItem) → kept a xs b → kept b ys c → kept a (xs ++ ys) c) → (k l lent m : K) (ts : List Turn) (t : Turn) → kept k (all_items ts) l → kept l [] lent → kept lent (items_of t) m → kept k (all_items (ts ++ t ∷ [])) m
recorded_more kept keeps_on k l lent m ts t first same next =
    subst (λ (items : List ControlItem). kept k items m) (sym (all_items-snoc ts t)) (keeps_on k l m (all_items ts) (items_of t) first (keeps_on l lent m [] (items_of t) same next))

pub recorded_on : {K : Type 0} (kept : K → List ControlItem → K → Type 0) → ((a b c : K) (xs ys : List ControlItem) → kept a xs b → kept b ys c → kept a (xs ++ ys) c) → (k l lent : K) (items : List ControlItem) → kept k items l → kept l [] lent → kept k items lent
recorded_on kept keeps_on k l lent items first same =
    subst (λ (xs : List ControlItem). kept k xs lent) (append-nil items) (keeps_on k l lent items [] first same)

pub amount_more : (amount some later : ℕ) (ts : List Turn) (t : Turn) → some ≡ amount + entered_in (all_items ts) → later ≡ some + entered_in (items_of t) → later ≡ amount + entered_in (all_items (ts ++ t ∷ []))
amount_more amount some later ts t first next =
    omega (arith, first, next, ap entered_in (all_items-snoc ts t), entered_in-append (all_items ts) (items_of t))

-- one turn more, after which it goes on
abbrev pub goes_more : {W D K : Type 0} (went : W → List D → W → Type 0)
    → ((a b c : W) (xs ys : List D) → went a xs b → went b ys c → went a (xs ++ ys) c)
    → (kept : K → List ControlItem → K → Type 0)
    → ((a b c : K) (xs ys : List ControlItem) → kept a xs b → kept b ys c → kept a (xs ++ ys) c)
    → (does : Turn → List D) (is_turn : Turn → Type 0) (count : ℕ) (a b c : W) (k l lent m : K) (amount some_amount later_amount : ℕ)
    → Goes went kept does is_turn count a b k l amount some_amount → kept l [] lent → HasTurned went kept does is_turn b c lent m some_amount later_amount None
    → Goes went kept does is_turn (count + 1) a c k m amount later_amount
goes_more went goes_on kept keeps_on does is_turn count a b c k l lent m amount some_amount later_amount g same t =
    record {
      turns = g.turns ++ t.turn ∷ [];
      are = All-snoc is_turn g.turns t.turn g.are t.is;
      behind = AreBehind-snoc amount g.turns t.turn g.behind (subst (λ (n : ℕ). IsBehind n t.turn) g.amount_is t.behind);
      on = All-snoc GoesOn g.turns t.turn g.on (sym t.ends_so);
      count_is = omega (arith, length-append g.turns (t.turn ∷ []), g.count_is);
      acts = subst (λ l. went a l c) (sym (all_of-snoc does g.turns t.turn)) (goes_on a b c (all_of does g.turns) (does t.turn) g.acts t.acts);
      recorded = recorded_more kept keeps_on k l lent m g.turns t.turn g.recorded same t.recorded;
      amount_is = amount_more amount some_amount later_amount g.turns t.turn g.amount_is t.amount_is;
    }

-- one turn more, which ends it
abbrev pub goes_stops : {W D K : Type 0} (went : W → List D → W → Type 0)
    → ((a b c : W) (xs ys : List D) → went a xs b → went b ys c → went a (xs ++ ys) c)
    → (kept : K → List ControlItem → K → Type 0)
    → ((a b c : K) (xs ys : List ControlItem) → kept a xs b → kept b ys c → kept a (xs ++ ys) c)
    → (does : Turn → List D) (is_turn : Turn → Type 0) (rounds count : ℕ) (a b c : W) (k l lent m : K) (amount some_amount later_amount : ℕ) (how : End)
    → Goes went kept does is_turn count a b k l amount some_amount → kept l [] lent → HasTurned went kept does is_turn b c lent m some_amount later_amount (Some how) → count < rounds
    → HasRun went kept does is_turn rounds a c k m amount later_amount how
goes_stops went goes_on kept keeps_on does is_turn rounds count a b c k l lent m amount some_amount later_amount how g same t less =
    record {
      turns = g.turns ++ t.turn ∷ [];
      are = All-snoc is_turn g.turns t.turn g.are t.is;
      behind = AreBehind-snoc amount g.turns t.turn g.behind (subst (λ (n : ℕ). IsBehind n t.turn) g.amount_is t.behind);
      acts = subst (λ l. went a l c) (sym (all_of-snoc does g.turns t.turn)) (goes_on a b c (all_of does g.turns) (does t.turn) g.acts t.acts);
      recorded = recorded_more kept keeps_on k l lent m g.turns t.turn g.recorded same t.recorded;
      amount_is = amount_more amount some_amount later_amount g.turns t.turn g.amount_is t.amount_is;
      ends = stops rounds g.turns t.turn how g.on (sym t.ends_so) (omega (arith, g.count_is));
    }

-- its rounds are over
abbrev pub goes_round : {W D K : Type 0} (went : W → List D → W → Type 0) (kept : K → List ControlItem → K → Type 0) (does : Turn → List D) (is_turn : Turn → Type 0) (rounds count : ℕ) (a b : W) (k l : K) (amount later_amount : ℕ)
    → Goes went kept does is_turn count a b k l amount later_amount → count ≡ rounds
    → HasRun went kept does is_turn rounds a b k l amount later_amount end.Rounds
goes_round went kept does is_turn rounds count a b k l amount later_amount g over =
    record {
      turns = g.turns;
      are = g.are;
      behind = g.behind;
      acts = g.acts;
      recorded = g.recorded;
      amount_is = g.amount_is;
      ends = (g.on, g.count_is ∙ over);
    }

-- there was no memory for the next item
abbrev pub goes_short : {W D K : Type 0} (went : W → List D → W → Type 0) (kept : K → List ControlItem → K → Type 0)
    → ((a b c : K) (xs ys : List ControlItem) → kept a xs b → kept b ys c → kept a (xs ++ ys) c)
    → (does : Turn → List D) (is_turn : Turn → Type 0) (rounds count : ℕ) (a b : W) (k l lent : K) (amount later_amount : ℕ)
    → Goes went kept does is_turn count a b k l amount later_amount → kept l [] lent → count < rounds
    → HasRun went kept does is_turn rounds a b k lent amount later_amount end.Memory
goes_short went kept keeps_on does is_turn rounds count a b k l lent amount later_amount g same less =
    record {
      turns = g.turns;
      are = g.are;
      behind = g.behind;
      acts = g.acts;
      recorded = recorded_on kept keeps_on k l lent (all_items g.turns) g.recorded same;
      amount_is = g.amount_is;
      ends = inl (g.on, omega (arith, g.count_is));
    }
