-- How many entries a line made, and lists of lines.
use Rattle.std.proofs.Common.{◌≡◌, ◌∙◌, ℕ, ◌+◌, ◌≤◌, inl, inr, List, [], ◌∷◌, ◌++◌, length, sym, ap, subst, arith}
use Rattle.wire_core.specs.Acts.{Act}
use Rattle.live_agent.specs.declared.trace.End.{End}
use Rattle.live_agent.specs.declared.trace.Item.{Item}
use Rattle.live_agent.specs.declared.trace.Ran.{Ran}
use Rattle.std.specs.Prelude.{Option, Some, None, Vec}
use Rattle.std.specs.declared.alloc.Global.{Global}
use Rattle.live_agent.specs.Turns.{Turn, nothing_came, ended, broke, was_refused, was_taken, was_own, paused, acts_of, items_of, entered_in}
use Rattle.live_agent.specs.Runs.{HasRun, IsBehind, AreBehind, all_items, adds}
use Rattle.live_agent.specs.Lines.{RunStart, HasLinked, HasLinkedAndRun, HasPortRun}
use Rattle.live_agent.proofs.Recording.{run_traced, port_traced}
use Rattle.live_agent.proofs.Running.{entered_one, entered_in-append}
use Rattle.live_run.specs.Crews.{AllGone, AllRan, RanBetween, entered_by}

-- ---- the entries of a line, from a share with nothing on it

pub run_amount : {W D : Type 0} (went : W → List D → W → Type 0) (does : Turn → List D) (is_turn : Turn → Type 0) (rounds : ℕ) (a b : W) (trace : List Item) (amount later : ℕ) (how : End)
    → HasRun went adds does is_turn rounds a b [] trace amount later how → later ≡ amount + entered_in trace
run_amount went does is_turn rounds a b trace amount later how h = h.amount_is ∙ ap (λ (l : List Item). amount + entered_in l) (sym h.recorded)

-- what is behind more entries is behind fewer
behind_fewer : (n m : ℕ) (t : Turn) → n ≤ m → IsBehind m t → IsBehind n t
behind_fewer n m nothing_came less is = tt
behind_fewer n m ended less is = tt
behind_fewer n m (broke f) less is = tt
behind_fewer n m (was_refused a c) less is = tt
behind_fewer n m (was_taken a h) less is = omega (arith, less, is)
behind_fewer n m (was_own h) less is = omega (arith, less, is)
behind_fewer n m paused less is = tt

pub all_behind_fewer : (n m : ℕ) (ts : List Turn) → n ≤ m → AreBehind m ts → AreBehind n ts
all_behind_fewer n m [] less are = tt
all_behind_fewer n m (t ∷ ts) less are =
    (behind_fewer n m t less are.0, all_behind_fewer (n + entered_in (items_of t)) (m + entered_in (items_of t)) ts (omega (arith, less)) are.1)

abbrev pub rebased : {W D : Type 0} (went : W → List D → W → Type 0) (does : Turn → List D) (is_turn : Turn → Type 0) (rounds : ℕ) (a b : W) (items trace : List Item) (amount later n m : ℕ) (how : End)
    → HasRun went adds does is_turn rounds a b items trace amount later how → m + amount ≡ n + later → n ≤ amount → HasRun went adds does is_turn rounds a b items trace n m how
rebased went does is_turn rounds a b items trace amount later n m how h same less =
    record {
      turns = h.turns;
      are = h.are;
      behind = all_behind_fewer n amount h.turns less h.behind;
      acts = h.acts;
      recorded = h.recorded;
      amount_is = omega (arith, h.amount_is, same);
      ends = h.ends;
    }

-- ---- a port's

linked_amount : {W : Type 0} (went : W → List Act → W → Type 0) (s : RunStart) (port : ℕ) (a b : W) (trace : List Item) (amount later : ℕ) (ends : Option End)
    → HasLinked went adds s port a b [] trace amount later ends → later ≡ amount + entered_in trace
linked_amount went s port a b trace amount later ends l =
    l.amount_is ∙ ap (λ (n : ℕ). amount + n) (sym (entered_one l.happening.applied)) ∙ ap (λ (l' : List Item). amount + entered_in l') (sym l.recorded)

linked_rebased : {W : Type 0} (went : W → List Act → W → Type 0) (s : RunStart) (port : ℕ) (a b : W) (trace : List Item) (amount later : ℕ) (ends : Option End)
    → HasLinked went adds s port a b [] trace amount later ends → HasLinked went adds s port a b [] trace 0 (entered_in trace) ends
linked_rebased went s port a b trace amount later ends l =
    let n = linked_amount went s port a b trace amount later ends l in
    record {
      happening = l.happening;
      happens = l.happens;
      behind = omega arith;
      acts = l.acts;
      recorded = l.recorded;
      amount_is = omega (arith, n, l.amount_is);
      ends_so = l.ends_so;
    }

both_amount : {W : Type 0} (went : W → List Act → W → Type 0) (s : RunStart) (port rounds : ℕ) (a b : W) (trace : List Item) (amount later : ℕ) (how : End)
    → HasLinkedAndRun went adds s port rounds a b [] trace amount later how → later ≡ amount + entered_in trace
both_amount went s port rounds a b trace amount later how r =
    let first = linked_amount went s port a r.between r.first_kept amount r.first_amount None r.linked in
    let all = ap entered_in r.run.recorded ∙ entered_in-append r.first_kept (all_items r.run.turns) in
    omega (arith, first, all, r.run.amount_is)

pub port_amount : {W : Type 0} (went : W → List Act → W → Type 0) (s : RunStart) (port rounds : ℕ) (a b : W) (trace : List Item) (amount later : ℕ) (how : End)
    → HasPortRun went adds s port rounds a b [] trace amount later how → later ≡ amount + entered_in trace
port_amount went s port rounds a b trace amount later how (inl t) =
    let nothing : entered_in trace ≡ 0 = ap entered_in t.2 in omega (arith, t.3, nothing)
port_amount went s port rounds a b trace amount later how (inr (inl l)) = linked_amount went s port a b trace amount later (Some how) l
port_amount went s port rounds a b trace amount later how (inr (inr r)) = both_amount went s port rounds a b trace amount later how r

port_rebased : {W : Type 0} (went : W → List Act → W → Type 0) (s : RunStart) (port rounds : ℕ) (a b : W) (trace : List Item) (amount later : ℕ) (how : End)
    → HasPortRun went adds s port rounds a b [] trace amount later how → HasPortRun went adds s port rounds a b [] trace 0 (entered_in trace) how
port_rebased went s port rounds a b trace amount later how (inl t) = inl (t.0, t.1, t.2, ap entered_in t.2)
port_rebased went s port rounds a b trace amount later how (inr (inl l)) = inr (inl (linked_rebased went s port a b trace amount later (Some how) l))
port_rebased went s port rounds a b trace amount later how (inr (inr r)) =
    let first = linked_amount went s port a r.between r.first_kept amount r.first_amount None r.linked in
    let all = both_amount went s port rounds a b trace amount later how r in
    inr (inr (record {
      between = r.between;
      first_kept = r.first_kept;
      first_amount = entered_in r.first_kept;
      linked = linked_rebased went s port a r.between r.first_kept amount r.first_amount None r.linked;
      run = rebased went acts_of _ rounds r.between b r.first_kept trace r.first_amount later (entered_in r.first_kept) (entered_in trace) how r.run (omega (arith, first, all)) (omega (arith, first));
    }))

-- ---- what a line kept in a vector is its trace

module _ (kept : Vec Item Global → List Item → Vec Item Global → Type 0)
    (adding : (a b : Vec Item Global) (items : List Item) → kept a items b → b.items ≡ a.items ++ items) where
  same_trace : (v w : Vec Item Global) (trace items : List Item) → v.items ≡ [] → trace ≡ w.items → kept v items w → trace ≡ items
  same_trace v w trace items none left more = left ∙ adding v w items more ∙ ap (λ (l : List Item). l ++ items) none

  pub line_ran : {W D : Type 0} (went : W → List D → W → Type 0) (does : Turn → List D) (is_turn : Turn → Type 0) (rounds : ℕ) (a b : W) (v w : Vec Item Global) (trace : List Item) (amount later : ℕ) (how ending : End)
      → v.items ≡ [] → trace ≡ w.items → ending ≡ how → HasRun went kept does is_turn rounds a b v w amount later how
      → HasRun went adds does is_turn rounds a b [] trace 0 (entered_in trace) ending × (later ≡ amount + entered_in trace)
  line_ran went does is_turn rounds a b v w trace amount later how ending none left so h =
      let t = run_traced went kept does is_turn rounds a b v w amount later how h in
      let n = run_amount went does is_turn rounds a b t.0 amount later how t.2 in
      rw (same_trace v w trace t.0 none left t.1, so) (rebased went does is_turn rounds a b [] t.0 amount later 0 (entered_in t.0) how t.2 (omega (arith, n)) (omega arith), n)

  pub port_ran : {W : Type 0} (went : W → List Act → W → Type 0) → ((a b c : Vec Item Global) (xs ys : List Item) → kept a xs b → kept b ys c → kept a (xs ++ ys) c)
      → (s : RunStart) (port rounds : ℕ) (a b : W) (v w : Vec Item Global) (trace : List Item) (amount later : ℕ) (how ending : End)
      → v.items ≡ [] → trace ≡ w.items → ending ≡ how → HasPortRun went kept s port rounds a b v w amount later how
      → HasPortRun went adds s port rounds a b [] trace 0 (entered_in trace) ending × (later ≡ amount + entered_in trace)
  port_ran went keeps_on s port rounds a b v w trace amount later how ending none left so h =
      let t = port_traced went kept keeps_on s port rounds a b v w amount later how h in
      let n = port_amount went s port rounds a b t.0 amount later how t.2 in
      rw (same_trace v w trace t.0 none left t.1, so) (port_rebased went s port rounds a b t.0 amount later how t.2, n)

-- ---- lists of lines

all_more : {N E : Type 0} (gone : ℕ → N → ℕ → N → ℕ → E → Type 0) (place : ℕ) (olds news : List N) (ends : List E) (a b : N) (end : E) (m n made : ℕ)
    → AllGone gone place olds news ends m n → gone (place + length olds) a 0 b made end
    → AllGone gone place (olds ++ a ∷ []) (news ++ b ∷ []) (ends ++ end ∷ []) m (n + made)
all_more gone place [] [] [] a b end m n made all one =
    let at : place + 0 ≡ place = omega arith in (made, subst (λ (k : ℕ). gone k a 0 b made end) at one, ap (λ (k : ℕ). k + made) all)
all_more gone place (x ∷ xs) (y ∷ ys) (e ∷ es) a b end m n made all one =
    let at : place + length (x ∷ xs) ≡ place + 1 + length xs = omega arith in
    (all.0, all.1, all_more gone (place + 1) xs ys es a b end (m + all.0) n made all.2 (subst (λ (k : ℕ). gone k a 0 b made end) at one))
all_more gone place _ _ _ a b end m n made all one = absurd all

-- one line more, behind all others, from a share with nothing on it
pub line_more : {N E : Type 0} (gone : ℕ → N → ℕ → N → ℕ → E → Type 0) (olds news : List N) (ends : List E) (a b : N) (end : E) (place none m n made total : ℕ)
    → AllGone gone 0 olds news ends m n → gone place a none b made end → place ≡ length olds → none ≡ 0 → total ≡ n + made
    → AllGone gone 0 (olds ++ a ∷ []) (news ++ b ∷ []) (ends ++ end ∷ []) m total
line_more gone olds news ends a b end place none m n made total all one at is_none sum =
    let behind : place ≡ 0 + length olds = omega (arith, at) in
    rw sum (all_more gone 0 olds news ends a b end m n made all (rw (sym behind, sym is_none) one))

-- lines that ran, each by the number of its place, which is one more at the next
pub all_ran : {W : Type 0} (HasRan : ℕ → W → W → Ran → Type 0) (number : ℕ → ℕ) → ((place : ℕ) → number (place + 1) ≡ number place + 1)
    → (place : ℕ) (olds news : List W) (rans : List Ran) (m n : ℕ) → AllGone (λ at. RanBetween (HasRan (number at))) place olds news rans m n
    → AllRan HasRan (number place) olds news rans × (n ≡ m + entered_by rans)
all_ran HasRan number next place [] [] [] m n all = (tt, omega (arith, all))
all_ran HasRan number next place (x ∷ xs) (y ∷ ys) (r ∷ rs) m n all =
    let rest = all_ran HasRan number next (place + 1) xs ys rs (m + all.0) n all.2 in
    ((all.1.0, subst (λ (k : ℕ). AllRan HasRan k xs ys rs) (next place) rest.0), omega (arith, rest.1, all.1.1))
all_ran HasRan number next place _ _ _ m n all = absurd all
