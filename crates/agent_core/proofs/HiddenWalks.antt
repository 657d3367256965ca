-- Walks past hidden instances, and how many of these are in no run.
use Rattle.std.proofs.Common.{◌≡◌, ℕ, ◌+◌, ◌≤◌, ◌<◌, ◌∙◌, sym, ap, subst, refl, Bool, true, false, cond, not, ◌&&◌, ◌||◌, List, [], ◌∷◌, ◌++◌, length, arith, filter, find, Contains, All, Option, Some, None, IsTrue, inl, inr, get_or, vec_capacity, length-append, take}
use Rattle.std.specs.List.{list_any, count_by}
use Rattle.std.specs.Prelude.{Result, Ok, Err, OnErr}
use Rattle.std.proofs.lemmas.List.{get_or_default, take_more}
use Rattle.std.proofs.lemmas.Bool.{false≢true, cases_lt}
use Rattle.std.proofs.lemmas.List.Sums.{sum_by-cons}
use Rattle.std.proofs.lemmas.List.Folds.{list_any-append, list_any_none, list_any_at}
use Rattle.std.proofs.lemmas.List.Elements.{All-nil, All-push, All-weaker, All-contains, Contains-push, Contains-append_left, Contains-append_right, Contains-append_cases, Contains-push_cases}
use Rattle.oid_core.specs.Order.{name_lt}
use Rattle.oid_core.proofs.OrderLaws.{name_lt-trans, name_lt-irrefl, name_lt-asym, any_two, before_lt}
use Rattle.setphase_core.specs.declared.passing.Spot.{Spot}
use Rattle.message_core.specs.declared.binding.Binding.{Binding}
use Rattle.message_core.specs.Instances.{IsRising, IsLeastAfter, next_of}
use Rattle.agent_core.specs.declared.hidden.HiddenRun.{HiddenRun}
use Rattle.agent_core.specs.declared.hidden.HiddenRuns.{HiddenRuns}
use Rattle.agent_core.specs.declared.source.Stand.{Stand}
use Rattle.agent_core.specs.Reading.{visible}
use Rattle.agent_core.specs.Lookups.{hidden_count, most_lookups, IsPassed}
use Rattle.agent_core.specs.Hidden.{is_within, in_run, is_left, hidden_left, hidden_beside, IsNoneShown, IsHiddenRun, IsAhead, IsAheadOf, BeginsBehind, AreRunsFor}
use Rattle.agent_core.proofs.Rest.{from, next-visible, from_shorter}
use Rattle.agent_core.proofs.Lacks.{apart, least_after, passed_next, found_shown}

-- ---- counts

one_le : (b c : Bool) → (b ≡ true → c ≡ true) → cond b 1 0 ≤ cond c 1 0
one_le true true h = omega arith
one_le false true h = omega arith
one_le false false h = omega arith
one_le true false h = absurd (false≢true (h refl))

count_cons : (p : Binding → Bool) (x : Binding) (xs : List Binding) → count_by p (x ∷ xs) ≡ cond (p x) 1 0 + count_by p xs
count_cons p x xs = sum_by-cons (λ (row : Binding). cond (p row) 1 0) x xs

-- fewer pass a test that holds less often
count_within : (p q : Binding → Bool) → ((x : Binding) → q x ≡ true → p x ≡ true) → (xs : List Binding) → count_by q xs ≤ count_by p xs
count_within p q h [] = omega arith
count_within p q h (x ∷ xs) = omega (arith, count_cons p x xs, count_cons q x xs, one_le (q x) (p x) (h x), count_within p q h xs)

-- and one fewer where an element passes one of them alone
count_less : (p q : Binding → Bool) → ((x : Binding) → q x ≡ true → p x ≡ true) → (xs : List Binding) (r : Binding) → Contains xs r → p r ≡ true → q r ≡ false →
    count_by q xs + 1 ≤ count_by p xs
count_less p q h [] r c pr qr = absurd (omega (arith, c.1))
count_less p q h (x ∷ xs) r c pr qr = elim (Contains-append_cases (x ∷ []) xs r c) [
  | inl here ↦
      elim (Contains-push_cases [] x r here) [
        | inl none ↦ absurd (omega (arith, none.1))
        | inr same ↦
            let yes : ◌≡◌ {A = ℕ} (cond (p x) 1 0) 1 = ap (λ (y : Binding). cond (p y) 1 0) same ∙ ap (λ (b : Bool). cond b 1 0) pr in
            let no : ◌≡◌ {A = ℕ} (cond (q x) 1 0) 0 = ap (λ (y : Binding). cond (q y) 1 0) same ∙ ap (λ (b : Bool). cond b 1 0) qr in
            omega (arith, count_cons p x xs, count_cons q x xs, yes, no, count_within p q h xs)
      ]
  | inr later ↦ omega (arith, count_cons p x xs, count_cons q x xs, one_le (q x) (p x) (h x), count_less p q h xs r later pr qr)
]

and_first : (a b : Bool) → (a && b) ≡ true → a ≡ true
and_first true b h = refl
and_first false b h = absurd (false≢true h)

and_second : (a b : Bool) → (a && b) ≡ true → b ≡ true
and_second true b h = h
and_second false b h = absurd (false≢true h)

and_both : (a b : Bool) → a ≡ true → b ≡ true → (a && b) ≡ true
and_both a b h k = ap (λ (x : Bool). x && b) h ∙ k

not_true : (b : Bool) → not b ≡ true → b ≡ false
not_true false h = refl
not_true true h = absurd (false≢true h)

not_false : (b : Bool) → b ≡ false → not b ≡ true
not_false b h = ap not h

either_false : (a b : Bool) → (a || b) ≡ false → (a ≡ false) × (b ≡ false)
either_false false b h = (refl, h)
either_false true b h = absurd (false≢true (sym h))

both_ways : (b c : Bool) → (b ≡ true → c ≡ true) → (c ≡ true → b ≡ true) → b ≡ c
both_ways true c h k = sym (h refl)
both_ways false true h k = k refl
both_ways false false h k = refl

-- ---- names

-- not less than the first, which is less than a third
pub not_less_then : (a b c : List ℕ) → name_lt b a ≡ false → name_lt b c ≡ true → name_lt a c ≡ true
not_less_then a b c h k = elim (any_two a b) [
  | inl before ↦ name_lt-trans a b c (before_lt a b before) k
  | inr (inl same) ↦ ap (λ (n : List ℕ). name_lt n c) same ∙ k
  | inr (inr after) ↦ absurd (false≢true (sym h ∙ before_lt b a after))
]

-- less than a second, which is not greater than a third
pub less_then_not : (a b c : List ℕ) → name_lt a b ≡ true → name_lt c b ≡ false → name_lt a c ≡ true
less_then_not a b c h k = elim (any_two b c) [
  | inl before ↦ name_lt-trans a b c h (before_lt b c before)
  | inr (inl same) ↦ ap (name_lt a) (sym same) ∙ h
  | inr (inr after) ↦ absurd (false≢true (sym k ∙ before_lt c b after))
]

pub not_both : (a b : List ℕ) → name_lt a b ≡ true → name_lt b a ≡ false
not_both a b h = name_lt-asym a b (name_lt b a) h refl

-- neither is less
pub neither : (a b : List ℕ) → name_lt a b ≡ false → name_lt b a ≡ false → a ≡ b
neither a b h k = elim (any_two a b) [
  | inl before ↦ absurd (false≢true (sym h ∙ before_lt a b before))
  | inr (inl same) ↦ same
  | inr (inr after) ↦ absurd (false≢true (sym k ∙ before_lt b a after))
]

within_parts : (first last name : List ℕ) → is_within first last name ≡ true → (name_lt name first ≡ false) × (name_lt last name ≡ false)
within_parts first last name h = (
  not_true (name_lt name first) (and_first (not (name_lt name first)) (not (name_lt last name)) h),
  not_true (name_lt last name) (and_second (not (name_lt name first)) (not (name_lt last name)) h),
)

within_of : (first last name : List ℕ) → name_lt name first ≡ false → name_lt last name ≡ false → is_within first last name ≡ true
within_of first last name h k = and_both (not (name_lt name first)) (not (name_lt last name)) (not_false (name_lt name first) h) (not_false (name_lt last name) k)

-- a name behind the last is not within
within_behind : (first last name : List ℕ) → name_lt last name ≡ true → is_within first last name ≡ false
within_behind first last name h = decided (is_within first last name) refl
  where
    decided : (b : Bool) → is_within first last name ≡ b → b ≡ false
    decided false e = refl
    decided true e = absurd (false≢true (sym (within_parts first last name e).1 ∙ h))

-- a name in front of the first neither
within_ahead : (first last name : List ℕ) → name_lt name first ≡ true → is_within first last name ≡ false
within_ahead first last name h = decided (is_within first last name) refl
  where
    decided : (b : Bool) → is_within first last name ≡ b → b ≡ false
    decided false e = refl
    decided true e = absurd (false≢true (sym (within_parts first last name e).0 ∙ h))

-- a name that is not within, and not in front, is behind the last
behind_of : (first last name : List ℕ) → is_within first last name ≡ false → name_lt name first ≡ false → name_lt last name ≡ true
behind_of first last name h k = decided (name_lt last name) refl
  where
    decided : (b : Bool) → name_lt last name ≡ b → b ≡ true
    decided true e = refl
    decided false e = absurd (false≢true (sym h ∙ within_of first last name k e))

-- ---- the next instance that is shown

module _ (shows : List ℕ → Bool) where
  -- two names between which none is shown have the same next one
  same_next : (rows : List Binding) (a b : List ℕ) → ((row : Binding) → Contains rows row → shows row.name ≡ true → name_lt a row.name ≡ name_lt b row.name) →
      next_of (visible shows rows) a ≡ next_of (visible shows rows) b
  same_next [] a b h = refl
  same_next (x ∷ xs) a b h = pick (shows x.name) refl (same_next xs a b (λ row c s. h row (Contains-append_right (x ∷ []) xs row c) s))
    where
      pick : (s : Bool) → shows x.name ≡ s → next_of (visible shows xs) a ≡ next_of (visible shows xs) b →
          next_of (cond s (x ∷ visible shows xs) (visible shows xs)) a ≡ next_of (cond s (x ∷ visible shows xs) (visible shows xs)) b
      pick true s more =
          ap (λ (t : Bool). cond t (Some x) (next_of (visible shows xs) a)) (h x (0, omega arith, refl) s)
          ∙ ap (λ (o : Option Binding). cond (name_lt b x.name) (Some x) o) more
      pick false s more = more

module _ (shows : List ℕ → Bool) (rows : List Binding) where
  -- behind an instance that is hidden
  pub next_past : (name : List ℕ) (row : Binding) → IsRising rows → next_of rows name ≡ Some row → shows row.name ≡ false →
      next_of (visible shows rows) name ≡ next_of (visible shows rows) row.name
  next_past name row rising is hidden =
      let least : IsLeastAfter rows name row = least_after rows name row rising is in
      same_next shows rows name row.name (λ other c s.
      both_ways (name_lt name other.name) (name_lt row.name other.name)
      (λ l. apart other.name row.name (All-contains (λ (r : Binding). IsTrue (name_lt name r.name) → name_lt r.name row.name ≡ false) rows other least.least c l)
      (λ same. false≢true (sym hidden ∙ ap shows (sym same) ∙ s)))
      (λ l. name_lt-trans name row.name other.name least.greater l))

  -- the first is shown
  pub next_here : (name : List ℕ) (row : Binding) → IsRising rows → next_of rows name ≡ Some row → shows row.name ≡ true → next_of (visible shows rows) name ≡ Some row
  next_here name row rising is shown =
      next-visible shows rows name rising ∙ ap (λ (o : Option Binding). find (λ (r : Binding). shows r.name) (from rows o)) is ∙ (let h : shows row.name ≡ true = shown in rw h refl)

  -- there is none
  pub next_none : (name : List ℕ) → IsRising rows → next_of rows name ≡ None → next_of (visible shows rows) name ≡ None
  next_none name rising is = next-visible shows rows name rising ∙ ap (λ (o : Option Binding). find (λ (r : Binding). shows r.name) (from rows o)) is

  -- from any name of a run on
  pub next_within : (first last name : List ℕ) → IsNoneShown shows rows first last → is_within first last name ≡ true →
      next_of (visible shows rows) first ≡ next_of (visible shows rows) name
  next_within first last name none within =
      let parts = within_parts first last name within in
      same_next shows rows first name (λ row c s.
      both_ways (name_lt first row.name) (name_lt name row.name)
      (λ l. decided row c s l (name_lt name row.name) refl)
      (λ l. not_less_then first name row.name parts.0 l))
    where
      decided : (row : Binding) → Contains rows row → shows row.name ≡ true → name_lt first row.name ≡ true → (b : Bool) → name_lt name row.name ≡ b → b ≡ true
      decided row c s l true e = refl
      decided row c s l false e =
          let parts = within_parts first last name within in
          let upto : name_lt last row.name ≡ false = upto_last row e (name_lt last row.name) refl in
          absurd (false≢true (sym (none row c (within_of first last row.name (not_both first row.name l) upto)) ∙ s))
        where
          upto_last : (row : Binding) → name_lt name row.name ≡ false → (b : Bool) → name_lt last row.name ≡ b → b ≡ false
          upto_last row e false k = refl
          upto_last row e true k = absurd (false≢true (sym e ∙ not_less_then name last row.name (within_parts first last name within).1 k))

  -- the last is behind the first
  pub last_within : (first last : List ℕ) → name_lt last first ≡ false → is_within first last last ≡ true
  last_within first last ordered = within_of first last last ordered (name_lt-irrefl last)

  -- one name alone
  pub none_alone : (row : Binding) → shows row.name ≡ false → IsNoneShown shows rows row.name row.name
  none_alone row hidden other c within =
      let parts = within_parts row.name row.name other.name within in
      ap shows (neither other.name row.name parts.0 parts.1) ∙ hidden

  -- and the next one, which is hidden too
  pub none_more : (first last : List ℕ) (row : Binding) → IsNoneShown shows rows first last → IsLeastAfter rows last row → shows row.name ≡ false → IsNoneShown shows rows first row.name
  none_more first last row none least hidden other c within =
      let parts = within_parts first row.name other.name within in
      decided (name_lt last other.name) refl parts.0 parts.1
    where
      decided : (b : Bool) → name_lt last other.name ≡ b → name_lt other.name first ≡ false → name_lt row.name other.name ≡ false → shows other.name ≡ false
      decided false e from_first to_row = none other c (within_of first last other.name from_first e)
      decided true e from_first to_row =
          let same : other.name ≡ row.name = neither other.name row.name (All-contains (λ (r : Binding). IsTrue (name_lt last r.name) → name_lt r.name row.name ≡ false) rows other least.least c e) to_row in
          ap shows same ∙ hidden

-- ---- how many are left

module _ (shows : List ℕ → Bool) (rows : List Binding) where
  left_parts : (runs : List HiddenRun) (row : Binding) → is_left shows runs row ≡ true → (shows row.name ≡ false) × (list_any (λ run. in_run run row.name) runs ≡ false)
  left_parts runs row h = (
    not_true (shows row.name) (and_first (not (shows row.name)) (not (list_any (λ run. in_run run row.name) runs)) h),
    not_true (list_any (λ run. in_run run row.name) runs) (and_second (not (shows row.name)) (not (list_any (λ run. in_run run row.name) runs)) h),
  )

  left_of : (runs : List HiddenRun) (row : Binding) → shows row.name ≡ false → list_any (λ run. in_run run row.name) runs ≡ false → is_left shows runs row ≡ true
  left_of runs row h k = and_both (not (shows row.name)) (not (list_any (λ run. in_run run row.name) runs)) (not_false (shows row.name) h) (not_false (list_any (λ run. in_run run row.name) runs) k)

  -- none are kept
  pub left_none : hidden_left shows rows [] ≤ hidden_count shows rows
  unfolding hidden_left
  left_none = count_within (λ row. not (shows row.name)) (is_left shows []) (λ row h. and_first (not (shows row.name)) true h) rows

  pub left_most : (runs : List HiddenRun) → hidden_left shows rows runs + 1 ≤ most_lookups shows rows
  unfolding hidden_left most_lookups
  left_most runs =
      let few : hidden_left shows rows runs ≤ hidden_count shows rows =
      count_within (λ row. not (shows row.name)) (is_left shows runs) (λ row h. and_first (not (shows row.name)) (not (list_any (λ run. in_run run row.name) runs)) h) rows in
      omega (arith, few)

  -- the first one is passed
  pub beside_first : (runs : List HiddenRun) (row : Binding) → Contains rows row → shows row.name ≡ false → list_any (λ run. in_run run row.name) runs ≡ false →
      hidden_beside shows rows runs row.name row.name + 1 ≤ hidden_left shows rows runs
  unfolding hidden_left hidden_beside
  beside_first runs row c hidden apart_from =
      count_less (is_left shows runs) (λ r. is_left shows runs r && not (is_within row.name row.name r.name))
      (λ r h. and_first (is_left shows runs r) (not (is_within row.name row.name r.name)) h) rows row c (left_of runs row hidden apart_from)
      (ap (λ (b : Bool). is_left shows runs row && not b) (last_within shows rows row.name row.name (name_lt-irrefl row.name)) ∙ and_no (is_left shows runs row))
    where
      and_no : (b : Bool) → (b && false) ≡ false
      and_no true = refl
      and_no false = refl

  -- one more is passed
  pub beside_next : (runs : List HiddenRun) (first last : List ℕ) (row : Binding) → Contains rows row → shows row.name ≡ false → list_any (λ run. in_run run row.name) runs ≡ false →
      name_lt last first ≡ false → name_lt last row.name ≡ true → hidden_beside shows rows runs first row.name + 1 ≤ hidden_beside shows rows runs first last
  unfolding hidden_beside
  beside_next runs first last row c hidden apart_from ordered behind =
      count_less (λ r. is_left shows runs r && not (is_within first last r.name)) (λ r. is_left shows runs r && not (is_within first row.name r.name))
      fewer rows row c
      (and_both (is_left shows runs row) (not (is_within first last row.name)) (left_of runs row hidden apart_from) (not_false (is_within first last row.name) (within_behind first last row.name behind)))
      (ap (λ (b : Bool). is_left shows runs row && not b) (within_of first row.name row.name (not_both first row.name (not_less_then first last row.name ordered behind)) (name_lt-irrefl row.name)) ∙ and_no (is_left shows runs row))
    where
      and_no : (b : Bool) → (b && false) ≡ false
      and_no true = refl
      and_no false = refl

      fewer : (r : Binding) → (is_left shows runs r && not (is_within first row.name r.name)) ≡ true → (is_left shows runs r && not (is_within first last r.name)) ≡ true
      fewer r h =
          let out : is_within first row.name r.name ≡ false = not_true (is_within first row.name r.name) (and_second (is_left shows runs r) (not (is_within first row.name r.name)) h) in
          and_both (is_left shows runs r) (not (is_within first last r.name)) (and_first (is_left shows runs r) (not (is_within first row.name r.name)) h)
          (not_false (is_within first last r.name) (decided (is_within first last r.name) refl out))
        where
          decided : (b : Bool) → is_within first last r.name ≡ b → is_within first row.name r.name ≡ false → b ≡ false
          decided false e out = refl
          decided true e out =
              let parts = within_parts first last r.name e in
              let upto : name_lt row.name r.name ≡ false = upto_row (name_lt row.name r.name) refl parts.1 in
              absurd (false≢true (sym out ∙ within_of first row.name r.name parts.0 upto))
            where
              upto_row : (b : Bool) → name_lt row.name r.name ≡ b → name_lt last r.name ≡ false → b ≡ false
              upto_row false k m = refl
              upto_row true k m = absurd (false≢true (sym m ∙ name_lt-trans last row.name r.name behind k))

  -- a run more is kept
  pub left_kept : (runs : List HiddenRun) (run : HiddenRun) → hidden_left shows rows (runs ++ run ∷ []) ≤ hidden_beside shows rows runs run.first run.last
  unfolding hidden_left hidden_beside
  left_kept runs run =
      count_within (λ r. is_left shows runs r && not (is_within run.first run.last r.name)) (is_left shows (runs ++ run ∷ []))
      (λ row h.
      let parts = left_parts (runs ++ run ∷ []) row h in
      let each = either_false (list_any (λ (r : HiddenRun). in_run r row.name) runs) (list_any (λ (r : HiddenRun). in_run r row.name) (run ∷ []))
      (sym (list_any-append (λ (r : HiddenRun). in_run r row.name) runs (run ∷ [])) ∙ parts.1) in
      and_both (is_left shows runs row) (not (is_within run.first run.last row.name)) (left_of runs row parts.0 each.0)
      (not_false (is_within run.first run.last row.name) (either_false (in_run run row.name) false each.1).0)) rows

-- ---- the walk past hidden instances

module _ (shows : List ℕ → Bool) (rows : List Binding) (at : Spot → Binding) (is_there : Spot → Type 0) (is_at : Stand → List ℕ → Type 0) (runs : List HiddenRun) where
  abbrev pub AreRuns : Type 0
  AreRuns = All (IsHiddenRun shows rows at is_there is_at) runs

  -- From the first hidden instance to the last one is passed; the lookups, and those that are left, are no more than there were.
  pub record IsPassing (first : Binding) (last : List ℕ) (ahead : Option HiddenRun) (found : Bool) (spot : Spot) (stand : Stand) (lookups most : ℕ) : Type 0 where
    pub behind : cond found (Some (at spot)) None ≡ next_of rows last
    pub there : IsTrue found → is_there spot
    pub stands : IsTrue found → is_at stand (at spot).name
    pub none : IsNoneShown shows rows first.name last
    pub ordered : name_lt last first.name ≡ false
    pub passed : (name : List ℕ) → IsTrue found → IsPassed shows rows name first → IsPassed shows rows name (at spot)
    pub ends : BeginsBehind last ahead
    pub work : lookups + hidden_beside shows rows runs first.name last ≤ most

  here : (found : Bool) (spot : Spot) (last : List ℕ) → cond found (Some (at spot)) None ≡ next_of rows last → IsTrue found → next_of rows last ≡ Some (at spot)
  here found spot last behind is = sym behind ∙ ap (λ (b : Bool). cond b (Some (at spot)) None) is

  ends_at_first : (name : List ℕ) (ahead : Option HiddenRun) → IsAheadOf runs name ahead → BeginsBehind name ahead
  ends_at_first name None h = tt
  ends_at_first name (Some run) h = h.behind

  pub passing_begins : (first : Binding) (last : List ℕ) (ahead : Option HiddenRun) (found : Bool) (spot : Spot) (stand : Stand) (before now : ℕ) → IsRising rows → Contains rows first → shows first.name ≡ false →
      last ≡ first.name → list_any (λ run. in_run run first.name) runs ≡ false → IsAheadOf runs last ahead → cond found (Some (at spot)) None ≡ next_of rows last →
      (IsTrue found → is_there spot) → (IsTrue found → is_at stand (at spot).name) → now ≡ before + 1 → IsPassing first last ahead found spot stand now (before + hidden_left shows rows runs)
  passing_begins first last ahead found spot stand before now rising c hidden same apart_from reach behind there stands one =
      let start : (n : List ℕ) → n ≡ first.name → IsNoneShown shows rows first.name n = λ n e. subst (λ (m : List ℕ). IsNoneShown shows rows first.name m) (sym e) (none_alone shows rows first hidden) in
      let fewer : hidden_beside shows rows runs first.name last + 1 ≤ hidden_left shows rows runs =
      subst (λ (m : List ℕ). hidden_beside shows rows runs first.name m + 1 ≤ hidden_left shows rows runs) (sym same) (beside_first shows rows runs first c hidden apart_from) in
      record {
        behind = behind;
        there = there;
        stands = stands;
        none = start last same;
        ordered = ap (λ (n : List ℕ). name_lt n first.name) same ∙ name_lt-irrefl first.name;
        passed = λ name is h. passed_next shows rows name first found (at spot) rising h hidden (behind ∙ ap (next_of rows) same) is;
        ends = ends_at_first last ahead reach;
        work = omega (arith, fewer, one);
      }

  -- a hidden instance in front of the run ahead is in no run
  in_none : (first : Binding) (last own : List ℕ) (ahead : Option HiddenRun) → list_any (λ run. in_run run first.name) runs ≡ false → IsAheadOf runs first.name ahead → name_lt last first.name ≡ false →
      name_lt last own ≡ true → BeginsBehind own ahead → list_any (λ run. in_run run own) runs ≡ false
  in_none first last own ahead apart_from reach ordered behind ends =
      list_any_none (λ run. in_run run own) runs (λ k d lt. one (get_or runs k d) (k, lt, contained k d lt) (name_lt first.name (get_or runs k d).first) refl)
    where
      contained : (k : ℕ) (d : HiddenRun) → k < length runs → get_or runs k (get_or runs k d) ≡ get_or runs k d
      contained k d lt = get_or_default runs k (get_or runs k d) d lt

      front : name_lt first.name own ≡ true
      front = not_less_then first.name last own ordered behind

      out : (run : HiddenRun) → Contains runs run → (b : Bool) → in_run run first.name ≡ b → b ≡ false
      out run c false e = refl
      out run c true e = absurd (false≢true (sym apart_from ∙ list_any_at (λ (r : HiddenRun). in_run r first.name) runs c.0 run c.1 (ap (λ (r : HiddenRun). in_run r first.name) c.2 ∙ e)))

      limit : (run : HiddenRun) → Contains runs run → name_lt first.name run.first ≡ true → (o : Option HiddenRun) → IsAheadOf runs first.name o → BeginsBehind own o → name_lt own run.first ≡ true
      limit run c l None none e = absurd (false≢true (sym (All-contains (λ (r : HiddenRun). name_lt first.name r.first ≡ false) runs run none c) ∙ l))
      limit run c l (Some least) h e = less_then_not own least.first run.first e (All-contains (λ (r : HiddenRun). name_lt first.name r.first ≡ true → name_lt r.first least.first ≡ false) runs run h.least c l)

      one : (run : HiddenRun) → Contains runs run → (b : Bool) → name_lt first.name run.first ≡ b → in_run run own ≡ false
      one run c true l = within_ahead run.first run.last own (limit run c l ahead reach ends)
      one run c false l = within_behind run.first run.last own (name_lt-trans run.last first.name own (behind_of run.first run.last first.name (out run c (in_run run first.name) refl) l) front)

  -- one more is passed
  pub passing_goes_on : (first : Binding) (last own later_last : List ℕ) (ahead : Option HiddenRun) (found more : Bool) (spot next : Spot) (old new : Stand) (now later most : ℕ) → IsRising rows →
      list_any (λ run. in_run run first.name) runs ≡ false → IsAheadOf runs first.name ahead → IsPassing first last ahead found spot old now most → IsTrue found → shows (at spot).name ≡ false →
      later_last ≡ (at spot).name → BeginsBehind later_last ahead → cond more (Some (at next)) None ≡ next_of rows later_last →
      (IsTrue more → is_there next) → (IsTrue more → is_at new (at next).name) → later ≡ now + 1 → IsPassing first later_last ahead more next new later most
  passing_goes_on first last own later_last ahead found more spot next old new now later most rising apart_from reach walk is hidden same ends behind there stands one =
      let row : Binding = at spot in
      let least : IsLeastAfter rows last row = least_after rows last row rising (here found spot last walk.behind is) in
      let none : IsNoneShown shows rows first.name row.name = none_more shows rows first.name last row walk.none least hidden in
      let free : list_any (λ run. in_run run row.name) runs ≡ false =
      in_none first last row.name ahead apart_from reach walk.ordered least.greater (subst (λ (n : List ℕ). BeginsBehind n ahead) same ends) in
      let fewer : hidden_beside shows rows runs first.name row.name + 1 ≤ hidden_beside shows rows runs first.name last =
      beside_next shows rows runs first.name last row least.contained hidden free walk.ordered least.greater in
      let work : later + hidden_beside shows rows runs first.name row.name ≤ most = omega (arith, fewer, one, walk.work) in
      record {
        behind = behind;
        there = there;
        stands = stands;
        none = subst (λ (n : List ℕ). IsNoneShown shows rows first.name n) (sym same) none;
        ordered = ap (λ (n : List ℕ). name_lt n first.name) same ∙ not_both first.name row.name (not_less_then first.name last row.name walk.ordered least.greater);
        passed = λ name so h. passed_next shows rows name row more (at next) rising (walk.passed name is h) hidden (behind ∙ ap (next_of rows) same) so;
        ends = ends;
        work = subst (λ (n : List ℕ). later + hidden_beside shows rows runs first.name n ≤ most) (sym same) work;
      }

  -- from the first on
  from_last : (first : Binding) (last : List ℕ) → IsNoneShown shows rows first.name last → name_lt last first.name ≡ false → next_of (visible shows rows) first.name ≡ next_of (visible shows rows) last
  from_last first last none ordered = next_within shows rows first.name last last none (last_within shows rows first.name last ordered)

  -- an instance that is shown
  pub passing_found : (first : Binding) (last : List ℕ) (ahead : Option HiddenRun) (found : Bool) (spot : Spot) (stand : Stand) (now most : ℕ) → IsRising rows → IsPassing first last ahead found spot stand now most →
      IsTrue found → shows (at spot).name ≡ true → Some (at spot) ≡ next_of (visible shows rows) first.name
  passing_found first last ahead found spot stand now most rising walk is shown =
      sym (from_last first last walk.none walk.ordered ∙ next_here shows rows last (at spot) rising (here found spot last walk.behind is) shown)

  -- the end
  pub passing_ends : (first : Binding) (last : List ℕ) (ahead : Option HiddenRun) (found : Bool) (spot : Spot) (stand : Stand) (now most : ℕ) → IsRising rows → IsPassing first last ahead found spot stand now most →
      found ≡ false → None ≡ next_of (visible shows rows) first.name
  passing_ends first last ahead found spot stand now most rising walk is =
      let none : next_of rows last ≡ None = sym walk.behind ∙ ap (λ (b : Bool). cond b (Some (at spot)) None) is in
      sym (from_last first last walk.none walk.ordered ∙ next_none shows rows last rising none)

  -- the run ahead
  pub passing_reaches : (first : Binding) (last own : List ℕ) (ahead : Option HiddenRun) (run : HiddenRun) (found : Bool) (spot : Spot) (stand : Stand) (now most : ℕ) → IsRising rows → AreRuns → IsAheadOf runs first.name ahead →
      IsPassing first last ahead found spot stand now most → IsTrue found → shows (at spot).name ≡ false → own ≡ (at spot).name → ahead ≡ Some run → name_lt own run.first ≡ false →
      cond run.found (Some (at run.spot)) None ≡ next_of (visible shows rows) first.name
  passing_reaches first last own ahead run found spot stand now most rising are reach walk is hidden same e reached =
      let row : Binding = at spot in
      let least : IsLeastAfter rows last row = least_after rows last row rising (here found spot last walk.behind is) in
      let so : IsAhead runs first.name run = subst (λ (o : Option HiddenRun). IsAheadOf runs first.name o) e reach in
      let good : IsHiddenRun shows rows at is_there is_at run = All-contains (IsHiddenRun shows rows at is_there is_at) runs run are so.contained in
      let ends : name_lt last run.first ≡ true = subst (λ (o : Option HiddenRun). BeginsBehind last o) e walk.ends in
      let after : name_lt last good.first.name ≡ true = ap (name_lt last) good.named ∙ ends in
      let upto : name_lt run.first row.name ≡ false =
      ap (λ (n : List ℕ). name_lt n row.name) (sym good.named) ∙ All-contains (λ (r : Binding). IsTrue (name_lt last r.name) → name_lt r.name row.name ≡ false) rows good.first least.least good.contained after in
      let equal : row.name ≡ run.first = neither row.name run.first (ap (λ (n : List ℕ). name_lt n run.first) (sym same) ∙ reached) upto in
      good.behind
      ∙ sym (from_last first last walk.none walk.ordered
      ∙ next_past shows rows last row rising (here found spot last walk.behind is) hidden
      ∙ ap (next_of (visible shows rows)) equal)

  pub run_there : (run : HiddenRun) → AreRuns → Contains runs run → IsHiddenRun shows rows at is_there is_at run
  run_there run are c = All-contains (IsHiddenRun shows rows at is_there is_at) runs run are c

  -- an instance in a run
  pub run_around : (run : HiddenRun) (name : List ℕ) → AreRuns → Contains runs run → in_run run name ≡ true → cond run.found (Some (at run.spot)) None ≡ next_of (visible shows rows) name
  run_around run name are c within =
      let good : IsHiddenRun shows rows at is_there is_at run = run_there run are c in
      good.behind ∙ next_within shows rows run.first run.last name good.none within

  -- the instance that was found, and those behind it
  abbrev pub still : Bool → Spot → ℕ
  still found spot = length (from rows (cond found (Some (at spot)) None))

  -- are fewer each time
  pub passing_smaller : (last own : List ℕ) (found more : Bool) (spot next : Spot) → IsRising rows → IsTrue found → own ≡ (at spot).name → cond more (Some (at next)) None ≡ next_of rows own → still more next < still found spot
  passing_smaller last own found more spot next rising is same behind =
      from_shorter rows (cond found (Some (at spot)) None) (cond more (Some (at next)) None) (at spot) (at spot).name rising (ap (λ (b : Bool). cond b (Some (at spot)) None) is) refl
      (behind ∙ ap (next_of rows) same)

-- ---- runs for bindings that are sent

module _ (shows : List ℕ → Bool) (rows : List Binding) (at : Spot → Binding) (is_there : Spot → Type 0) (is_at : Stand → List ℕ → Type 0) (most : ℕ) where
  pub runs_none : (hidden : HiddenRuns) (sent : ℕ) → hidden.runs.items ≡ [] → most ≤ vec_capacity hidden.runs → AreRunsFor shows rows at is_there is_at most sent hidden
  runs_none hidden sent none space =
      let count : length hidden.runs.items ≡ 0 = ap length none in
      record {
        runs = subst (All (IsHiddenRun shows rows at is_there is_at)) (sym none) (All-nil (IsHiddenRun shows rows at is_there is_at));
        few = omega (arith, count);
        space = space;
      }

  pub runs_for : (old new : HiddenRuns) (sent later : List Binding) (b : Binding) → AreRunsFor shows rows at is_there is_at most (length sent) old → All (IsHiddenRun shows rows at is_there is_at) new.runs.items →
      length new.runs.items ≤ length old.runs.items + 1 → vec_capacity new.runs ≡ vec_capacity old.runs → later ≡ sent ++ b ∷ [] → AreRunsFor shows rows at is_there is_at most (length later) new
  runs_for old new sent later b h runs grown capacity push =
      let len : length later ≡ length sent + 1 = ap length push ∙ length-append sent (b ∷ []) in
      record {
        runs = runs;
        few = omega (arith, h.few, grown, len);
        space = omega (arith, h.space, capacity);
      }

-- where none are kept
pub left_at_first : (shows : List ℕ → Bool) (rows : List Binding) (runs : List HiddenRun) → runs ≡ [] → hidden_left shows rows runs ≤ hidden_count shows rows
left_at_first shows rows runs none = subst (λ (rs : List HiddenRun). hidden_left shows rows rs ≤ hidden_count shows rows) (sym none) (left_none shows rows)

-- one for each hidden instance, and one more
pub most_is : (shows : List ℕ → Bool) (rows : List Binding) → most_lookups shows rows ≡ hidden_count shows rows + 1
unfolding most_lookups
most_is shows rows = refl

-- ---- keeping runs, and searching them

module _ (shows : List ℕ → Bool) (rows : List Binding) (at : Spot → Binding) (is_there : Spot → Type 0) (is_at : Stand → List ℕ → Type 0) where
  -- the run of what was passed
  pub run_of : (first : Binding) (run : HiddenRun) (spot : Spot) → Contains rows first → run.first ≡ first.name → name_lt run.last first.name ≡ false → IsNoneShown shows rows first.name run.last →
      cond run.found (Some (at spot)) None ≡ next_of (visible shows rows) first.name → (IsTrue run.found → is_there spot) → (IsTrue run.found → is_at run.stand (at spot).name) → run.spot ≡ spot →
      IsHiddenRun shows rows at is_there is_at run
  run_of first run spot c named ordered none behind there stands same = record {
    first = first;
    contained = c;
    named = sym named;
    ordered = ap (name_lt run.last) named ∙ ordered;
    none = subst (λ (n : List ℕ). IsNoneShown shows rows n run.last) (sym named) none;
    behind = ap (λ (s : Spot). cond run.found (Some (at s)) None) same ∙ behind ∙ ap (next_of (visible shows rows)) (sym named);
    there = λ is. subst is_there (sym same) (there is);
    stands = λ is. subst (λ (s : Spot). is_at run.stand (at s).name) (sym same) (stands is);
  }

  pub kept_runs : (old new : HiddenRuns) (run : HiddenRun) → All (IsHiddenRun shows rows at is_there is_at) old.runs.items → IsHiddenRun shows rows at is_there is_at run →
      (length old.runs.items < vec_capacity old.runs → new.runs.items ≡ old.runs.items ++ run ∷ []) → (vec_capacity old.runs ≤ length old.runs.items → new ≡ old) →
      All (IsHiddenRun shows rows at is_there is_at) new.runs.items
  kept_runs old new run are is kept full = elim (cases_lt (length old.runs.items) (vec_capacity old.runs)) [
    | inl less ↦ subst (All (IsHiddenRun shows rows at is_there is_at)) (sym (kept less)) (All-push (IsHiddenRun shows rows at is_there is_at) old.runs.items run are is)
    | inr more ↦ subst (λ (h : HiddenRuns). All (IsHiddenRun shows rows at is_there is_at) h.runs.items) (sym (full more)) are
  ]

  -- fewer are left
  pub kept_left : (old new : HiddenRuns) (run : HiddenRun) (first : List ℕ) (now most : ℕ) → (length old.runs.items < vec_capacity old.runs → new.runs.items ≡ old.runs.items ++ run ∷ []) → run.first ≡ first →
      now + hidden_beside shows rows old.runs.items first run.last ≤ most → length old.runs.items < vec_capacity old.runs → now + hidden_left shows rows new.runs.items ≤ most
  kept_left old new run first now most kept named work less =
      let fewer : hidden_left shows rows (old.runs.items ++ run ∷ []) ≤ hidden_beside shows rows old.runs.items run.first run.last = left_kept shows rows old.runs.items run in
      let same : hidden_left shows rows new.runs.items ≡ hidden_left shows rows (old.runs.items ++ run ∷ []) = ap (hidden_left shows rows) (kept less) in
      let here : hidden_beside shows rows old.runs.items run.first run.last ≡ hidden_beside shows rows old.runs.items first run.last = ap (λ (n : List ℕ). hidden_beside shows rows old.runs.items n run.last) named in
      omega (arith, fewer, same, here, work)

-- the run that is least so far
abbrev BeginsLater : List ℕ → HiddenRun → HiddenRun → Type 0
BeginsLater name x other = name_lt name other.first ≡ true → name_lt other.first x.first ≡ false

pub ahead_yes : (runs : List HiddenRun) (i : ℕ) (x : HiddenRun) (name : List ℕ) (o : Option HiddenRun) → i < length runs → get_or runs i x ≡ x → IsAheadOf (take i runs) name o →
    name_lt name x.first ≡ true → BeginsBehind x.first o → IsAheadOf (take (i + 1) runs) name (Some x)
ahead_yes runs i x name o lt is h behind before = record {
  contained = subst (λ (rs : List HiddenRun). Contains rs x) (sym more) (Contains-push (take i runs) x);
  behind = behind;
  least = subst (All (BeginsLater name x)) (sym more) (All-push (BeginsLater name x) (take i runs) x (others o h before) (λ _. name_lt-irrefl x.first));
}
  where
    more : take (i + 1) runs ≡ take i runs ++ x ∷ []
    more = take_more runs i x lt ∙ ap (λ (r : HiddenRun). take i runs ++ r ∷ []) is

    not_before : (other least : HiddenRun) → name_lt other.first least.first ≡ false → name_lt x.first least.first ≡ true → (b : Bool) → name_lt other.first x.first ≡ b → b ≡ false
    not_before other least k l false e = refl
    not_before other least k l true e = absurd (false≢true (sym k ∙ name_lt-trans other.first x.first least.first e l))

    others : (p : Option HiddenRun) → IsAheadOf (take i runs) name p → BeginsBehind x.first p → All (BeginsLater name x) (take i runs)
    others None none b = All-weaker (λ (r : HiddenRun). name_lt name r.first ≡ false) (BeginsLater name x) (λ other no yes. absurd (false≢true (sym no ∙ yes))) (take i runs) none
    others (Some least) k b = All-weaker (λ (r : HiddenRun). name_lt name r.first ≡ true → name_lt r.first least.first ≡ false) (BeginsLater name x)
        (λ other no yes. not_before other least (no yes) b (name_lt other.first x.first) refl) (take i runs) k.least

pub ahead_no : (runs : List HiddenRun) (i : ℕ) (x : HiddenRun) (name : List ℕ) (o : Option HiddenRun) → i < length runs → get_or runs i x ≡ x → IsAheadOf (take i runs) name o →
    ((name_lt name x.first ≡ true) × BeginsBehind x.first o → ⊥) → IsAheadOf (take (i + 1) runs) name o
ahead_no runs i x name None lt is h fails = subst (All (λ (r : HiddenRun). name_lt name r.first ≡ false)) (sym (take_more runs i x lt ∙ ap (λ (r : HiddenRun). take i runs ++ r ∷ []) is))
    (All-push (λ (r : HiddenRun). name_lt name r.first ≡ false) (take i runs) x h (decided (name_lt name x.first) refl))
  where
    decided : (b : Bool) → name_lt name x.first ≡ b → b ≡ false
    decided false e = refl
    decided true e = absurd (fails (e, tt))
ahead_no runs i x name (Some least) lt is h fails =
    let more : take (i + 1) runs ≡ take i runs ++ x ∷ [] = take_more runs i x lt ∙ ap (λ (r : HiddenRun). take i runs ++ r ∷ []) is in
    record {
      contained = subst (λ (rs : List HiddenRun). Contains rs least) (sym more) (Contains-append_left (take i runs) (x ∷ []) least h.contained);
      behind = h.behind;
      least =
          subst (All (λ (r : HiddenRun). name_lt name r.first ≡ true → name_lt r.first least.first ≡ false)) (sym more)
          (All-push (λ (r : HiddenRun). name_lt name r.first ≡ true → name_lt r.first least.first ≡ false) (take i runs) x h.least (λ behind. decided behind (name_lt x.first least.first) refl));
    }
  where
    decided : name_lt name x.first ≡ true → (b : Bool) → name_lt x.first least.first ≡ b → b ≡ false
    decided behind false e = refl
    decided behind true e = absurd (fails (behind, e))

pub on_err_then : {T E P Q : Type 0} (r : Result T E) → (P → Q) → OnErr r P → OnErr r Q
on_err_then (Ok v) f h = tt
on_err_then (Err e) f h = f h

-- a walk ends at what it answers
pub passed_answer : (shows : List ℕ → Bool) (rows : List Binding) (name : List ℕ) (row : Binding) → next_of (visible shows rows) name ≡ Some row → IsPassed shows rows name row
passed_answer shows rows name row is =
    let s = found_shown shows rows name row is in
    record {
      contained = s.0.0;
      greater = s.1;
      until = λ found e. let same : found ≡ row = cc in ap (λ (r : Binding). name_lt r.name row.name) same ∙ name_lt-irrefl row.name;
    }
