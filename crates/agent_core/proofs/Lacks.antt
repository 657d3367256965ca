-- For which names a walk takes memory.
use Rattle.std.proofs.Common.{◌≡◌, ℕ, ◌<◌, ◌∙◌, sym, ap, subst, refl, Bool, true, false, cond, List, [], ◌∷◌, arith, Contains, Option, Some, None, IsTrue, inl, inr}
use Rattle.std.specs.Prelude.{MatchOption}
use Rattle.std.proofs.lemmas.Bool.{false≢true}
use Rattle.std.proofs.lemmas.List.Elements.{All-contains, Contains-append_right}
use Rattle.oid_core.specs.Order.{name_lt}
use Rattle.oid_core.proofs.OrderLaws.{name_lt-trans, any_two, before_lt}
use Rattle.message_core.specs.declared.binding.Binding.{Binding}
use Rattle.message_core.specs.Instances.{IsRising, IsLeastAfter, next_of, after}
use Rattle.message_core.proofs.Rising.{first_least}
use Rattle.agent_core.specs.Reading.{visible}
use Rattle.agent_core.specs.Lookups.{IsPassed, PassesLong, LacksName, of_instance, of_end}

Contains-at_front : (x : Binding) (xs : List Binding) (row : Binding) → x ≡ row → Contains (x ∷ xs) row
Contains-at_front x xs row same = (0, omega arith, same)

-- the first instance behind a name
pub least_after : (rows : List Binding) (name : List ℕ) (row : Binding) → IsRising rows → next_of rows name ≡ Some row → IsLeastAfter rows name row
least_after rows name row h e = subst (λ (o : Option Binding). MatchOption o (after name rows ≡ []) (λ r. IsLeastAfter rows name r)) e (first_least rows name h)

-- an instance that is shown is in the list, and shown
abbrev IsShownIn : (List ℕ → Bool) → List Binding → List ℕ → Binding → Type 0
IsShownIn shows rows name row = (Contains rows row × (shows row.name ≡ true)) × (name_lt name row.name ≡ true)

shown_later : (shows : List ℕ → Bool) (x : Binding) (xs : List Binding) (name : List ℕ) (row : Binding) → IsShownIn shows xs name row → IsShownIn shows (x ∷ xs) name row
shown_later shows x xs name row r = ((Contains-append_right (x ∷ []) xs row r.0.0, r.0.1), r.1)

shown_first : (shows : List ℕ → Bool) (x : Binding) (xs : List Binding) (name : List ℕ) (row : Binding) (b : Bool) → name_lt name x.name ≡ b → shows x.name ≡ true →
    (next_of (visible shows xs) name ≡ Some row → IsShownIn shows xs name row) →
    cond b (Some x) (next_of (visible shows xs) name) ≡ Some row → IsShownIn shows (x ∷ xs) name row
shown_first shows x xs name row true l s more k =
    let same : x ≡ row = cc in
    ((Contains-at_front x xs row same, ap (λ (r : Binding). shows r.name) (sym same) ∙ s), ap (λ (r : Binding). name_lt name r.name) (sym same) ∙ l)
shown_first shows x xs name row false l s more k = shown_later shows x xs name row (more k)

shown_by : (shows : List ℕ → Bool) (x : Binding) (xs : List Binding) (name : List ℕ) (row : Binding) (b : Bool) → shows x.name ≡ b →
    (next_of (visible shows xs) name ≡ Some row → IsShownIn shows xs name row) →
    next_of (cond b (x ∷ visible shows xs) (visible shows xs)) name ≡ Some row → IsShownIn shows (x ∷ xs) name row
shown_by shows x xs name row true s more k = shown_first shows x xs name row (name_lt name x.name) refl s more k
shown_by shows x xs name row false s more k = shown_later shows x xs name row (more k)

pub found_shown : (shows : List ℕ → Bool) (rows : List Binding) (name : List ℕ) (row : Binding) → next_of (visible shows rows) name ≡ Some row → IsShownIn shows rows name row
found_shown shows [] name row e = absurd (cc)
found_shown shows (x ∷ xs) name row e = shown_by shows x xs name row (shows x.name) refl (λ k. found_shown shows xs name row k) e

-- the first instance behind a name is passed, or the walk ends at it
pub passed_first : (shows : List ℕ → Bool) (rows : List Binding) (name : List ℕ) (found : Bool) (row : Binding) → IsRising rows → cond found (Some row) None ≡ next_of rows name → IsTrue found → IsPassed shows rows name row
passed_first shows rows name found row h e is =
    let least : IsLeastAfter rows name row = least_after rows name row h (sym e ∙ ap (λ (b : Bool). cond b (Some row) None) is) in
    record {
      contained = least.contained;
      greater = least.greater;
      until = λ other k.
          let shown = found_shown shows rows name other k in
          All-contains (λ (r : Binding). IsTrue (name_lt name r.name) → name_lt r.name row.name ≡ false) rows other least.least shown.0.0 shown.1;
    }

-- neither is less
pub apart : (a b : List ℕ) → name_lt a b ≡ false → (a ≡ b → ⊥) → name_lt b a ≡ true
apart a b h n = elim (any_two a b) [
  | inl before ↦ let fails : true ≡ false = sym (before_lt a b before) ∙ h in absurd (cc)
  | inr (inl same) ↦ absurd (n same)
  | inr (inr after) ↦ before_lt b a after
]

-- behind a hidden one the next is passed, or the walk ends at it
pub passed_next : (shows : List ℕ → Bool) (rows : List Binding) (name : List ℕ) (row : Binding) (found : Bool) (next : Binding) → IsRising rows → IsPassed shows rows name row → shows row.name ≡ false →
    cond found (Some next) None ≡ next_of rows row.name → IsTrue found → IsPassed shows rows name next
passed_next shows rows name row found next h passed hidden e is =
    let least : IsLeastAfter rows row.name next = least_after rows row.name next h (sym e ∙ ap (λ (b : Bool). cond b (Some next) None) is) in
    record {
      contained = least.contained;
      greater = name_lt-trans name row.name next.name passed.greater least.greater;
      until = λ other k.
          let shown = found_shown shows rows name other k in
          let behind : name_lt row.name other.name ≡ true = apart other.name row.name (passed.until other k) (λ same. false≢true (sym hidden ∙ ap shows (sym same) ∙ shown.0.1)) in
          All-contains (λ (r : Binding). IsTrue (name_lt row.name r.name) → name_lt r.name next.name ≡ false) rows other least.least shown.0.0 behind;
    }

-- over more instances, of which the view shows the same
pub passes_more : (shows : List ℕ → Bool) (few all : List Binding) (name : List ℕ) → visible shows few ≡ visible shows all → ((row : Binding) → Contains few row → Contains all row) →
    PassesLong shows few name → PassesLong shows all name
passes_more shows few all name same more h = record {
  row = h.row;
  passed = record {
    contained = more h.row h.passed.contained;
    greater = h.passed.greater;
    until = λ found e. h.passed.until found (ap (λ (rows : List Binding). next_of rows name) same ∙ e);
  };
  long = h.long;
}

pub lacks_more : (shows : List ℕ → Bool) (few all : List Binding) (name : List ℕ) → visible shows few ≡ visible shows all → ((row : Binding) → Contains few row → Contains all row) →
    LacksName shows few name → LacksName shows all name
lacks_more shows few all name same more (of_instance h) = of_instance (passes_more shows few all name same more h)
lacks_more shows few all name same more (of_end none long) = of_end (ap (λ (rows : List Binding). next_of rows name) (sym same) ∙ none) long
