-- What is left of a rising list after a name.
use Rattle.std.proofs.Common.{◌≡◌, ℕ, suc, ◌<◌, ◌∙◌, sym, ap, refl, Bool, true, false, cond, List, [], ◌∷◌, length, arith, filter, find, Option, Some, None}
use Rattle.oid_core.specs.Order.{name_lt}
use Rattle.message_core.specs.Instances.{IsRising, after, next_of}
use Rattle.agent_core.specs.Reading.{visible, end_under, or_end, next_answer}
use Rattle.message_core.specs.declared.binding.Binding.{Binding}
use Rattle.message_core.proofs.Rising.{after-first, find_is}

-- an instance and those after it
abbrev pub from : List Binding → Option Binding → List Binding
from rows None = []
from rows (Some row) = row ∷ after row.name rows

pub from-next : (rows : List Binding) (name : List ℕ) (ys : List Binding) → IsRising rows → after name rows ≡ ys → from rows (next_of rows name) ≡ ys
from-next rows name [] h e = rw (find_is (λ row. name_lt name row.name) rows [] e) refl
from-next rows name (y ∷ ys) h e =
    rw (find_is (λ row. name_lt name row.name) rows (y ∷ ys) e) (ap (λ zs. y ∷ zs) (after-first rows name y ys h e))

-- two tests in either order
pub find-filter : (p q : Binding → Bool) (xs : List Binding) → find q (filter p xs) ≡ find p (filter q xs)
find-filter p q [] = refl
find-filter p q (x ∷ xs) = both (p x) (q x) refl refl (find-filter p q xs)
  where
    both : (a b : Bool) → p x ≡ a → q x ≡ b → find q (filter p xs) ≡ find p (filter q xs) →
        find q (cond a (x ∷ filter p xs) (filter p xs)) ≡ find p (cond b (x ∷ filter q xs) (filter q xs))
    both true true h k more = rw (h, k) refl
    both true false h k more = rw k more
    both false true h k more = rw h more
    both false false h k more = more

-- the first instance in the view after a name, among those from the next instance on
pub next-visible : (shows : List ℕ → Bool) (rows : List Binding) (name : List ℕ) → IsRising rows →
    next_of (visible shows rows) name ≡ find (λ row. shows row.name) (from rows (next_of rows name))
next-visible shows rows name h =
    find-filter (λ row. shows row.name) (λ row. name_lt name row.name) rows
    ∙ ap (find (λ row. shows row.name)) (sym (from-next rows name (after name rows) h refl))

-- one step further
pub from_step : (rows : List Binding) (next : Option Binding) (row : Binding) (name : List ℕ) → IsRising rows → name ≡ row.name → next ≡ next_of rows name → from rows next ≡ after row.name rows
from_step rows next row name h e is =
    ap (from rows) is ∙ from-next rows name (after row.name rows) h (ap (λ n. after n rows) e)

pub from_shorter : (rows : List Binding) (found next : Option Binding) (row : Binding) (name : List ℕ) → IsRising rows → found ≡ Some row → name ≡ row.name → next ≡ next_of rows name →
    length (from rows next) < length (from rows found)
from_shorter rows found next row name h here e is =
    let step : length (from rows next) ≡ length (after row.name rows) = ap length (from_step rows next row name h e is) in
    let now : length (from rows found) ≡ suc (length (after row.name rows)) = ap (λ o. length (from rows o)) here in
    omega (arith, step, now)

pub from_hidden : (shows : List ℕ → Bool) (rows : List Binding) (answer found next : Option Binding) (row : Binding) (name : List ℕ) → IsRising rows → found ≡ Some row → name ≡ row.name → next ≡ next_of rows name →
    shows name ≡ false → answer ≡ find (λ r. shows r.name) (from rows found) → answer ≡ find (λ r. shows r.name) (from rows next)
from_hidden shows rows answer found next row name h here e is hidden so =
    let hides : shows row.name ≡ false = ap shows (sym e) ∙ hidden in
    let past : find (λ r. shows r.name) (row ∷ after row.name rows) ≡ find (λ r. shows r.name) (after row.name rows) = rw hides refl in
    so ∙ ap (λ o. find (λ r. shows r.name) (from rows o)) here ∙ past ∙ ap (find (λ r. shows r.name)) (sym (from_step rows next row name h e is))

-- the answer, by whether an instance was found
pub answer_found : (rows : List Binding) (name : List ℕ) (found : Bool) (row : Binding) → cond found (Some row) None ≡ next_of rows name → cond found row (end_under name) ≡ next_answer rows name
answer_found rows name true row e = ap (λ o. or_end o name) e
answer_found rows name false row e = ap (λ o. or_end o name) e
