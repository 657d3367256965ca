-- The whole list that a GetBulk asks for (RFC 3416, 4.2.3).
use Rattle.std.specs.Prelude.{◌≡◌, ℕ, zero, suc, ◌+◌, ◌*◌, ◌<◌, ◌≤◌, ℤ, pos, negsuc, Bool, true, false, if◌then◌else◌, List, [], ◌++◌, length, map, min, take, drop, slice_get, Some}
use Rattle.std.specs.List.{list_all}
use Rattle.message_core.specs.declared.binding.Binding.{Binding}
use Rattle.message_core.specs.declared.request.Request.{Request}
use Rattle.message_core.specs.declared.value.Value.{Value}
use Rattle.message_core.specs.declared.value.Value.TheVariants.{EndOfMibView}
use Rattle.message_core.specs.Instances.{names_of}
use Rattle.agent_core.specs.Reading.{next_answer, next_answers}

abbrev pub is_end : Value → Bool
is_end EndOfMibView = true
is_end _ = false

-- each binding is endOfMibView
abbrev pub all_end : List Binding → Bool
all_end bindings = list_all (λ b. is_end b.value) bindings

-- At most so many repetitions. Each asks for the successors of the names of the one before, in the
-- same order, and the first that is all endOfMibView is the last.
unfoldable pub repetitions : List Binding → ℕ → List (List ℕ) → List Binding
repetitions rows zero names = []
repetitions rows (suc most) names =
    if all_end (next_answers rows names) then next_answers rows names
    else next_answers rows names ++ repetitions rows most (names_of (next_answers rows names))

-- At most so many repetitions behind one: none behind one that is all endOfMibView, and else those
-- from its names on.
abbrev pub further : List Binding → ℕ → List Binding → List Binding
further rows most row = if all_end row then [] else repetitions rows most (names_of row)

-- The first names once, and the others up to so many times.
abbrev pub bulk_list : List Binding → ℕ → ℕ → List (List ℕ) → List Binding
bulk_list rows once most names =
    next_answers rows (take once names) ++ repetitions rows most (drop once names)

-- a number of a request as a count: 0 where it is negative
abbrev pub count_of : ℤ → ℕ
count_of (pos n) = n
count_of (negsuc n) = 0

-- The list that a request asks for: its first number is the non-repeaters, its second the
-- max-repetitions.
abbrev pub asked_list : List Binding → Request → List Binding
asked_list rows request =
    bulk_list rows (min (count_of request.first) (length request.bindings))
    (count_of request.second) (names_of request.bindings)

-- The successors of a name: what GetNext answers to it, then to the name that was answered, and so
-- on; the first is number 0.
abbrev pub successor : List Binding → ℕ → List ℕ → Binding
successor rows zero name = next_answer rows name
successor rows (suc r) name = successor rows r (next_answer rows name).name

-- The r-th repetition: the r-th successor of each name.
abbrev pub repetition : List Binding → ℕ → List (List ℕ) → List Binding
repetition rows r names = map (λ name. successor rows r name) names

-- `list` is `count` repetitions of the names, one behind the other (RFC 3416, 4.2.3).
pub record IsRepeated (rows : List Binding) (names : List (List ℕ)) (most count : ℕ)
    (list : List Binding) : Type 0 where
  pub within : count ≤ most
  pub size : length list ≡ count * length names
  -- the binding of repetition r and column c is the r-th successor of that column's name
  pub each : (r c : ℕ) (name : List ℕ) → r < count → slice_get names c ≡ Some name →
      slice_get list (r * length names + c) ≡ Some (successor rows r name)
  -- no repetition but the last is all endOfMibView
  pub going : (r : ℕ) → suc r < count → all_end (repetition rows r names) ≡ false
  -- there are fewer than asked for only where the last is
  pub ended : count < most → (last : ℕ) × (count ≡ suc last) ×
      (all_end (repetition rows last names) ≡ true)
