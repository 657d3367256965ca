-- What Get and GetNext answer can be encoded.
use Rattle.std.proofs.Common.{◌≡◌, ℕ, Bool, true, false, cond, List, [], ◌∷◌, Option, Some, None, refl, subst}
use Rattle.oid_core.specs.Order.{name_eq, name_lt}
use Rattle.oid_core.specs.Name.{HasRoot}
use Rattle.message_core.specs.Encodable.{IsEncodableValue, IsEncodableBinding, AreEncodable}
use Rattle.message_core.specs.declared.binding.Binding.{Binding}
use Rattle.message_core.specs.declared.value.Value.{Value}
use Rattle.message_core.specs.Instances.{value_of, next_of, names_of}
use Rattle.agent_core.specs.Reading.{visible, or_end, or_missing, is_known, object_of, get_answers, next_answer, next_answers}

-- what a view shows of instances that can be encoded
visible_encodable : (shows : List ℕ → Bool) (rows : List Binding) → AreEncodable rows → AreEncodable (visible shows rows)
visible_encodable shows [] h = tt
visible_encodable shows (row ∷ rows) h =
    elim (shows row.name) as (λ b. AreEncodable (cond b (row ∷ visible shows rows) (visible shows rows))) [
      | true ↦ (h.0, visible_encodable shows rows h.1)
      | false ↦ visible_encodable shows rows h.1
    ]

value_encodable : (rows : List Binding) (name : List ℕ) (v : Value) → AreEncodable rows → value_of rows name ≡ Some v → IsEncodableValue v
value_encodable [] name v h e = absurd (cc)
value_encodable (row ∷ rows) name v h e = pick (name_eq row.name name) e (λ k. value_encodable rows name v h.1 k)
  where
    pick : (b : Bool) → cond b (Some row.value) (value_of rows name) ≡ Some v → (value_of rows name ≡ Some v → IsEncodableValue v) → IsEncodableValue v
    pick true e more = let same : row.value ≡ v = cc in subst IsEncodableValue same h.0.value
    pick false e more = more e

missing_encodable : (found : Option Value) (known : Bool) → ((v : Value) → found ≡ Some v → IsEncodableValue v) → IsEncodableValue (or_missing found known)
missing_encodable (Some v) known h = h v refl
missing_encodable None true h = tt
missing_encodable None false h = tt

pub answers_encodable : (objects : List (List ℕ)) (shows : List ℕ → Bool) (rows asked : List Binding) → AreEncodable rows → AreEncodable asked → AreEncodable (get_answers objects shows rows asked)
answers_encodable objects shows rows [] h k = tt
answers_encodable objects shows rows (b ∷ bs) h k = (
  record {
    name = k.0.name;
    value = missing_encodable (value_of (visible shows rows) b.name) (is_known (shows b.name) (visible shows rows) (object_of objects b.name))
        (λ v e. value_encodable (visible shows rows) b.name v (visible_encodable shows rows h) e);
  },
  answers_encodable objects shows rows bs h k.1,
)

next_encodable : (rows : List Binding) (name : List ℕ) (row : Binding) → AreEncodable rows → next_of rows name ≡ Some row → IsEncodableBinding row
next_encodable [] name row h e = absurd (cc)
next_encodable (x ∷ xs) name row h e = pick (name_lt name x.name) e (λ k. next_encodable xs name row h.1 k)
  where
    pick : (b : Bool) → cond b (Some x) (next_of xs name) ≡ Some row → (next_of xs name ≡ Some row → IsEncodableBinding row) → IsEncodableBinding row
    pick true k more = let same : x ≡ row = cc in subst IsEncodableBinding same h.0
    pick false k more = more k

-- what GetNext answers under a name that can be encoded
pub next_answer_encodable : (shows : List ℕ → Bool) (rows : List Binding) (name : List ℕ) → AreEncodable rows → HasRoot name → IsEncodableBinding (next_answer (visible shows rows) name)
next_answer_encodable shows rows name h root = pick (next_of (visible shows rows) name) refl
  where
    pick : (o : Option Binding) → next_of (visible shows rows) name ≡ o → IsEncodableBinding (or_end o name)
    pick None e = record { name = root; value = tt }
    pick (Some row) e = next_encodable (visible shows rows) name row (visible_encodable shows rows h) e

pub nexts_encodable : (shows : List ℕ → Bool) (rows asked : List Binding) → AreEncodable rows → AreEncodable asked → AreEncodable (next_answers (visible shows rows) (names_of asked))
nexts_encodable shows rows [] h k = tt
nexts_encodable shows rows (b ∷ bs) h k = (next_answer_encodable shows rows b.name h k.0.name, nexts_encodable shows rows bs h k.1)
