-- As much of a list as fits into one reply (RFC 3416, 4.2.3; the limit is the agent's).
use Rattle.std.specs.Prelude.{◌≡◌, ℕ, zero, suc, ◌+◌, ◌/◌, ◌≤◌, pos, Bool, false, if◌then◌else◌, nat_le, List, [], ◌∷◌, ◌++◌, length, take}
use Rattle.message_core.specs.Canon.{canon_reply, canon_bindings, answer_to}
use Rattle.message_core.specs.declared.binding.Binding.{Binding}
use Rattle.message_core.specs.declared.limits.TheConstants.{MAX_REPLY}
use Rattle.message_core.specs.declared.request.Request.{Request}
use Rattle.message_core.specs.declared.status.ErrorStatus.TheVariants.{NoError}

-- the octets of the reply to a request with these bindings and no error, in its minimal encoding
abbrev pub reply_size : Request → List Binding → ℕ
reply_size request bindings = length (canon_reply (answer_to request NoError (pos 0) bindings))

-- the longest front of a list, of at most so many elements, that passes the test; none where none
-- passes
abbrev pub longest_front : (List Binding → Bool) → ℕ → List Binding → List Binding
longest_front passes zero all = []
longest_front passes (suc most) all =
    if passes (take (suc most) all) then take (suc most) all else longest_front passes most all

-- The longest front of the whole list whose reply is not too long.
unfoldable pub fitting_front : Request → List Binding → List Binding
fitting_front request all =
    longest_front (λ front. nat_le (reply_size request front) MAX_REPLY) (length all) all

-- a front of a list
abbrev pub IsFront : List Binding → List Binding → Type 0
IsFront front all = (rest : List Binding) × (front ++ rest ≡ all)

-- `sent` is the longest front of the list whose reply is not too long
pub record IsLongestFitting (request : Request) (all sent : List Binding) : Type 0 where
  pub front : IsFront sent all
  pub fits : reply_size request sent ≤ MAX_REPLY
  pub longest : (other : List Binding) → IsFront other all → reply_size request other ≤ MAX_REPLY →
      length other ≤ length sent

-- A binding has so many octets or more: its own head, and those of its name and its value.
abbrev pub least_binding : ℕ
least_binding = 6

-- For a list that is sent as far as it fits, no more successors need to be found: one for each
-- binding, and one that does not fit.
abbrev pub most_successors : ℕ
most_successors = MAX_REPLY / least_binding + 1

-- the octets of bindings
abbrev pub total : List Binding → ℕ
total bindings = length (canon_bindings bindings)

-- whether bindings fit into so many octets
abbrev pub fit_into : ℕ → List Binding → Bool
fit_into space bindings = nat_le (total bindings) space

-- `sent` is a front of the list, and what comes next does not fit beside it
pub record IsFilled (space : ℕ) (all sent : List Binding) : Type 0 where
  pub rest : List Binding
  pub front : sent ++ rest ≡ all
  pub full : (next : Binding) (more : List Binding) → rest ≡ next ∷ more →
      fit_into space (sent ++ next ∷ []) ≡ false
