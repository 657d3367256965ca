-- Bindings that are to be sent, and the octets that there is space for.
use Rattle.std.specs.Prelude.{◌≡◌, ℕ, ◌-◌, ◌<◌, ◌≤◌, List, [], length, map, take, drop, get_or}
use Rattle.std.specs.List.{AllByRecursion}
use Rattle.oid_core.specs.declared.limits.TheConstants.{MAX_NUMBERS}
use Rattle.message_core.specs.Instances.{names_of}
use Rattle.message_core.specs.Encodable.{AreEncodable}
use Rattle.message_core.specs.declared.binding.Binding.{Binding}
use Rattle.message_core.specs.declared.limits.TheConstants.{MAX_REPLY}
use Rattle.agent_core.specs.declared.source.Stand.{Stand}
use Rattle.agent_core.specs.declared.sent_binding.SentBinding.{SentBinding}
use Rattle.agent_core.specs.Bulk.{is_end}
use Rattle.agent_core.specs.Fitting.{total}

pub record Sending : Type 0 where
  -- the octets that the bindings may have
  pub space : ℕ
  pub bindings : List Binding
  -- where walks stand at their names
  pub stands : List Stand

-- the name that stands there among the numbers of all names
abbrev pub name_there : List ℕ → SentBinding → List ℕ
name_there numbers sent = take (sent.end - sent.start) (drop sent.start numbers)

-- a name stands among so many numbers
abbrev pub StandsWithin : ℕ → SentBinding → Type 0
StandsWithin count sent = (sent.start ≤ sent.end) × (sent.end ≤ count)

-- Bindings that fit into the space and can be encoded, the numbers of their names, and where the name of
-- each stands among these. There are no more numbers than octets: so there is memory for all of them.
pub record IsSending (sending : Sending) (numbers : List ℕ) (names : List SentBinding) : Type 0 where
  pub names_are : map (name_there numbers) names ≡ names_of sending.bindings
  pub ends_are : map (λ sent. sent.is_end) names ≡ map (λ b. is_end b.value) sending.bindings
  pub each : AllByRecursion (StandsWithin (length numbers)) names
  pub few : length numbers ≤ total sending.bindings
  pub within : total sending.bindings ≤ sending.space
  pub most : sending.space ≤ MAX_REPLY
  pub encodable : AreEncodable sending.bindings
  pub short : AllByRecursion (λ b. length b.name ≤ MAX_NUMBERS) sending.bindings

-- Walks stand at the names of the bindings, one at each.
pub record AreStands (stands : Stand → List ℕ → Type 0) (places : List Stand)
    (names : List (List ℕ)) : Type 0 where
  pub within : length places ≡ length names
  pub each : (k : ℕ) (stand : Stand) → k < length places →
      stands (get_or places k stand) (get_or names k [])
