-- Bindings that are kept as octets, one behind the other.
use Rattle.std.specs.Prelude.{◌≡◌, ℕ, List, [], Result, Ok, Err, length}
use Rattle.std.specs.List.{AllByRecursion}
use Rattle.message_core.specs.declared.binding.Binding.{Binding}
use Rattle.message_core.specs.declared.cause.DropCause.{DropCause}
use Rattle.message_core.specs.Canon.{canon_bindings}
use Rattle.message_core.specs.Encodable.{HasEncoding}
use Rattle.message_core.specs.FirstFault.{bindings_at}

abbrev pub or_none : Result (List Binding) DropCause → List Binding
or_none (Ok bindings) = bindings
or_none (Err cause) = []

-- the bindings that octets encode, and none where these encode no list of bindings
unfoldable pub bindings_in : List ℕ → List Binding
bindings_in octets = or_none (bindings_at (length octets) octets)

-- Octets that are the shortest encoding of bindings. Octets that encode no list are none such: they are
-- taken for no bindings, whose encoding has no octets.
pub record AreShortest (octets : List ℕ) : Type 0 where
  pub each : AllByRecursion HasEncoding (bindings_in octets)
  pub shortest : octets ≡ canon_bindings (bindings_in octets)
