-- What GetNext answers under a name, before its binding is made.
use Rattle.std.specs.Prelude.{List, ℕ, Bool, if◌then◌else◌}
use Rattle.message_core.specs.declared.binding.Binding.{Binding}
use Rattle.setphase_core.specs.declared.passing.Spot.{Spot}
use Rattle.agent_core.specs.Reading.{end_under}

-- Its binding: that of the instance at the spot that the walk was lent, where it found one, or
-- endOfMibView under the name.
abbrev pub binding_of : (Spot → Binding) → List ℕ → Spot → Bool → Binding
binding_of at name spot found = if found then at spot else end_under name
