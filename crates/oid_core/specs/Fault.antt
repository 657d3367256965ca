-- When each fault comes.
use Rattle.std.specs.Prelude.{◌≡◌, ℕ, ◌<◌, ◌≤◌, List, length, ◌++◌}
use Rattle.ber_core.specs.declared.out.Out.{Out}
use Rattle.ber_core.specs.Writing.{written_octets, capacity}
use Rattle.oid_core.specs.declared.fault.OidFault.{OidFault}
use Rattle.oid_core.specs.declared.fault.OidFault.TheVariants.{Memory, BadText, TooLong, BadContent, NoRoom}
use Rattle.oid_core.specs.declared.limits.TheConstants.{INLINE_NUMBERS, MAX_NUMBERS}
use Rattle.oid_core.specs.Name.{HasRoot, canon_name}

-- A list of sub-identifiers is no object identifier.
abbrev pub IsListFault : List ℕ → OidFault → Type 0
IsListFault numbers Memory = (INLINE_NUMBERS < length numbers) × (length numbers ≤ MAX_NUMBERS)
IsListFault numbers BadText = ⊥
IsListFault numbers TooLong = MAX_NUMBERS < length numbers
IsListFault numbers BadContent = length numbers ≡ 0
IsListFault numbers NoRoom = ⊥

-- A name is not written behind what was written: it has no encoding, or else there is no space for
-- its content.
abbrev pub IsWriteFault : List ℕ → Out → OidFault → Type 0
IsWriteFault name old Memory = ⊥
IsWriteFault name old BadText = ⊥
IsWriteFault name old TooLong = ⊥
IsWriteFault name old BadContent = ¬ HasRoot name
IsWriteFault name old NoRoom =
    HasRoot name × (capacity old < length (canon_name name ++ written_octets old))
