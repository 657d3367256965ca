-- What a read of a file gave, and why octets were not had.
use Rattle.std.specs.Prelude.{◌≡◌, ℕ, ◌≤◌, List, length, Option, Some, None, Result, Ok, Err, Vec, nat_le, if◌then◌else◌}
use Rattle.std.specs.declared.alloc.Global.{Global}
use Rattle.control_text.specs.declared.command.TheConstants.{MAX_POLICY}
use Rattle.agent_program.specs.declared.files.FileLimit.{FileLimit}
use Rattle.agent_program.specs.declared.files.FileLimit.TheVariants.{Configuration, Policy}
use Rattle.agent_program.specs.declared.files.NotRead.{NotRead}
use Rattle.agent_program.specs.declared.files.NotRead.TheVariants.{Memory, Unreadable, TooLarge}

-- the most octets of a file: 256 MiB of a configuration, and of a policy what a command takes
abbrev pub most_octets : FileLimit → ℕ
most_octets Configuration = 268435456
most_octets Policy = MAX_POLICY

-- octets, if they are no more than so many
abbrev pub within : ℕ → List ℕ → Option (List ℕ)
within most octets = if nat_le (length octets) most then Some octets else None

-- What was read of this file is within this limit; what names a file that was not read names this one, and
-- what names a limit this one.
abbrev pub IsReadWithin : List ℕ → FileLimit → Result (List ℕ) NotRead → Type 0
IsReadWithin file limit (Ok octets) = length octets ≤ most_octets limit
IsReadWithin file limit (Err (Memory name)) = name.now ≡ file
IsReadWithin file limit (Err (Unreadable name reason)) = name.now ≡ file
IsReadWithin file limit (Err (TooLarge name past)) = (name.now ≡ file) × (past ≡ limit)

-- Octets within this limit were read, or none of this file; and that is what its reader gave.
pub record IsReadOf (Gives : List ℕ → Result (List ℕ) NotRead → Type 0) (limit : FileLimit) (file : List ℕ)
    (read : Result (List ℕ) NotRead) : Type 0 where
  pub within_limit : IsReadWithin file limit read
  pub gave : Gives file read

-- the octets alone
abbrev pub read_view : Result (Vec ℕ Global) NotRead → Result (List ℕ) NotRead
read_view (Ok octets) = Ok octets.items
read_view (Err why) = Err why
