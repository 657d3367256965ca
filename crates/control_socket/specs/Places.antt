-- Which directory a control socket may be in.
use Rattle.std.specs.Prelude.{ℕ, ◌==◌, Bool, true, false, bit_and, if◌then◌else◌, Option, Some, None}
use Rattle.control_socket.specs.declared.fault.ControlFault.{ControlFault}
use Rattle.control_socket.specs.declared.fault.ControlFault.TheVariants.{NoDirectory, OpenDirectory, OtherOwner}

-- what is wrong with what a socket is to be in, by whether it is a directory, and by its mode: the lowest
-- twelve bits (octal 7777) say who may do what, and have to be octal 700
abbrev pub directory_fault : Bool → ℕ → Option ControlFault
directory_fault false mode = Some NoDirectory
directory_fault true mode = if bit_and mode 4095 == 448 then None else Some OpenDirectory

-- what is wrong with a directory of this owner, where the agent runs by this user
abbrev pub owner_fault : ℕ → ℕ → Option ControlFault
owner_fault owner user = if owner == user then None else Some OtherOwner
