use Rattle.std.proofs.Common.{◌≤◌, length}
use Rattle.control_socket.proofs.reading.read_command.Given as goal

-- no more octets than the slice has
abbrev pub invariant-loop : goal.invariant-loop
invariant-loop g l = l.len ≤ length l.into
