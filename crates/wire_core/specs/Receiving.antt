-- What a receive of a lasting wire gives, by what the system answered.
use Rattle.std.specs.Prelude.{ℕ, ℤ, pos, Bool, true, false, ◌||◌, Option, Some, None, Result, Ok, Err, if◌then◌else◌}
use Rattle.std.specs.Ordering.{int_eq}
use Rattle.std.specs.IoError.{raw_os_error, error_kind}
use Rattle.std.specs.declared.io.Error.{Error}
use Rattle.std.specs.declared.io.ErrorKind.{ErrorKind}
use Rattle.std.specs.declared.io.ErrorKind.TheVariants.{WouldBlock, TimedOut, Interrupted, ConnectionRefused, ConnectionReset}
use Rattle.std.specs.declared.net.socket_addr.SocketAddr.{SocketAddr}
use Rattle.wire_core.specs.declared.wire.Received.{Received}
use Rattle.wire_core.specs.declared.wire.Received.TheVariants.{Datagram, Nothing}
use Rattle.wire_core.specs.declared.wire.WireFault.{WireFault}
use Rattle.wire_core.specs.declared.wire.WireFault.TheVariants.{Receive}
use Rattle.wire_core.specs.declared.lasting.FailedReceive.{FailedReceive}
use Rattle.wire_core.specs.declared.lasting.FailedReceive.TheVariants.{SocketGone, NothingCame, Faulty}

-- No socket is there any more: no open file has the descriptor (EBADF, 9), or what it is of is no
-- socket (ENOTSOCK, 88), or none that takes datagrams (EOPNOTSUPP, 95).
abbrev pub is_gone : Option ℤ → Bool
is_gone None = false
is_gone (Some number) = int_eq number (pos 9) || int_eq number (pos 88) || int_eq number (pos 95)

-- The wait ended without a datagram: its time ran out, a signal came, or a peer refused an earlier datagram.
abbrev pub gave_nothing : ErrorKind → Bool
gave_nothing WouldBlock = true
gave_nothing TimedOut = true
gave_nothing Interrupted = true
gave_nothing ConnectionRefused = true
gave_nothing ConnectionReset = true
gave_nothing _ = false

-- What an error says, by its number of the system, if it has one, and its kind.
abbrev pub failed_by : Option ℤ → ErrorKind → FailedReceive
failed_by number kind = if is_gone number then SocketGone else if gave_nothing kind then NothingCame else Faulty

-- What a receive that failed so gives: only that the socket is gone is a fault.
abbrev pub given_for : FailedReceive → Result Received WireFault
given_for SocketGone = Err Receive
given_for NothingCame = Ok Nothing
given_for Faulty = Ok Nothing

-- What a receive gives that the system answered so.
abbrev pub received_of : Result (ℕ × SocketAddr) Error → Result Received WireFault
received_of (Ok datagram) = Ok (Datagram datagram.0 datagram.1)
received_of (Err error) = given_for (failed_by (raw_os_error error) (error_kind error))
