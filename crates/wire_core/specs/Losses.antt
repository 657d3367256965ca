-- Why a datagram was lost.
use Rattle.std.specs.Prelude.{◌&&◌, ℤ, pos, int_le, Option, Some, None, if◌then◌else◌}
use Rattle.std.specs.Ordering.{int_eq}
use Rattle.wire_core.specs.declared.losses.Cause.{Cause}
use Rattle.wire_core.specs.declared.losses.Cause.TheVariants.{BufferFull, Number, Other}

-- Linux numbers its errors from 1 to 133.
abbrev pub numbered : ℤ → Cause
numbered number = if int_le (pos 1) number && int_le number (pos 133) then Number number else Other

-- The cause that an error is by its number of the system, if it has one: a full send buffer is EAGAIN, 11.
abbrev pub cause_of : Option ℤ → Cause
cause_of None = Other
cause_of (Some number) = if int_eq number (pos 11) then BufferFull else numbered number

-- The cause at this place among all: a full send buffer, each number, any other error.
abbrev pub cause_at : ℤ → Cause
cause_at place = if int_eq place (pos 0) then BufferFull else numbered place
