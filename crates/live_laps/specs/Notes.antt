-- What is reported to a line's watch.
use Rattle.std.specs.Prelude.{ℕ, ◌+◌, Bool, true, false, List, length}
use Rattle.std.specs.List.{filter}
use Rattle.message_core.specs.declared.cause.DropCause.{DropCause}
use Rattle.message_core.specs.declared.cause.DropCause.TheVariants.{TooLong, Malformed, BadVersion, BadKind, Memory}
use Rattle.live_lock.specs.declared.held.Counts.{Counts}
use Rattle.live_agent.specs.Turns.{entered_in}
use Rattle.live_agent.specs.declared.trace.End.{End}
use Rattle.live_agent.specs.declared.trace.Item.{Item}
use Rattle.live_agent.specs.declared.trace.Item.TheVariants.{Refused}
use Rattle.live_agent.specs.declared.trace.InputFault.TheVariants.{Datagram}
use Rattle.live_run.specs.Reports.{refused_in, count_up_to_max}
use Rattle.live_laps.specs.declared.book.Drops.{Drops}
use Rattle.live_laps.specs.declared.book.Worked.{Worked}
use Rattle.live_laps.specs.declared.line.LineName.{LineName}

-- An interval of a worker ended, which amounted to this; an interval of the ticker, at which the history
-- was so far past its start; a fault ended an interval of this line, the last of so many; the line
-- ended so.
pub data Note : Type 0 where
  interval_worked : Worked → Note
  interval_ticked : Counts → Note
  line_failed : LineName → End → ℕ → Note
  line_ended : LineName → End → Note

-- this cause dropped a datagram
abbrev pub is_dropped_by : DropCause → Item → Bool
is_dropped_by TooLong (Refused (Datagram TooLong)) = true
is_dropped_by Malformed (Refused (Datagram Malformed)) = true
is_dropped_by BadVersion (Refused (Datagram BadVersion)) = true
is_dropped_by BadKind (Refused (Datagram BadKind)) = true
is_dropped_by Memory (Refused (Datagram Memory)) = true
is_dropped_by _ _ = false

-- how many datagrams of a trace this cause dropped
abbrev pub dropped_by : DropCause → List Item → ℕ
dropped_by cause trace = length (filter (is_dropped_by cause) trace)

-- the drops of a trace by cause
abbrev pub drops_in : List Item → Drops
drops_in trace = record {
  too_long = count_up_to_max (dropped_by TooLong trace);
  malformed = count_up_to_max (dropped_by Malformed trace);
  bad_version = count_up_to_max (dropped_by BadVersion trace);
  bad_kind = count_up_to_max (dropped_by BadKind trace);
  memory = count_up_to_max (dropped_by Memory trace);
}

-- the drops of two by cause
abbrev pub both_drops : Drops → Drops → Drops
both_drops some more = record {
  too_long = count_up_to_max (some.too_long + more.too_long);
  malformed = count_up_to_max (some.malformed + more.malformed);
  bad_version = count_up_to_max (some.bad_version + more.bad_version);
  bad_kind = count_up_to_max (some.bad_kind + more.bad_kind);
  memory = count_up_to_max (some.memory + more.memory);
}

-- What a worker's interval amounted to, by its trace: the requests that were entered, and the datagrams
-- that gave none, in all and by cause.
abbrev pub worked_in : List Item → Worked
worked_in trace = record {
  requests = count_up_to_max (entered_in trace);
  drops = count_up_to_max (refused_in trace);
  by_cause = drops_in trace;
}
