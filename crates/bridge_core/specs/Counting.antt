-- The counters (RFC 4188 dot1dTpPortTable, dot1dTpLearnedEntryDiscards). They wrap at 2^32.
use Rattle.std.specs.Prelude.{ℕ, ◌+◌, ◌-◌, ◌%◌, ◌^◌, Bool, if◌then◌else◌, List, [], ◌∷◌, slice_index_or, slice_set, Option, Some, None, is_some}
use Rattle.frame_core.specs.declared.bpdu.Bpdu.{Bpdu}
use Rattle.fdb_core.specs.declared.learnt.Learnt.{Learnt}
use Rattle.fdb_core.specs.declared.learnt.Learnt.TheVariants.{New, Moved, Same, Full, Memory}
use Rattle.bridge_core.specs.declared.counters.PortCounters.{PortCounters}
use Rattle.bridge_core.specs.Bridge.{no_counters}

abbrev pub next_count : ℕ → ℕ
next_count n = (n + 1) % 2 ^ 32

-- One more frame in; one more out, where one goes out; one more discarded, where one is.
abbrev pub with_frame_in : PortCounters → PortCounters
with_frame_in c = record c { frames_in = next_count c.frames_in }

abbrev pub with_frame_out : Bool → PortCounters → PortCounters
with_frame_out goes c = if goes then record c { frames_out = next_count c.frames_out } else c

abbrev pub with_discard : Bool → PortCounters → PortCounters
with_discard lost c = if lost then record c { discards_in = next_count c.discards_in } else c

-- The counters of a port changed.
abbrev pub at_port : ℕ → (PortCounters → PortCounters) → List PortCounters → List PortCounters
at_port port change counters =
    slice_set counters (port - 1) (change (slice_index_or counters (port - 1) no_counters))

-- The counters of the ports from this port on, with a frame out of each port that passes the test.
abbrev pub sent_from : (ℕ → Bool) → ℕ → List PortCounters → List PortCounters
sent_from test port [] = []
sent_from test port (c ∷ counters) =
    with_frame_out (test port) c ∷ sent_from test (port + 1) counters

-- A frame out of each port that passes the test.
unfoldable pub sent_where : (ℕ → Bool) → List PortCounters → List PortCounters
sent_where test counters = sent_from test 1 counters

-- Whether a port sends a BPDU.
abbrev pub has_bpdu : List (Option Bpdu) → ℕ → Bool
has_bpdu bpdus port = is_some (slice_index_or bpdus (port - 1) None)

-- A source that finds no space in the table, or no memory, is a learned entry discard.
abbrev pub discards_after : Option Learnt → ℕ → ℕ
discards_after None n = n
discards_after (Some New) n = n
discards_after (Some Moved) n = n
discards_after (Some Same) n = n
discards_after (Some Full) n = next_count n
discards_after (Some Memory) n = next_count n
