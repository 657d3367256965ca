-- Which frames are learned from, and by which ports a frame goes out (IEEE 802.1D-2004 7.7, 7.8,
-- 7.9, 7.12).
use Rattle.std.specs.Prelude.{◌≡◌, ℕ, ◌<◌, Bool, true, false, ◌&&◌, ◌||◌, not, ◌==◌, nat_lt, if◌then◌else◌, List, length, filter, take, slice_index, Option, Some, None}
use Rattle.std.specs.List.{range_with_len}
use Rattle.std.specs.Str.{bytes_eq}
use Rattle.frame_core.specs.declared.mac.Mac.{Mac}
use Rattle.frame_core.specs.declared.mac.TheConstants.{BRIDGE_GROUP}
use Rattle.frame_core.specs.declared.frame.FrameIn.{FrameIn}
use Rattle.frame_core.specs.Octets.{is_group, same_mac}
use Rattle.fdb_core.specs.declared.row.LearnedRow.{LearnedRow}
use Rattle.fdb_core.specs.declared.static_row.StaticRow.{StaticRow}
use Rattle.fdb_core.specs.declared.learnt.Learnt.{Learnt}
use Rattle.fdb_core.specs.declared.learnt.Learnt.TheVariants.{New, Moved, Same, Full, Memory}
use Rattle.fdb_core.specs.Rows.{port_of as learned_port}
use Rattle.fdb_core.specs.Learning.{answer, learned_rows}
use Rattle.fdb_core.specs.PortSets.{has_port}
use Rattle.rstp_rules.specs.declared.port.State.{State}
use Rattle.rstp_rules.specs.Ports.{is_discarding, is_forwarding}
use Rattle.bridge_core.specs.declared.bridge.TheConstants.{MAX_LEARNED_ROWS}
use Rattle.bridge_core.specs.Bridge.{BridgeState, address_of, port_count, port_of, is_on}
use Rattle.bridge_core.specs.Statics.{listed}

-- The addresses 0180C2000000 to 0180C200000F, which no bridge forwards (7.12.6).
abbrev pub is_reserved : Mac → Bool
is_reserved a = bytes_eq (take 5 a.0) (take 5 BRIDGE_GROUP.0) && nat_lt (slice_index a.0 5) 16

abbrev pub forwards : BridgeState → ℕ → Bool
forwards b port = is_forwarding (port_of b port).state

-- Whether the source of a frame is to be learned at a port of this state: the port is learning or
-- forwarding, and the source is no group address (7.8). That it is not where the destination is
-- reserved is a rule of this profile alone.
abbrev pub learns : State → FrameIn → Bool
learns state f =
    not (is_discarding state) && not (is_reserved f.destination) && not (is_group f.source)

-- What learning the source gives, where its growth was refused or not; nothing where it is not to
-- be learned.
abbrev pub learnt_with : List LearnedRow → ℕ → State → ℕ → FrameIn → Bool → Option Learnt
learnt_with rows limit state port f no_room = if learns state f then Some (if no_room then Memory else answer rows limit f.source port) else None

abbrev pub learnt_of : BridgeState → ℕ → FrameIn → Bool → Option Learnt
learnt_of b port f no_room =
    learnt_with b.learned MAX_LEARNED_ROWS (port_of b port).state port f no_room

abbrev pub rows_after : Option Learnt → List LearnedRow → Mac → ℕ → List LearnedRow
rows_after None rows a port = rows
rows_after (Some l) rows a port = learned_rows l rows a port

-- Whether the growth for a learned row was refused.
abbrev pub is_refused : Option Learnt → Bool
is_refused None = false
is_refused (Some Memory) = true
is_refused (Some New) = false
is_refused (Some Moved) = false
is_refused (Some Same) = false
is_refused (Some Full) = false

-- The growth for a learned row is asked for where the source is to be learned and is new, and there
-- is a place for it.
pub record NeedsMemory (rows : List LearnedRow) (limit : ℕ) (state : State) (f : FrameIn) : Type 0 where
  pub learns : learns state f ≡ true
  pub is_new : learned_port rows f.source ≡ None
  pub has_place : length rows < limit

abbrev pub AsksMemory : BridgeState → ℕ → FrameIn → Type 0
AsksMemory b port f = NeedsMemory b.learned MAX_LEARNED_ROWS (port_of b port).state f

-- A frame may find no memory for its learned row only at a port that is on, where it is no BPDU and
-- the growth is asked for.
pub record MayLackMemory (b : BridgeState) (port : ℕ) (f : FrameIn) : Type 0 where
  pub on : is_on b port ≡ true
  pub plain : f.bpdu ≡ None
  pub asks : AsksMemory b port f

-- Whether an address that is learned at a port, or at none, may be behind another one.
abbrev pub may_be_behind : Option ℕ → ℕ → Bool
may_be_behind None out = true
may_be_behind (Some r) out = r == out

-- Whether a frame to this destination may go out by the port `out`: where a static row is listed for
-- it, by the ports of that row (7.9.1); else where the destination is a group, or is learned there or
-- nowhere.
abbrev pub may_go : Option StaticRow → List LearnedRow → Mac → ℕ → Bool
may_go (Some row) learned d out = has_port row.ports out
may_go None learned d out = is_group d || may_be_behind (learned_port learned d) out

-- Whether a frame to this destination that came by a port goes out by the port `out`: both forward
-- and they are two; and the destination is neither reserved nor the bridge itself, and the frame
-- may go out by that port.
abbrev pub goes_out : BridgeState → ℕ → Mac → ℕ → Bool
goes_out b port d out =
    forwards b port && forwards b out && not (out == port) && not (is_reserved d) && not (same_mac d (address_of b))
    && may_go (listed b.statics.rows port d) b.learned d out

-- The ports of so many that pass the test, rising.
unfoldable pub ports_where : (ℕ → Bool) → ℕ → List ℕ
ports_where test count = filter test (range_with_len 1 count)

-- The ports by which a frame goes out.
unfoldable pub egress_of : BridgeState → ℕ → Mac → List ℕ
egress_of b port d = ports_where (goes_out b port d) (port_count b)
