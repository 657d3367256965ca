-- What becomes of a frame that is no BPDU, in the standard's words (IEEE 802.1D-2004 7.5 to 7.9).
use Rattle.std.specs.Prelude.{◌≡◌, ◌≢◌, ◌⊎◌, ℕ, ◌<◌, Bool, true, false, List, length, Option, Some, None}
use Rattle.frame_core.specs.declared.mac.Mac.{Mac}
use Rattle.frame_core.specs.declared.frame.FrameIn.{FrameIn}
use Rattle.frame_core.specs.Octets.{is_group}
use Rattle.fdb_core.specs.declared.row.LearnedRow.{LearnedRow}
use Rattle.fdb_core.specs.declared.static_row.StaticRow.{StaticRow}
use Rattle.fdb_core.specs.Rows.{port_of as learned_port}
use Rattle.bridge_core.specs.declared.bridge.TheConstants.{MAX_LEARNED_ROWS}
use Rattle.bridge_core.specs.Bridge.{BridgeState, HasPort, address_of, is_on}
use Rattle.bridge_core.specs.Statics.{listed}
use Rattle.bridge_core.specs.Forwarding.{is_reserved, forwards}
use Rattle.bridge_core.specs.Events.{frame_result}

-- A frame that is no BPDU comes by a port that is on.
pub record IsReceived (b : BridgeState) (port : ℕ) (f : FrameIn) : Type 0 where
  pub has_port : HasPort b port
  pub on : is_on b port ≡ true
  pub plain : f.bpdu ≡ None

-- That port forwards, and the destination is neither reserved nor the bridge's own address (7.7,
-- 7.12.6).
pub record IsRelayed (b : BridgeState) (port : ℕ) (f : FrameIn) : Type 0 where
  pub received : IsReceived b port f
  pub forwards : forwards b port ≡ true
  pub unreserved : is_reserved f.destination ≡ false
  pub foreign : f.destination ≢ address_of b

-- The port at which the frame's destination is learned, if at one, once its source was learned.
abbrev pub destination_port : BridgeState → ℕ → FrameIn → Bool → Option ℕ
destination_port b port f no_room =
    learned_port (frame_result b port f no_room).bridge.learned f.destination

-- The destination is a group, or is learned nowhere once the source was learned.
abbrev pub IsForAll : BridgeState → ℕ → FrameIn → Bool → Type 0
IsForAll b port f no_room =
    (is_group f.destination ≡ true) ⊎ (destination_port b port f no_room ≡ None)

-- The destination is one station, learned at port r once the source was learned.
pub record IsFor (b : BridgeState) (port : ℕ) (f : FrameIn) (no_room : Bool) (r : ℕ) : Type 0 where
  pub single : is_group f.destination ≡ false
  pub at : destination_port b port f no_room ≡ Some r

-- A static row is listed for the frame, or none is (7.9.1).
abbrev pub IsListed : BridgeState → ℕ → FrameIn → StaticRow → Type 0
IsListed b port f row = listed b.statics.rows port f.destination ≡ Some row

abbrev pub IsUnlisted : BridgeState → ℕ → FrameIn → Type 0
IsUnlisted b port f = listed b.statics.rows port f.destination ≡ None

-- There is a row of the address, or a place for one.
abbrev pub HasPlace : List LearnedRow → Mac → Type 0
HasPlace rows a = (learned_port rows a ≢ None) ⊎ (length rows < MAX_LEARNED_ROWS)
