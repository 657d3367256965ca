-- What may happen to a bridge, one after another, from the opening on. Settings are put and then
-- settled before anything else happens.
use Rattle.std.specs.Prelude.{◌≡◌, ℕ, Bool, true, List, [], ◌∷◌}
use Rattle.frame_core.specs.declared.mac.Mac.{Mac}
use Rattle.frame_core.specs.declared.frame.FrameIn.{FrameIn}
use Rattle.fdb_core.specs.declared.port_set.PortSet.{PortSet}
use Rattle.fdb_core.specs.declared.static_row.StaticIndex.{StaticIndex}
use Rattle.rstp_settings.specs.declared.key.Key.{Key}
use Rattle.rstp_settings.specs.declared.config.PortConfig.{PortConfig}
use Rattle.rstp_rules.specs.Ports.{is_root_or_designated}
use Rattle.bridge_core.specs.Bridge.{BridgeState, port_of, is_on}
use Rattle.bridge_core.specs.Statics.{set_made, set_allowed}
use Rattle.bridge_core.specs.Opening.{opening_bridge}
use Rattle.bridge_core.specs.Events.{after_tick, after_link, after_settling, set_bridge, frame_result}

pub data Put : Type 0 where
  -- a setting gets a value
  Setting : (key : Key) (value : ℕ) → Put
  -- a static row is made, or is made no more
  Made : (index : StaticIndex) (made : Bool) → Put
  -- ports are allowed to the frames of an index
  Allowed : (index : StaticIndex) (ports : PortSet) → Put

pub data Event : Type 0 where
  -- a second passes
  Tick : Event
  -- the link of a port is up, or down
  Link : (port : ℕ) (up : Bool) → Event
  -- a frame comes by a port, and the growth for its learned row is refused or not
  Frame : (port : ℕ) (f : FrameIn) (no_room : Bool) → Event
  -- settings are put, the first first, and settled
  Settle : (puts : List Put) → Event

abbrev pub after_put : Put → BridgeState → BridgeState
after_put (Setting key value) b = set_bridge key value b
after_put (Made i made) b = set_made i made b
after_put (Allowed i ports) b = set_allowed i ports b

-- The bridge after settings were put.
abbrev pub with_puts : List Put → BridgeState → BridgeState
with_puts [] b = b
with_puts (p ∷ puts) b = with_puts puts (after_put p b)

-- The bridge after an event.
abbrev pub after : Event → BridgeState → BridgeState
after Tick b = after_tick b
after (Link port up) b = after_link port up b
after (Frame port f no_room) b = (frame_result b port f no_room).bridge
after (Settle puts) b = after_settling (with_puts puts b)

-- The bridge after a list of events from its opening on, the latest first.
abbrev pub run : Mac → List PortConfig → List Event → BridgeState
run address configs [] = opening_bridge address configs
run address configs (e ∷ past) = after e (run address configs past)

-- A port is on, and is a root or designated port.
pub record IsActive (b : BridgeState) (port : ℕ) : Type 0 where
  pub on : is_on b port ≡ true
  pub role : is_root_or_designated (port_of b port).role ≡ true
