-- Which configurations make a bridge, and what it is at first.
use Rattle.std.specs.Prelude.{◌==◌, ◌||◌, not, nat_lt, if◌then◌else◌, List, [], length, replicate, Option, Some, None}
use Rattle.std.specs.List.{list_all}
use Rattle.frame_core.specs.declared.mac.Mac.{Mac}
use Rattle.frame_core.specs.Octets.{is_group}
use Rattle.fdb_core.specs.Statics.{no_statics}
use Rattle.rstp_settings.specs.Config.{is_speed}
use Rattle.rstp_settings.specs.Table.{opening}
use Rattle.rstp_settings.specs.declared.settings.TheConstants.{MAX_PORTS}
use Rattle.rstp_settings.specs.declared.config.PortConfig.{PortConfig}
use Rattle.rstp_core.specs.Tree.{opening_tree}
use Rattle.bridge_core.specs.declared.fault.BridgeFault.{BridgeFault}
use Rattle.bridge_core.specs.declared.fault.BridgeFault.TheVariants.{BadPorts, BadAddress, BadSpeed}
use Rattle.bridge_core.specs.Bridge.{BridgeState, no_counters}

-- The first fault of a configuration: no port or too many; a group address; a speed that no port
-- may have.
abbrev pub fault_of : Mac → List PortConfig → Option BridgeFault
fault_of address ports =
    if length ports == 0 || nat_lt MAX_PORTS (length ports) then Some BadPorts
    else (if is_group address then Some BadAddress
    else (if not (list_all (λ p. is_speed p.speed) ports) then Some BadSpeed
    else None))

-- At first all links are down, the settings are the opening ones and settled, no address is
-- learned, there is no static row, and each counter is 0.
unfoldable pub opening_bridge : Mac → List PortConfig → BridgeState
opening_bridge address ports = record {
  settings = opening (length ports);
  tree = opening_tree address ports;
  learned = [];
  statics = no_statics;
  counters = record { entry_discards = 0; ports = replicate (length ports) no_counters };
}
