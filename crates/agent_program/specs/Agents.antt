-- The world that a configuration opens, and the objects that show it.
use Rattle.std.specs.Prelude.{◌≡◌, ℕ, List, map, None}
use Rattle.rstp_settings.specs.declared.config.PortConfig.{PortConfig}
use Rattle.bridge_core.specs.Bridge.{BridgeState}
use Rattle.bridge_core.specs.Opening.{opening_bridge}
use Rattle.community_core.specs.declared.policy.Policy.{Policy}
use Rattle.setphase_core.specs.Objects.{ObjectState}
use Rattle.setphase_core.specs.Registry.{rows_of, prefixes_of, first_fault, TakeAnyIndex}
use Rattle.setphase_core.specs.declared.world.World.{World}
use Rattle.configuration.specs.declared.configuration.Configuration.{Configuration}
use Rattle.configuration.specs.declared.configuration.Port.{Port}
use Rattle.configuration.specs.Configurations.{IsConfigurationIn}

-- what is fixed of each port
abbrev pub configs_of : List Port → List PortConfig
configs_of ports = map (λ port. port.config) ports

-- a world of which nothing was dropped yet
abbrev pub first_world : BridgeState → Policy → World
first_world bridge policy = record {
  bridge = bridge;
  policy = policy;
  bad_communities = 0;
  unknown_contexts = 0;
}

-- A bridge of the configuration's address and its ports, under its policy.
abbrev pub world_of : Configuration → World
world_of c = first_world (opening_bridge c.address (configs_of c.ports.items)) c.policy

-- the octets say a configuration, and it opens this world
pub record IsWorldOf (octets : List ℕ) (world : World) : Type 0 where
  pub configuration : Configuration
  pub stated : IsConfigurationIn octets configuration
  pub opened : world ≡ world_of configuration

-- Objects make a registry: behind the name of each any index may stand, and no pair of neighbours is
-- at fault.
pub record MakeRegistry (objects : List ObjectState) : Type 0 where
  pub named : TakeAnyIndex (prefixes_of (rows_of objects))
  pub ordered : first_fault (rows_of objects) ≡ None
