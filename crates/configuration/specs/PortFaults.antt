-- Why a table says no ports.
use Rattle.std.specs.Prelude.{◌≡◌, ◌≢◌, ◌⊎◌, ℕ, codes, List, take, slice_get, Option, Some, None, IsSome, IsNone}
use Rattle.toml.specs.Data.{Data, Members, as_table}
use Rattle.policy_text.specs.Keys.{key_count}
use Rattle.policy_text.specs.Reading.{AreRows}
use Rattle.configuration.specs.declared.configuration.Port.{Port}
use Rattle.configuration.specs.declared.fault.PortKey.{PortKey}
use Rattle.configuration.specs.declared.fault.PortKey.TheVariants.{Ifindex, Speed, Full, Listen, Peer, Other}
use Rattle.configuration.specs.declared.fault.ConfigurationFault.{ConfigurationFault}
use Rattle.configuration.specs.declared.fault.ConfigurationFault.TheVariants.{BadPorts, BadPort}
use Rattle.configuration.specs.Sockets.{MayHaveSocket, HasNoSocket}
use Rattle.configuration.specs.Ports.{ifindex_at, speed_at, full_at, port_config_of, port_keys, port_says, port_rows}

-- the keys that have to be there are right
abbrev pub HasConfig : Members → Type 0
HasConfig ms = IsSome (port_config_of ms)

-- This is the first key that is wrong, in the order of these cases.
abbrev pub IsPortFault : Members → PortKey → Type 0
IsPortFault ms Ifindex = IsNone (ifindex_at ms)
IsPortFault ms Speed = IsSome (ifindex_at ms) × IsNone (speed_at ms)
IsPortFault ms Full = IsSome (ifindex_at ms) × IsSome (speed_at ms) × IsNone (full_at ms)
IsPortFault ms Listen = HasConfig ms × HasNoSocket (codes "listen") ms
IsPortFault ms Peer =
    HasConfig ms × MayHaveSocket (codes "listen") ms × HasNoSocket (codes "peer") ms
IsPortFault ms Other =
    HasConfig ms × MayHaveSocket (codes "listen") ms × MayHaveSocket (codes "peer") ms
    × (key_count ms ≢ port_keys ms)

-- what is no table has no key, and `ifindex` is the first
abbrev pub IsFaultOf : Option Members → PortKey → Type 0
IsFaultOf None key = key ≡ Ifindex
IsFaultOf (Some ms) key = IsPortFault ms key

-- the value is no table that says a port, by this key
abbrev pub IsRowFault : Data → PortKey → Type 0
IsRowFault d key = IsFaultOf (as_table d) key

-- the element at this place is the first that says no port, by this key
pub record IsFirstNoPort (ds : List Data) (place : ℕ) (key : PortKey) : Type 0 where
  pub value : Data
  pub here : slice_get ds place ≡ Some value
  pub wrong : IsRowFault value key
  pub ports : List Port
  pub before : AreRows port_says (take place ds) ports

-- the first port at fault, and its key
pub record IsBadPort (ms : Members) (place : ℕ) (key : PortKey) : Type 0 where
  pub rows : List Data
  pub are : port_rows ms ≡ Some rows
  pub first : IsFirstNoPort rows place key

-- the table says no ports, and this is why
abbrev pub IsPortsFault : Members → ConfigurationFault → Type 0
IsPortsFault ms e =
    ((port_rows ms ≡ None) × (e ≡ BadPorts))
    ⊎ ((n : ℕ) × (key : PortKey) × (e ≡ BadPort n key) × IsBadPort ms n key)
