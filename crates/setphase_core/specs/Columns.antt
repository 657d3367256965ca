-- What each object shows of a world, as RFC 4188 (BRIDGE-MIB), RFC 4318 (RSTP-MIB) and RFC 3415
-- (SNMP-VIEW-BASED-ACM-MIB) have it, in the order of the objects' names. Above each row stand its
-- name and its descriptor: the names of the first two modules under 1.3.6.1.2.1.17, those of the
-- third under 1.3.6.1.6.3.16.
use Rattle.std.specs.Prelude.{ℕ, ◌*◌, ◌/◌, ◌%◌, ◌^◌, pos, Bool, min, if◌then◌else◌, List, [], ◌∷◌, ◌++◌}
use Rattle.frame_core.specs.declared.bpdu.BridgeId.{BridgeId}
use Rattle.fdb_core.specs.declared.row.LearnedRow.{LearnedRow}
use Rattle.fdb_core.specs.declared.static_row.StaticRow.{StaticRow}
use Rattle.fdb_core.specs.PortSets.{octets_of}
use Rattle.rstp_settings.specs.Table.{get}
use Rattle.rstp_settings.specs.declared.key.Key.TheVariants as key
use Rattle.rstp_settings.specs.declared.key.BridgeKey.{BridgeKey}
use Rattle.rstp_settings.specs.declared.key.BridgeKey.TheVariants as bridge
use Rattle.rstp_settings.specs.declared.key.PortKey.{PortKey}
use Rattle.rstp_settings.specs.declared.key.PortKey.TheVariants as port
use Rattle.rstp_rules.specs.declared.port.State.{State}
use Rattle.rstp_rules.specs.declared.port.State.TheVariants.{Discarding, Learning, Forwarding}
use Rattle.bridge_core.specs.declared.facts.PortFacts.{PortFacts}
use Rattle.bridge_core.specs.Bridge.{BridgeState, port_count}
use Rattle.bridge_core.specs.Facts.{facts_of, port_facts_of}
use Rattle.message_core.specs.declared.value.Value.{Value}
use Rattle.message_core.specs.declared.value.Value.TheVariants.{Integer, OctetString, ObjectIdentifier, Counter32, TimeTicks}
use Rattle.vacm_core.specs.declared.tables.FamilyRow.{FamilyRow}
use Rattle.setphase_core.specs.declared.world.World.{World}
use Rattle.setphase_core.specs.declared.limits.TheConstants.{MAX_COST, MAX_PATH_COST, MAX_INFO, MAX_INDEX}
use Rattle.setphase_core.specs.declared.column.Base.{Base}
use Rattle.setphase_core.specs.declared.column.Base.TheVariants as base
use Rattle.setphase_core.specs.declared.column.BasePort.{BasePort}
use Rattle.setphase_core.specs.declared.column.BasePort.TheVariants as base_port
use Rattle.setphase_core.specs.declared.column.Stp.{Stp}
use Rattle.setphase_core.specs.declared.column.Stp.TheVariants as stp
use Rattle.setphase_core.specs.declared.column.StpPort.{StpPort}
use Rattle.setphase_core.specs.declared.column.StpPort.TheVariants as stp_port
use Rattle.setphase_core.specs.declared.column.Rapid.{Rapid}
use Rattle.setphase_core.specs.declared.column.Rapid.TheVariants as rapid
use Rattle.setphase_core.specs.declared.column.ExtPort.{ExtPort}
use Rattle.setphase_core.specs.declared.column.ExtPort.TheVariants as ext_port
use Rattle.setphase_core.specs.declared.column.Tp.{Tp}
use Rattle.setphase_core.specs.declared.column.Tp.TheVariants as tp
use Rattle.setphase_core.specs.declared.column.TpFdb.{TpFdb}
use Rattle.setphase_core.specs.declared.column.TpFdb.TheVariants as tp_fdb
use Rattle.setphase_core.specs.declared.column.TpPort.{TpPort}
use Rattle.setphase_core.specs.declared.column.TpPort.TheVariants as tp_port
use Rattle.setphase_core.specs.declared.column.Static.{Static}
use Rattle.setphase_core.specs.declared.column.Static.TheVariants as static_column
use Rattle.setphase_core.specs.declared.column.Family.{Family}
use Rattle.setphase_core.specs.declared.column.Family.TheVariants as family
use Rattle.setphase_core.specs.declared.column.Column.{Column}
use Rattle.setphase_core.specs.declared.column.Column.TheVariants as column
use Rattle.setphase_core.specs.Values.{IndexedValue, scalar, by_port, by_address, by_static, by_family}

-- ---- values

abbrev pub number : ℕ → Value
number n = Integer (pos n)

-- A number in two octets, the higher one first.
abbrev pub two_octets : ℕ → List ℕ
two_octets n = n / 256 ∷ n % 256 ∷ []

-- BridgeId: the priority in two octets, and the address in six (RFC 4188).
abbrev pub bridge_id : BridgeId → List ℕ
bridge_id id = two_octets id.priority ++ id.address.0

-- Timeout: 1/256 s in hundredths of a second, rounded down; RFC 4188 rounds up here.
abbrev pub timeout : ℕ → Value
timeout t = number (t * 100 / 256)

-- Seconds in hundredths of a second (RFC 2578, 7.1.8).
abbrev pub ticks : ℕ → Value
ticks seconds = TimeTicks (100 * seconds % 2 ^ 32)

-- A cost that INTEGER can say.
abbrev pub cost : ℕ → Value
cost n = number (min n MAX_COST)

-- TruthValue (RFC 2579).
abbrev pub truth : Bool → Value
truth b = number (if b then 1 else 2)

-- dot1dStpPortState of a port that is on: blocking, learning or forwarding.
abbrev pub state_number : State → ℕ
state_number Discarding = 2
state_number Learning = 4
state_number Forwarding = 5

-- dot1dStpPortState: disabled where the port is off.
abbrev pub port_state : PortFacts → Value
port_state p = number (if p.on then state_number p.state else 1)

-- ---- RFC 4188, dot1dBase

abbrev pub base_value : Base → BridgeState → Value
-- 1.1 dot1dBaseBridgeAddress
base_value base.BridgeAddress b = OctetString (facts_of b).address.0
-- 1.2 dot1dBaseNumPorts
base_value base.NumPorts b = number (facts_of b).ports
-- 1.3 dot1dBaseType: transparent-only
base_value base.Type b = number 2

abbrev pub base_port_value : BasePort → BridgeState → ℕ → Value
-- 1.4.1.1 dot1dBasePort
base_port_value base_port.Port b n = number n
-- 1.4.1.2 dot1dBasePortIfIndex
base_port_value base_port.IfIndex b n = number (port_facts_of b n).ifindex
-- 1.4.1.3 dot1dBasePortCircuit
base_port_value base_port.Circuit b n = ObjectIdentifier (0 ∷ 0 ∷ [])
-- 1.4.1.4 dot1dBasePortDelayExceededDiscards
base_port_value base_port.DelayExceededDiscards b n = Counter32 0
-- 1.4.1.5 dot1dBasePortMtuExceededDiscards
base_port_value base_port.MtuExceededDiscards b n = Counter32 0

-- ---- RFC 4188, dot1dStp

-- The value of a setting of the bridge.
abbrev pub bridge_setting : BridgeState → BridgeKey → Value
bridge_setting b k = number (get b.settings (key.Bridge k))

-- The value of a setting of port n.
abbrev pub port_setting : BridgeState → ℕ → PortKey → Value
port_setting b n k = number (get b.settings (key.Port n k))

abbrev pub stp_value : Stp → BridgeState → Value
-- 2.1 dot1dStpProtocolSpecification: ieee8021d
stp_value stp.ProtocolSpecification b = number 3
-- 2.2 dot1dStpPriority
stp_value stp.Priority b = bridge_setting b bridge.Priority
-- 2.3 dot1dStpTimeSinceTopologyChange
stp_value stp.TimeSinceTopologyChange b = ticks (facts_of b).since
-- 2.4 dot1dStpTopChanges
stp_value stp.TopChanges b = Counter32 (facts_of b).topology_changes
-- 2.5 dot1dStpDesignatedRoot
stp_value stp.DesignatedRoot b = OctetString (bridge_id (facts_of b).root)
-- 2.6 dot1dStpRootCost
stp_value stp.RootCost b = cost (facts_of b).root_cost
-- 2.7 dot1dStpRootPort
stp_value stp.RootPort b = number (facts_of b).root_port
-- 2.8 dot1dStpMaxAge
stp_value stp.MaxAge b = timeout (facts_of b).times.max_age
-- 2.9 dot1dStpHelloTime
stp_value stp.HelloTime b = timeout (facts_of b).times.hello
-- 2.10 dot1dStpHoldTime
stp_value stp.HoldTime b = number 100
-- 2.11 dot1dStpForwardDelay
stp_value stp.ForwardDelay b = timeout (facts_of b).times.forward_delay
-- 2.12 dot1dStpBridgeMaxAge
stp_value stp.BridgeMaxAge b = bridge_setting b bridge.MaxAge
-- 2.13 dot1dStpBridgeHelloTime
stp_value stp.BridgeHelloTime b = bridge_setting b bridge.Hello
-- 2.14 dot1dStpBridgeForwardDelay
stp_value stp.BridgeForwardDelay b = bridge_setting b bridge.ForwardDelay

abbrev pub stp_port_value : StpPort → BridgeState → ℕ → Value
-- 2.15.1.1 dot1dStpPort
stp_port_value stp_port.Port b n = number n
-- 2.15.1.2 dot1dStpPortPriority
stp_port_value stp_port.Priority b n = port_setting b n port.Priority
-- 2.15.1.3 dot1dStpPortState
stp_port_value stp_port.State b n = port_state (port_facts_of b n)
-- 2.15.1.4 dot1dStpPortEnable
stp_port_value stp_port.Enable b n = port_setting b n port.Enable
-- 2.15.1.5 dot1dStpPortPathCost
stp_port_value stp_port.PathCost b n = number (min (port_facts_of b n).cost MAX_PATH_COST)
-- 2.15.1.6 dot1dStpPortDesignatedRoot
stp_port_value stp_port.DesignatedRoot b n =
    OctetString (bridge_id (port_facts_of b n).vector.root)
-- 2.15.1.7 dot1dStpPortDesignatedCost
stp_port_value stp_port.DesignatedCost b n = cost (port_facts_of b n).vector.cost
-- 2.15.1.8 dot1dStpPortDesignatedBridge
stp_port_value stp_port.DesignatedBridge b n =
    OctetString (bridge_id (port_facts_of b n).vector.bridge)
-- 2.15.1.9 dot1dStpPortDesignatedPort
stp_port_value stp_port.DesignatedPort b n =
    OctetString (two_octets (port_facts_of b n).vector.port)
-- 2.15.1.10 dot1dStpPortForwardTransitions
stp_port_value stp_port.ForwardTransitions b n =
    Counter32 (port_facts_of b n).forward_transitions
-- 2.15.1.11 dot1dStpPortPathCost32
stp_port_value stp_port.PathCost32 b n = number (port_facts_of b n).cost

-- ---- RFC 4318

abbrev pub rapid_value : Rapid → BridgeState → Value
-- 2.16 dot1dStpVersion
rapid_value rapid.Version b = bridge_setting b bridge.Version
-- 2.17 dot1dStpTxHoldCount
rapid_value rapid.TxHoldCount b = bridge_setting b bridge.HoldCount

abbrev pub ext_port_value : ExtPort → BridgeState → ℕ → Value
-- 2.19.1.1 dot1dStpPortProtocolMigration: false
ext_port_value ext_port.ProtocolMigration b n = number 2
-- 2.19.1.2 dot1dStpPortAdminEdgePort
ext_port_value ext_port.AdminEdgePort b n = port_setting b n port.Edge
-- 2.19.1.3 dot1dStpPortOperEdgePort
ext_port_value ext_port.OperEdgePort b n = truth (port_facts_of b n).oper_edge
-- 2.19.1.4 dot1dStpPortAdminPointToPoint
ext_port_value ext_port.AdminPointToPoint b n = port_setting b n port.PointToPoint
-- 2.19.1.5 dot1dStpPortOperPointToPoint
ext_port_value ext_port.OperPointToPoint b n =
    truth (port_facts_of b n).point_to_point
-- 2.19.1.6 dot1dStpPortAdminPathCost
ext_port_value ext_port.AdminPathCost b n = port_setting b n port.Cost

-- ---- RFC 4188, dot1dTp

abbrev pub tp_value : Tp → BridgeState → Value
-- 4.1 dot1dTpLearnedEntryDiscards
tp_value tp.LearnedEntryDiscards b = Counter32 (facts_of b).entry_discards
-- 4.2 dot1dTpAgingTime
tp_value tp.AgingTime b = bridge_setting b bridge.Aging

abbrev pub tp_fdb_value : TpFdb → LearnedRow → Value
-- 4.3.1.1 dot1dTpFdbAddress
tp_fdb_value tp_fdb.Address r = OctetString r.address.0
-- 4.3.1.2 dot1dTpFdbPort
tp_fdb_value tp_fdb.Port r = number r.port
-- 4.3.1.3 dot1dTpFdbStatus: learned
tp_fdb_value tp_fdb.Status r = number 3

abbrev pub tp_port_value : TpPort → BridgeState → ℕ → Value
-- 4.4.1.1 dot1dTpPort
tp_port_value tp_port.Port b n = number n
-- 4.4.1.2 dot1dTpPortMaxInfo
tp_port_value tp_port.MaxInfo b n = number MAX_INFO
-- 4.4.1.3 dot1dTpPortInFrames
tp_port_value tp_port.InFrames b n = Counter32 (port_facts_of b n).frames_in
-- 4.4.1.4 dot1dTpPortOutFrames
tp_port_value tp_port.OutFrames b n = Counter32 (port_facts_of b n).frames_out
-- 4.4.1.5 dot1dTpPortInDiscards
tp_port_value tp_port.InDiscards b n = Counter32 (port_facts_of b n).discards_in

-- ---- RFC 4188, dot1dStatic

abbrev pub static_value : Static → BridgeState → StaticRow → Value
-- 5.1.1.1 dot1dStaticAddress
static_value static_column.Address b r = OctetString r.index.address.0
-- 5.1.1.2 dot1dStaticReceivePort
static_value static_column.ReceivePort b r = number r.index.port
-- 5.1.1.3 dot1dStaticAllowedToGoTo: a bit for each port, in as many octets as that takes
static_value static_column.AllowedToGoTo b r = OctetString (octets_of (port_count b) r.ports)
-- 5.1.1.4 dot1dStaticStatus: permanent
static_value static_column.Status b r = number 3

-- ---- RFC 3415, vacmMIBViews

abbrev pub family_value : Family → FamilyRow → Value
-- 1.5.2.1.3 vacmViewTreeFamilyMask
family_value family.Mask r = OctetString r.mask
-- 1.5.2.1.4 vacmViewTreeFamilyType: 1 included, 2 excluded
family_value family.Type r = number (if r.included then 1 else 2)

-- ---- all objects

-- What a column shows of a world, by rising index.
unfoldable pub shown_by : Column → World → List IndexedValue
shown_by (column.Base c) w = scalar (base_value c w.bridge)
shown_by (column.BasePort c) w = by_port (port_count w.bridge) (base_port_value c w.bridge)
shown_by (column.Stp c) w = scalar (stp_value c w.bridge)
shown_by (column.StpPort c) w = by_port (port_count w.bridge) (stp_port_value c w.bridge)
shown_by (column.Rapid c) w = scalar (rapid_value c w.bridge)
shown_by (column.ExtPort c) w = by_port (port_count w.bridge) (ext_port_value c w.bridge)
shown_by (column.Tp c) w = scalar (tp_value c w.bridge)
shown_by (column.TpFdb c) w = by_address w.bridge.learned (tp_fdb_value c)
shown_by (column.TpPort c) w = by_port (port_count w.bridge) (tp_port_value c w.bridge)
shown_by (column.Static c) w = by_static w.bridge.statics.rows (static_value c w.bridge)
shown_by (column.Family c) w = by_family w.policy.vacm.families (family_value c)

-- How many numbers an index of a column has at most (RFC 2578, 7.7): the 0 of a scalar, the number
-- of a port, the octets of an address, those of a static row with its port, and the longest of all,
-- that of a family.
abbrev pub longest_index : Column → ℕ
longest_index (column.Base c) = 1
longest_index (column.BasePort c) = 1
longest_index (column.Stp c) = 1
longest_index (column.StpPort c) = 1
longest_index (column.Rapid c) = 1
longest_index (column.ExtPort c) = 1
longest_index (column.Tp c) = 1
longest_index (column.TpFdb c) = 6
longest_index (column.TpPort c) = 1
longest_index (column.Static c) = 7
longest_index (column.Family c) = MAX_INDEX
