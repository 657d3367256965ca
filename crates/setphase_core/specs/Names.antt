-- The names of the objects, as the modules of RFC 4188 (BRIDGE-MIB), RFC 4318 (RSTP-MIB) and RFC
-- 3415 (SNMP-VIEW-BASED-ACM-MIB) place them.
use Rattle.std.specs.Prelude.{ℕ, List, [], ◌∷◌, ◌++◌, map}
use Rattle.setphase_core.specs.declared.column.Base.{Base}
use Rattle.setphase_core.specs.declared.column.Base.TheVariants as base
use Rattle.setphase_core.specs.declared.column.BasePort.{BasePort}
use Rattle.setphase_core.specs.declared.column.BasePort.TheVariants as base_port
use Rattle.setphase_core.specs.declared.column.Stp.{Stp}
use Rattle.setphase_core.specs.declared.column.Stp.TheVariants as stp
use Rattle.setphase_core.specs.declared.column.StpPort.{StpPort}
use Rattle.setphase_core.specs.declared.column.StpPort.TheVariants as stp_port
use Rattle.setphase_core.specs.declared.column.Rapid.{Rapid}
use Rattle.setphase_core.specs.declared.column.Rapid.TheVariants as rapid
use Rattle.setphase_core.specs.declared.column.ExtPort.{ExtPort}
use Rattle.setphase_core.specs.declared.column.ExtPort.TheVariants as ext_port
use Rattle.setphase_core.specs.declared.column.Tp.{Tp}
use Rattle.setphase_core.specs.declared.column.Tp.TheVariants as tp
use Rattle.setphase_core.specs.declared.column.TpFdb.{TpFdb}
use Rattle.setphase_core.specs.declared.column.TpFdb.TheVariants as tp_fdb
use Rattle.setphase_core.specs.declared.column.TpPort.{TpPort}
use Rattle.setphase_core.specs.declared.column.TpPort.TheVariants as tp_port
use Rattle.setphase_core.specs.declared.column.Static.{Static}
use Rattle.setphase_core.specs.declared.column.Static.TheVariants as static_column
use Rattle.setphase_core.specs.declared.column.Family.{Family}
use Rattle.setphase_core.specs.declared.column.Family.TheVariants as family
use Rattle.setphase_core.specs.declared.column.Column.{Column}
use Rattle.setphase_core.specs.declared.column.Column.TheVariants as column
use Rattle.setphase_core.specs.Objects.{ObjectRow}

-- dot1dBridge, 1.3.6.1.2.1.17, and what stands under it.
abbrev pub bridge_name : List ℕ → List ℕ
bridge_name numbers = (1 ∷ 3 ∷ 6 ∷ 1 ∷ 2 ∷ 1 ∷ 17 ∷ []) ++ numbers

-- dot1dBase, 1
abbrev pub base_name : Base → List ℕ
base_name base.BridgeAddress = bridge_name (1 ∷ 1 ∷ [])
base_name base.NumPorts = bridge_name (1 ∷ 2 ∷ [])
base_name base.Type = bridge_name (1 ∷ 3 ∷ [])

-- dot1dBasePortEntry, 1.4.1
abbrev pub base_port_name : BasePort → List ℕ
base_port_name base_port.Port = bridge_name (1 ∷ 4 ∷ 1 ∷ 1 ∷ [])
base_port_name base_port.IfIndex = bridge_name (1 ∷ 4 ∷ 1 ∷ 2 ∷ [])
base_port_name base_port.Circuit = bridge_name (1 ∷ 4 ∷ 1 ∷ 3 ∷ [])
base_port_name base_port.DelayExceededDiscards = bridge_name (1 ∷ 4 ∷ 1 ∷ 4 ∷ [])
base_port_name base_port.MtuExceededDiscards = bridge_name (1 ∷ 4 ∷ 1 ∷ 5 ∷ [])

-- dot1dStp, 2
abbrev pub stp_name : Stp → List ℕ
stp_name stp.ProtocolSpecification = bridge_name (2 ∷ 1 ∷ [])
stp_name stp.Priority = bridge_name (2 ∷ 2 ∷ [])
stp_name stp.TimeSinceTopologyChange = bridge_name (2 ∷ 3 ∷ [])
stp_name stp.TopChanges = bridge_name (2 ∷ 4 ∷ [])
stp_name stp.DesignatedRoot = bridge_name (2 ∷ 5 ∷ [])
stp_name stp.RootCost = bridge_name (2 ∷ 6 ∷ [])
stp_name stp.RootPort = bridge_name (2 ∷ 7 ∷ [])
stp_name stp.MaxAge = bridge_name (2 ∷ 8 ∷ [])
stp_name stp.HelloTime = bridge_name (2 ∷ 9 ∷ [])
stp_name stp.HoldTime = bridge_name (2 ∷ 10 ∷ [])
stp_name stp.ForwardDelay = bridge_name (2 ∷ 11 ∷ [])
stp_name stp.BridgeMaxAge = bridge_name (2 ∷ 12 ∷ [])
stp_name stp.BridgeHelloTime = bridge_name (2 ∷ 13 ∷ [])
stp_name stp.BridgeForwardDelay = bridge_name (2 ∷ 14 ∷ [])

-- dot1dStpPortEntry, 2.15.1
abbrev pub stp_port_name : StpPort → List ℕ
stp_port_name stp_port.Port = bridge_name (2 ∷ 15 ∷ 1 ∷ 1 ∷ [])
stp_port_name stp_port.Priority = bridge_name (2 ∷ 15 ∷ 1 ∷ 2 ∷ [])
stp_port_name stp_port.State = bridge_name (2 ∷ 15 ∷ 1 ∷ 3 ∷ [])
stp_port_name stp_port.Enable = bridge_name (2 ∷ 15 ∷ 1 ∷ 4 ∷ [])
stp_port_name stp_port.PathCost = bridge_name (2 ∷ 15 ∷ 1 ∷ 5 ∷ [])
stp_port_name stp_port.DesignatedRoot = bridge_name (2 ∷ 15 ∷ 1 ∷ 6 ∷ [])
stp_port_name stp_port.DesignatedCost = bridge_name (2 ∷ 15 ∷ 1 ∷ 7 ∷ [])
stp_port_name stp_port.DesignatedBridge = bridge_name (2 ∷ 15 ∷ 1 ∷ 8 ∷ [])
stp_port_name stp_port.DesignatedPort = bridge_name (2 ∷ 15 ∷ 1 ∷ 9 ∷ [])
stp_port_name stp_port.ForwardTransitions = bridge_name (2 ∷ 15 ∷ 1 ∷ 10 ∷ [])
stp_port_name stp_port.PathCost32 = bridge_name (2 ∷ 15 ∷ 1 ∷ 11 ∷ [])

-- dot1dStp of RFC 4318, 2.16 and 2.17
abbrev pub rapid_name : Rapid → List ℕ
rapid_name rapid.Version = bridge_name (2 ∷ 16 ∷ [])
rapid_name rapid.TxHoldCount = bridge_name (2 ∷ 17 ∷ [])

-- dot1dStpExtPortEntry, 2.19.1
abbrev pub ext_port_name : ExtPort → List ℕ
ext_port_name ext_port.ProtocolMigration = bridge_name (2 ∷ 19 ∷ 1 ∷ 1 ∷ [])
ext_port_name ext_port.AdminEdgePort = bridge_name (2 ∷ 19 ∷ 1 ∷ 2 ∷ [])
ext_port_name ext_port.OperEdgePort = bridge_name (2 ∷ 19 ∷ 1 ∷ 3 ∷ [])
ext_port_name ext_port.AdminPointToPoint = bridge_name (2 ∷ 19 ∷ 1 ∷ 4 ∷ [])
ext_port_name ext_port.OperPointToPoint = bridge_name (2 ∷ 19 ∷ 1 ∷ 5 ∷ [])
ext_port_name ext_port.AdminPathCost = bridge_name (2 ∷ 19 ∷ 1 ∷ 6 ∷ [])

-- dot1dTp, 4
abbrev pub tp_name : Tp → List ℕ
tp_name tp.LearnedEntryDiscards = bridge_name (4 ∷ 1 ∷ [])
tp_name tp.AgingTime = bridge_name (4 ∷ 2 ∷ [])

-- dot1dTpFdbEntry, 4.3.1
abbrev pub tp_fdb_name : TpFdb → List ℕ
tp_fdb_name tp_fdb.Address = bridge_name (4 ∷ 3 ∷ 1 ∷ 1 ∷ [])
tp_fdb_name tp_fdb.Port = bridge_name (4 ∷ 3 ∷ 1 ∷ 2 ∷ [])
tp_fdb_name tp_fdb.Status = bridge_name (4 ∷ 3 ∷ 1 ∷ 3 ∷ [])

-- dot1dTpPortEntry, 4.4.1
abbrev pub tp_port_name : TpPort → List ℕ
tp_port_name tp_port.Port = bridge_name (4 ∷ 4 ∷ 1 ∷ 1 ∷ [])
tp_port_name tp_port.MaxInfo = bridge_name (4 ∷ 4 ∷ 1 ∷ 2 ∷ [])
tp_port_name tp_port.InFrames = bridge_name (4 ∷ 4 ∷ 1 ∷ 3 ∷ [])
tp_port_name tp_port.OutFrames = bridge_name (4 ∷ 4 ∷ 1 ∷ 4 ∷ [])
tp_port_name tp_port.InDiscards = bridge_name (4 ∷ 4 ∷ 1 ∷ 5 ∷ [])

-- dot1dStaticEntry, 5.1.1
abbrev pub static_name : Static → List ℕ
static_name static_column.Address = bridge_name (5 ∷ 1 ∷ 1 ∷ 1 ∷ [])
static_name static_column.ReceivePort = bridge_name (5 ∷ 1 ∷ 1 ∷ 2 ∷ [])
static_name static_column.AllowedToGoTo = bridge_name (5 ∷ 1 ∷ 1 ∷ 3 ∷ [])
static_name static_column.Status = bridge_name (5 ∷ 1 ∷ 1 ∷ 4 ∷ [])

-- vacmViewTreeFamilyEntry, 1.3.6.1.6.3.16.1.5.2.1
abbrev pub family_name : Family → List ℕ
family_name family.Mask = 1 ∷ 3 ∷ 6 ∷ 1 ∷ 6 ∷ 3 ∷ 16 ∷ 1 ∷ 5 ∷ 2 ∷ 1 ∷ 3 ∷ []
family_name family.Type = 1 ∷ 3 ∷ 6 ∷ 1 ∷ 6 ∷ 3 ∷ 16 ∷ 1 ∷ 5 ∷ 2 ∷ 1 ∷ 4 ∷ []

-- ---- all objects

abbrev pub name_of : Column → List ℕ
name_of (column.Base c) = base_name c
name_of (column.BasePort c) = base_port_name c
name_of (column.Stp c) = stp_name c
name_of (column.StpPort c) = stp_port_name c
name_of (column.Rapid c) = rapid_name c
name_of (column.ExtPort c) = ext_port_name c
name_of (column.Tp c) = tp_name c
name_of (column.TpFdb c) = tp_fdb_name c
name_of (column.TpPort c) = tp_port_name c
name_of (column.Static c) = static_name c
name_of (column.Family c) = family_name c

-- The row of the object of a column.
abbrev pub row_of : Column → ObjectRow
row_of c = record { prefix = name_of c; column = c }

-- The columns in the order of their names.
abbrev pub columns : List Column
columns =
    map column.Base (base.BridgeAddress ∷ base.NumPorts ∷ base.Type ∷ [])
    ++ map column.BasePort
    (base_port.Port ∷ base_port.IfIndex ∷ base_port.Circuit ∷ base_port.DelayExceededDiscards
    ∷ base_port.MtuExceededDiscards ∷ [])
    ++ map column.Stp
    (stp.ProtocolSpecification ∷ stp.Priority ∷ stp.TimeSinceTopologyChange ∷ stp.TopChanges
    ∷ stp.DesignatedRoot ∷ stp.RootCost ∷ stp.RootPort ∷ stp.MaxAge ∷ stp.HelloTime ∷ stp.HoldTime
    ∷ stp.ForwardDelay ∷ stp.BridgeMaxAge ∷ stp.BridgeHelloTime ∷ stp.BridgeForwardDelay ∷ [])
    ++ map column.StpPort
    (stp_port.Port ∷ stp_port.Priority ∷ stp_port.State ∷ stp_port.Enable ∷ stp_port.PathCost
    ∷ stp_port.DesignatedRoot ∷ stp_port.DesignatedCost ∷ stp_port.DesignatedBridge
    ∷ stp_port.DesignatedPort ∷ stp_port.ForwardTransitions ∷ stp_port.PathCost32 ∷ [])
    ++ map column.Rapid (rapid.Version ∷ rapid.TxHoldCount ∷ [])
    ++ map column.ExtPort
    (ext_port.ProtocolMigration ∷ ext_port.AdminEdgePort ∷ ext_port.OperEdgePort
    ∷ ext_port.AdminPointToPoint ∷ ext_port.OperPointToPoint ∷ ext_port.AdminPathCost ∷ [])
    ++ map column.Tp (tp.LearnedEntryDiscards ∷ tp.AgingTime ∷ [])
    ++ map column.TpFdb (tp_fdb.Address ∷ tp_fdb.Port ∷ tp_fdb.Status ∷ [])
    ++ map column.TpPort
    (tp_port.Port ∷ tp_port.MaxInfo ∷ tp_port.InFrames ∷ tp_port.OutFrames ∷ tp_port.InDiscards ∷ [])
    ++ map column.Static
    (static_column.Address ∷ static_column.ReceivePort ∷ static_column.AllowedToGoTo
    ∷ static_column.Status ∷ [])
    ++ map column.Family (family.Mask ∷ family.Type ∷ [])

-- The rows of all objects.
unfoldable pub bridge_rows : List ObjectRow
bridge_rows = map row_of columns
