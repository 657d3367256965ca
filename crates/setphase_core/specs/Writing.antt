-- How a Set writes each object, as RFC 4188 (BRIDGE-MIB), RFC 4318 (RSTP-MIB) and RFC 3415
-- (SNMP-VIEW-BASED-ACM-MIB) have it: which setting, which INTEGERs, and what the test of a variable
-- answers (RFC 3416, 4.2.5). Above each row stand its name under 1.3.6.1.2.1.17, or that of the family
-- table's under 1.3.6.1.6.3.16, and its descriptor; all other objects are read-only.
use Rattle.std.specs.Prelude.{ℕ, ◌+◌, ◌%◌, ◌==◌, ◌&&◌, ◌<◌, nat_le, nat_lt, ℤ, pos, negsuc, Bool, false, not, if◌then◌else◌, List, [], ◌∷◌, ◌++◌, length, map, filter, Option, Some, None, Result, Ok, Err}
use Rattle.std.specs.List.{list_all, list_any}
use Rattle.std.specs.Option.{option_map}
use Rattle.frame_core.specs.Octets.{same_mac}
use Rattle.fdb_core.specs.declared.static_row.StaticIndex.{StaticIndex}
use Rattle.fdb_core.specs.PortSets.{ports_in, has_other_port}
use Rattle.fdb_core.specs.Statics.{made_rows}
use Rattle.oid_core.specs.Order.{name_eq}
use Rattle.message_core.specs.declared.value.Value.{Value}
use Rattle.message_core.specs.declared.value.Value.TheVariants.{Integer, OctetString}
use Rattle.rstp_settings.specs.declared.key.TheConstants.{MIN_AGING, MAX_AGING, MIGRATION_CHECK}
use Rattle.rstp_settings.specs.declared.key.Key.TheVariants as key
use Rattle.rstp_settings.specs.declared.key.BridgeKey.{BridgeKey}
use Rattle.rstp_settings.specs.declared.key.BridgeKey.TheVariants as bridge
use Rattle.rstp_settings.specs.declared.key.PortKey.{PortKey}
use Rattle.rstp_settings.specs.declared.key.PortKey.TheVariants as port
use Rattle.bridge_core.specs.Bridge.{BridgeState, address_of, port_count}
use Rattle.bridge_core.specs.Forwarding.{is_reserved}
use Rattle.bridge_core.specs.Statics.{is_made}
use Rattle.setting_keys.specs.declared.SettingKey.{SettingKey}
use Rattle.setting_keys.specs.declared.SettingKey.TheVariants as setting
use Rattle.setting_keys.specs.declared.SettingValue.{SettingValue}
use Rattle.setting_keys.specs.declared.SettingValue.TheVariants.{Number, Ports, Mask}
use Rattle.vacm_core.specs.FamilyIndex.{family_at}
use Rattle.vacm_core.specs.declared.limits.TheConstants.{MAX_MASK}
use Rattle.setphase_core.specs.declared.world.World.{World}
use Rattle.setphase_core.specs.declared.limits.TheConstants.{MAX_SLOTS, MAX_PATH_COST, MAX_STATIC_ROWS, MAX_PORT_OCTETS}
use Rattle.setphase_core.specs.declared.object.Assignment.{Assignment}
use Rattle.setphase_core.specs.declared.object.Reservation.{Reservation}
use Rattle.setphase_core.specs.declared.object.SetFault.{SetFault}
use Rattle.setphase_core.specs.declared.object.SetFault.TheVariants.{NotWritable, WrongType, WrongLength, WrongValue, NoCreation, ResourceUnavailable}
use Rattle.setphase_core.specs.declared.object.Slot.{Slot}
use Rattle.setphase_core.specs.declared.writable.Target.{Target}
use Rattle.setphase_core.specs.declared.writable.Target.TheVariants as target
use Rattle.setphase_core.specs.declared.writable.IntegerTarget.{IntegerTarget}
use Rattle.setphase_core.specs.declared.writable.Writable.{Writable}
use Rattle.setphase_core.specs.declared.writable.Writable.TheVariants.{Integer as Integers, Ports as PortOctets, Mask as MaskOctets}
use Rattle.setphase_core.specs.Settings.{same_setting, made_by}
use Rattle.setphase_core.specs.Values.{port_index}
use Rattle.setphase_core.specs.declared.column.Stp.{Stp}
use Rattle.setphase_core.specs.declared.column.Stp.TheVariants as stp
use Rattle.setphase_core.specs.declared.column.StpPort.{StpPort}
use Rattle.setphase_core.specs.declared.column.StpPort.TheVariants as stp_port
use Rattle.setphase_core.specs.declared.column.Rapid.{Rapid}
use Rattle.setphase_core.specs.declared.column.Rapid.TheVariants as rapid
use Rattle.setphase_core.specs.declared.column.ExtPort.{ExtPort}
use Rattle.setphase_core.specs.declared.column.ExtPort.TheVariants as ext_port
use Rattle.setphase_core.specs.declared.column.Tp.{Tp}
use Rattle.setphase_core.specs.declared.column.Tp.TheVariants as tp
use Rattle.setphase_core.specs.declared.column.Static.{Static}
use Rattle.setphase_core.specs.declared.column.Static.TheVariants as static_column
use Rattle.setphase_core.specs.declared.column.Family.{Family}
use Rattle.setphase_core.specs.declared.column.Family.TheVariants as family
use Rattle.setphase_core.specs.declared.column.Column.{Column}
use Rattle.setphase_core.specs.declared.column.Column.TheVariants as column

-- ---- which setting, and which INTEGERs: from a least to a greatest, the multiples of a step

abbrev pub writable_scalar : BridgeKey → ℕ → ℕ → ℕ → Option Writable
writable_scalar k least most step =
    Some (Integers (record { target = target.Bridge k; least = least; most = most; step = step }))

abbrev pub writable_column : PortKey → ℕ → ℕ → ℕ → Option Writable
writable_column k least most step =
    Some (Integers (record { target = target.Port k; least = least; most = most; step = step }))

abbrev pub stp_writable : Stp → Option Writable
-- 2.2 dot1dStpPriority
stp_writable stp.Priority = writable_scalar bridge.Priority 0 61440 4096
-- 2.12 dot1dStpBridgeMaxAge: whole seconds
stp_writable stp.BridgeMaxAge = writable_scalar bridge.MaxAge 600 4000 100
-- 2.13 dot1dStpBridgeHelloTime: whole seconds
stp_writable stp.BridgeHelloTime = writable_scalar bridge.Hello 100 1000 100
-- 2.14 dot1dStpBridgeForwardDelay: whole seconds
stp_writable stp.BridgeForwardDelay = writable_scalar bridge.ForwardDelay 400 3000 100
stp_writable other = None

abbrev pub stp_port_writable : StpPort → Option Writable
-- 2.15.1.2 dot1dStpPortPriority
stp_port_writable stp_port.Priority = writable_column port.Priority 0 240 16
-- 2.15.1.4 dot1dStpPortEnable: 1 enabled, 2 disabled
stp_port_writable stp_port.Enable = writable_column port.Enable 1 2 1
-- 2.15.1.5 dot1dStpPortPathCost
stp_port_writable stp_port.PathCost = writable_column port.Cost 1 MAX_PATH_COST 1
-- 2.15.1.11 dot1dStpPortPathCost32
stp_port_writable stp_port.PathCost32 = writable_column port.Cost 1 200000000 1
stp_port_writable other = None

abbrev pub rapid_writable : Rapid → Option Writable
-- 2.16 dot1dStpVersion: 0 stpCompatible, 2 rstp
rapid_writable rapid.Version = writable_scalar bridge.Version 0 2 2
-- 2.17 dot1dStpTxHoldCount
rapid_writable rapid.TxHoldCount = writable_scalar bridge.HoldCount 1 10 1

abbrev pub ext_port_writable : ExtPort → Option Writable
-- 2.19.1.1 dot1dStpPortProtocolMigration: 1 true, 2 false
ext_port_writable ext_port.ProtocolMigration = writable_column port.Migrate 1 2 1
-- 2.19.1.2 dot1dStpPortAdminEdgePort: 1 true, 2 false
ext_port_writable ext_port.AdminEdgePort = writable_column port.Edge 1 2 1
-- 2.19.1.4 dot1dStpPortAdminPointToPoint: 0 forceTrue, 1 forceFalse, 2 auto
ext_port_writable ext_port.AdminPointToPoint = writable_column port.PointToPoint 0 2 1
-- 2.19.1.6 dot1dStpPortAdminPathCost: 0 is the default cost of the port's speed
ext_port_writable ext_port.AdminPathCost = writable_column port.Cost 0 200000000 1
ext_port_writable other = None

abbrev pub tp_writable : Tp → Option Writable
tp_writable tp.LearnedEntryDiscards = None
-- 4.2 dot1dTpAgingTime: seconds
tp_writable tp.AgingTime = writable_scalar bridge.Aging MIN_AGING MAX_AGING 1

abbrev pub static_writable : Static → Option Writable
-- 5.1.1.3 dot1dStaticAllowedToGoTo
static_writable static_column.AllowedToGoTo = Some PortOctets
-- 5.1.1.4 dot1dStaticStatus: 2 invalid, 3 permanent
static_writable static_column.Status =
    Some (Integers (record { target = target.Made; least = 2; most = 3; step = 1 }))
static_writable other = None

abbrev pub family_writable : Family → Option Writable
-- 1.5.2.1.3 vacmViewTreeFamilyMask
family_writable family.Mask = Some MaskOctets
-- 1.5.2.1.4 vacmViewTreeFamilyType: 1 included, 2 excluded
family_writable family.Type =
    Some (Integers (record { target = target.FamilyType; least = 1; most = 2; step = 1 }))

-- How the instances of a column are written; none where it is read-only.
abbrev pub writable_of : Column → Option Writable
writable_of (column.Base c) = None
writable_of (column.BasePort c) = None
writable_of (column.Stp c) = stp_writable c
writable_of (column.StpPort c) = stp_port_writable c
writable_of (column.Rapid c) = rapid_writable c
writable_of (column.ExtPort c) = ext_port_writable c
writable_of (column.Tp c) = tp_writable c
writable_of (column.TpFdb c) = None
writable_of (column.TpPort c) = None
writable_of (column.Static c) = static_writable c
writable_of (column.Family c) = family_writable c

-- ---- what a variable writes

-- The step of an object that takes INTEGERs is above 0.
abbrev pub HasStep : Writable → Type 0
HasStep (Integers x) = 0 < x.step
HasStep PortOctets = Unit {0}
HasStep MaskOctets = Unit {0}

-- The object takes this number.
abbrev pub takes : IntegerTarget → ℕ → Bool
takes w n = nat_le w.least n && nat_le n w.most && (n % w.step == 0)

-- What its setting gets for it. A protocol migration check is asked for by true; false asks for
-- none (RFC 4318, dot1dStpPortProtocolMigration). A static row is made by permanent, 3, and removed
-- by invalid, 2 (RFC 4188, dot1dStaticStatus).
abbrev pub number_given : Target → ℕ → ℕ
number_given (target.Port port.Migrate) n = if n == 1 then MIGRATION_CHECK else 0
number_given target.Made n = if n == 3 then 1 else 0
number_given other n = n

-- The numbers are six octets.
abbrev pub are_octets : List ℕ → Bool
are_octets numbers = list_all (λ n. nat_lt n 256) numbers

-- A bridge may have a static row of an address and a receive port: the port is one of the bridge's,
-- or 0 for all; the address is neither the bridge's own nor reserved.
abbrev pub may_have_row : BridgeState → StaticIndex → Bool
may_have_row b i =
    nat_le i.port (port_count b)
    && (not (same_mac i.address (address_of b)) && not (is_reserved i.address))

-- The static row that seven numbers name, of which a bridge may have one: the six octets of the
-- address, and the receive port (RFC 4188, dot1dStaticEntry).
abbrev pub row_named : BridgeState → List ℕ → StaticIndex → Option StaticIndex
row_named b octets i = if are_octets octets && may_have_row b i then Some i else None

abbrev pub static_index : BridgeState → List ℕ → Option StaticIndex
static_index b (o1 ∷ o2 ∷ o3 ∷ o4 ∷ o5 ∷ o6 ∷ p ∷ []) =
    let octets = o1 ∷ o2 ∷ o3 ∷ o4 ∷ o5 ∷ o6 ∷ [] in
    row_named b octets (record { address = record { 0 = octets }; port = p })
static_index b other = None

-- The setting that the instance of an index writes; none where there can never be such an instance.
abbrev pub key_at : Target → World → List ℕ → Option SettingKey
key_at (target.Bridge k) w at =
    if name_eq (0 ∷ []) at then Some (setting.Bridge (key.Bridge k)) else None
key_at (target.Port k) w at =
    option_map (λ n. setting.Bridge (key.Port n k)) (port_index (port_count w.bridge) at)
key_at target.Made w at = option_map setting.Made (static_index w.bridge at)
key_at target.FamilyType w at =
    option_map setting.FamilyType (family_at w.policy.vacm.families at)

-- ---- what a variable writes, or the first of its faults

abbrev pub assignment_at : Option SettingKey → ℕ → Result Assignment SetFault
assignment_at None n = Err NoCreation
assignment_at (Some k) n = Ok (record { key = k; value = Number n })

abbrev pub integer_assignment : IntegerTarget → World → List ℕ → ℤ →
    Result Assignment SetFault
integer_assignment x w at (pos n) =
    if takes x n
    then assignment_at (key_at x.target w at) (number_given x.target n)
    else Err WrongValue
integer_assignment x w at (negsuc n) = Err WrongValue

abbrev pub allowed_assignment : Option StaticIndex → List ℕ → Result Assignment SetFault
allowed_assignment None octets = Err NoCreation
allowed_assignment (Some i) octets =
    Ok (record { key = setting.Allowed i; value = Ports (ports_in octets) })

-- The ports of a static row are 512 octets at most, of which each bit that is 1 is a port of the
-- bridge (RFC 4188, dot1dStaticAllowedToGoTo).
abbrev pub ports_assignment : World → List ℕ → List ℕ → Result Assignment SetFault
ports_assignment w at octets =
    if nat_lt MAX_PORT_OCTETS (length octets) then Err WrongLength
    else (if has_other_port (port_count w.bridge) octets then Err WrongValue
    else allowed_assignment (static_index w.bridge at) octets)

abbrev pub masked_assignment : Option ℕ → List ℕ → Result Assignment SetFault
masked_assignment None octets = Err NoCreation
masked_assignment (Some n) octets =
    Ok (record { key = setting.FamilyMask n; value = Mask octets })

-- The mask of a family row is 16 octets at most (RFC 3415, vacmViewTreeFamilyMask).
abbrev pub mask_assignment : World → List ℕ → List ℕ → Result Assignment SetFault
mask_assignment w at octets =
    if nat_lt MAX_MASK (length octets) then Err WrongLength
    else masked_assignment (family_at w.policy.vacm.families at) octets

abbrev pub typed_assignment : Writable → World → List ℕ → Value → Result Assignment SetFault
typed_assignment (Integers x) w at (Integer i) = integer_assignment x w at i
typed_assignment (Integers x) w at other = Err WrongType
typed_assignment PortOctets w at (OctetString octets) = ports_assignment w at octets
typed_assignment PortOctets w at other = Err WrongType
typed_assignment MaskOctets w at (OctetString octets) = mask_assignment w at octets
typed_assignment MaskOctets w at other = Err WrongType

abbrev pub assignment_by : Option Writable → World → List ℕ → Value → Result Assignment SetFault
assignment_by None w at v = Err NotWritable
assignment_by (Some writable) w at v = typed_assignment writable w at v

-- What the variable of this index of an object that shows this column writes.
abbrev pub assignment_of : Column → World → List ℕ → Value → Result Assignment SetFault
assignment_of c w at v = assignment_by (writable_of c) w at v

-- ---- how many static rows there may be

-- Giving a setting this value makes a static row that is not there.
abbrev pub makes_row : World → SettingKey → SettingValue → Bool
makes_row w (setting.Made i) (Number n) = made_by n && not (is_made w.bridge i)
makes_row w k v = false

-- These settings, each once.
abbrev pub each_once : List SettingKey → List SettingKey
each_once [] = []
each_once (k ∷ ks) =
    (if list_any (λ l. same_setting l k) ks then [] else k ∷ []) ++ each_once ks

-- The settings by which assignments make static rows that are not there.
abbrev pub new_rows : World → List Assignment → List SettingKey
new_rows w ps = map (λ a. a.key) (filter (λ a. makes_row w a.key a.value) ps)

-- The rows that are there, and the distinct new ones, are no more than there may be. A row that the
-- same Set removes still counts.
abbrev pub has_rows_left : World → List Assignment → Bool
has_rows_left w ps =
    nat_le (length (made_rows w.bridge.statics.rows) + length (each_once (new_rows w ps)))
    MAX_STATIC_ROWS

-- What a variable writes behind earlier ones of its object, where it makes no static row that is one
-- too many.
abbrev pub within_rows : World → List Assignment → Result Assignment SetFault →
    Result Assignment SetFault
within_rows w earlier (Err fault) = Err fault
within_rows w earlier (Ok a) =
    if makes_row w a.key a.value && not (has_rows_left w (a ∷ earlier))
    then Err ResourceUnavailable
    else Ok a

-- ---- what the test of a variable answers

-- What reserved slots write.
abbrev pub assignments_in : List Reservation → List Assignment
assignments_in reserved = map (λ r. record { key = r.key; value = r.value }) reserved

-- A variable that passed has the next of the object's places, while there is one.
abbrev pub next_slot : List Reservation → Result Assignment SetFault → Result Slot SetFault
next_slot reserved (Err fault) = Err fault
next_slot reserved (Ok a) =
    if nat_lt (length reserved) MAX_SLOTS
    then Ok (record { key = a.key; value = a.value; place = length reserved })
    else Err ResourceUnavailable

abbrev pub test_answer : Column → World → List Reservation → List ℕ → Value →
    Result Slot SetFault
test_answer c w reserved at v =
    next_slot reserved (within_rows w (assignments_in reserved) (assignment_of c w at v))
