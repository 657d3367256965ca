-- Each instance can be served: its name stands under 1.3, its value is no exception, and a name for
-- value has an encoding.
use Rattle.std.proofs.Common.{◌≡◌, ℕ, ◌<◌, ◌≤◌, Bool, true, false, cond, List, [], ◌∷◌, ◌++◌, map, None, zero, suc, ◌+◌, subst, sym, arith}
use Rattle.std.specs.List.{AllByRecursion}
use Rattle.fdb_core.specs.declared.row.LearnedRow.{LearnedRow}
use Rattle.fdb_core.specs.declared.static_row.StaticRow.{StaticRow}
use Rattle.fdb_core.specs.Statics.{numbers_of, made_rows}
use Rattle.oid_core.specs.Name.{HasRoot}
use Rattle.oid_core.specs.Order.{is_prefix}
use Rattle.oid_core.proofs.OrderLaws.{prefix_found}
use Rattle.message_core.specs.declared.binding.Binding.{Binding}
use Rattle.message_core.specs.declared.value.Value.{Value}
use Rattle.message_core.specs.Encodable.{IsEncodableValue, IsEncodableBinding, AreEncodable}
use Rattle.message_core.specs.Instances.{IsInstanceValue, AreValued, IsServable}
use Rattle.bridge_core.specs.Bridge.{BridgeState, port_count}
use Rattle.setphase_core.specs.declared.world.World.{World}
use Rattle.setphase_core.specs.declared.column.Base.{Base}
use Rattle.setphase_core.specs.declared.column.Base.TheVariants as base
use Rattle.setphase_core.specs.declared.column.BasePort.{BasePort}
use Rattle.setphase_core.specs.declared.column.BasePort.TheVariants as base_port
use Rattle.setphase_core.specs.declared.column.Stp.{Stp}
use Rattle.setphase_core.specs.declared.column.Stp.TheVariants as stp
use Rattle.setphase_core.specs.declared.column.StpPort.{StpPort}
use Rattle.setphase_core.specs.declared.column.StpPort.TheVariants as stp_port
use Rattle.setphase_core.specs.declared.column.Rapid.{Rapid}
use Rattle.setphase_core.specs.declared.column.Rapid.TheVariants as rapid
use Rattle.setphase_core.specs.declared.column.ExtPort.{ExtPort}
use Rattle.setphase_core.specs.declared.column.ExtPort.TheVariants as ext_port
use Rattle.setphase_core.specs.declared.column.Tp.{Tp}
use Rattle.setphase_core.specs.declared.column.Tp.TheVariants as tp
use Rattle.setphase_core.specs.declared.column.TpFdb.{TpFdb}
use Rattle.setphase_core.specs.declared.column.TpFdb.TheVariants as tp_fdb
use Rattle.setphase_core.specs.declared.column.TpPort.{TpPort}
use Rattle.setphase_core.specs.declared.column.TpPort.TheVariants as tp_port
use Rattle.setphase_core.specs.declared.column.Static.{Static}
use Rattle.setphase_core.specs.declared.column.Static.TheVariants as static_column
use Rattle.setphase_core.specs.declared.column.Family.{Family}
use Rattle.setphase_core.specs.declared.column.Family.TheVariants as family
use Rattle.setphase_core.specs.declared.column.Column.{Column}
use Rattle.setphase_core.specs.declared.column.Column.TheVariants as column
use Rattle.setphase_core.specs.Values.{IndexedValue, by_address, by_static, in_index_order, numbers_from}
use Rattle.setphase_core.specs.Columns.{shown_by, base_value, base_port_value, stp_value, stp_port_value, rapid_value, ext_port_value, tp_value, tp_fdb_value, tp_port_value, static_value, family_value}
use Rattle.setphase_core.specs.Objects.{ObjectRow}
use Rattle.setphase_core.specs.Registry.{first_fault, AreNamed, IsKept, under, instances_under, instances}
use Rattle.vacm_core.specs.declared.tables.FamilyRow.{FamilyRow}
use Rattle.setphase_core.proofs.Families.{instance_of}
use Rattle.setphase_core.proofs.Found.{instances-cons, instances-nil}
use Rattle.setphase_core.proofs.Rising.{instances_rising}

-- a value that can be served
record IsServed (v : Value) : Type 0 where
  encodable : IsEncodableValue v
  valued : IsInstanceValue v

zero_low : 0 ≤ 2
zero_low = omega arith

zero_small : 0 < 40
zero_small = omega arith

base_served : (c : Base) (b : BridgeState) → IsServed (base_value c b)
base_served base.BridgeAddress b = record { encodable = tt; valued = tt }
base_served base.NumPorts b = record { encodable = tt; valued = tt }
base_served base.Type b = record { encodable = tt; valued = tt }

base_port_served : (c : BasePort) (b : BridgeState) (n : ℕ) → IsServed (base_port_value c b n)
base_port_served base_port.Port b n = record { encodable = tt; valued = tt }
base_port_served base_port.IfIndex b n = record { encodable = tt; valued = tt }
base_port_served base_port.Circuit b n = record { encodable = (zero_low, λ h. zero_small); valued = tt }
base_port_served base_port.DelayExceededDiscards b n = record { encodable = tt; valued = tt }
base_port_served base_port.MtuExceededDiscards b n = record { encodable = tt; valued = tt }

stp_served : (c : Stp) (b : BridgeState) → IsServed (stp_value c b)
stp_served stp.ProtocolSpecification b = record { encodable = tt; valued = tt }
stp_served stp.Priority b = record { encodable = tt; valued = tt }
stp_served stp.TimeSinceTopologyChange b = record { encodable = tt; valued = tt }
stp_served stp.TopChanges b = record { encodable = tt; valued = tt }
stp_served stp.DesignatedRoot b = record { encodable = tt; valued = tt }
stp_served stp.RootCost b = record { encodable = tt; valued = tt }
stp_served stp.RootPort b = record { encodable = tt; valued = tt }
stp_served stp.MaxAge b = record { encodable = tt; valued = tt }
stp_served stp.HelloTime b = record { encodable = tt; valued = tt }
stp_served stp.HoldTime b = record { encodable = tt; valued = tt }
stp_served stp.ForwardDelay b = record { encodable = tt; valued = tt }
stp_served stp.BridgeMaxAge b = record { encodable = tt; valued = tt }
stp_served stp.BridgeHelloTime b = record { encodable = tt; valued = tt }
stp_served stp.BridgeForwardDelay b = record { encodable = tt; valued = tt }

stp_port_served : (c : StpPort) (b : BridgeState) (n : ℕ) → IsServed (stp_port_value c b n)
stp_port_served stp_port.Port b n = record { encodable = tt; valued = tt }
stp_port_served stp_port.Priority b n = record { encodable = tt; valued = tt }
stp_port_served stp_port.State b n = record { encodable = tt; valued = tt }
stp_port_served stp_port.Enable b n = record { encodable = tt; valued = tt }
stp_port_served stp_port.PathCost b n = record { encodable = tt; valued = tt }
stp_port_served stp_port.DesignatedRoot b n = record { encodable = tt; valued = tt }
stp_port_served stp_port.DesignatedCost b n = record { encodable = tt; valued = tt }
stp_port_served stp_port.DesignatedBridge b n = record { encodable = tt; valued = tt }
stp_port_served stp_port.DesignatedPort b n = record { encodable = tt; valued = tt }
stp_port_served stp_port.ForwardTransitions b n = record { encodable = tt; valued = tt }
stp_port_served stp_port.PathCost32 b n = record { encodable = tt; valued = tt }

rapid_served : (c : Rapid) (b : BridgeState) → IsServed (rapid_value c b)
rapid_served rapid.Version b = record { encodable = tt; valued = tt }
rapid_served rapid.TxHoldCount b = record { encodable = tt; valued = tt }

ext_port_served : (c : ExtPort) (b : BridgeState) (n : ℕ) → IsServed (ext_port_value c b n)
ext_port_served ext_port.ProtocolMigration b n = record { encodable = tt; valued = tt }
ext_port_served ext_port.AdminEdgePort b n = record { encodable = tt; valued = tt }
ext_port_served ext_port.OperEdgePort b n = record { encodable = tt; valued = tt }
ext_port_served ext_port.AdminPointToPoint b n = record { encodable = tt; valued = tt }
ext_port_served ext_port.OperPointToPoint b n = record { encodable = tt; valued = tt }
ext_port_served ext_port.AdminPathCost b n = record { encodable = tt; valued = tt }

tp_served : (c : Tp) (b : BridgeState) → IsServed (tp_value c b)
tp_served tp.LearnedEntryDiscards b = record { encodable = tt; valued = tt }
tp_served tp.AgingTime b = record { encodable = tt; valued = tt }

tp_fdb_served : (c : TpFdb) (r : LearnedRow) → IsServed (tp_fdb_value c r)
tp_fdb_served tp_fdb.Address r = record { encodable = tt; valued = tt }
tp_fdb_served tp_fdb.Port r = record { encodable = tt; valued = tt }
tp_fdb_served tp_fdb.Status r = record { encodable = tt; valued = tt }

tp_port_served : (c : TpPort) (b : BridgeState) (n : ℕ) → IsServed (tp_port_value c b n)
tp_port_served tp_port.Port b n = record { encodable = tt; valued = tt }
tp_port_served tp_port.MaxInfo b n = record { encodable = tt; valued = tt }
tp_port_served tp_port.InFrames b n = record { encodable = tt; valued = tt }
tp_port_served tp_port.OutFrames b n = record { encodable = tt; valued = tt }
tp_port_served tp_port.InDiscards b n = record { encodable = tt; valued = tt }

static_served : (c : Static) (b : BridgeState) (r : StaticRow) → IsServed (static_value c b r)
static_served static_column.Address b r = record { encodable = tt; valued = tt }
static_served static_column.ReceivePort b r = record { encodable = tt; valued = tt }
static_served static_column.AllowedToGoTo b r = record { encodable = tt; valued = tt }
static_served static_column.Status b r = record { encodable = tt; valued = tt }

family_served : (c : Family) (r : FamilyRow) → IsServed (family_value c r)
family_served family.Mask r = record { encodable = tt; valued = tt }
family_served family.Type r = record { encodable = tt; valued = tt }

ports_served : (first count : ℕ) (f : ℕ → Value) → ((n : ℕ) → IsServed (f n)) → AllByRecursion (λ (s : IndexedValue). IsServed s.value) (map (λ n. record { index = n ∷ []; value = f n }) (numbers_from first count))
ports_served first zero f h = tt
ports_served first (suc count) f h = (h first, ports_served (first + 1) count f h)

addresses_served : (rows : List LearnedRow) (f : LearnedRow → Value) → ((r : LearnedRow) → IsServed (f r)) → AllByRecursion (λ (s : IndexedValue). IsServed s.value) (by_address rows f)
addresses_served [] f h = tt
addresses_served (r ∷ rows) f h = (h r, addresses_served rows f h)

made_served : (r : StaticRow) (rows : List StaticRow) (f : StaticRow → Value) (made : Bool) → IsServed (f r) → AllByRecursion (λ (s : IndexedValue). IsServed s.value) (by_static rows f) →
    AllByRecursion (λ (s : IndexedValue). IsServed s.value) (map (λ (x : StaticRow). record { index = numbers_of x.index; value = f x }) (cond made (r ∷ made_rows rows) (made_rows rows)))
made_served r rows f true h more = (h, more)
made_served r rows f false h more = more

statics_served : (rows : List StaticRow) (f : StaticRow → Value) → ((r : StaticRow) → IsServed (f r)) → AllByRecursion (λ (s : IndexedValue). IsServed s.value) (by_static rows f)
statics_served [] f h = tt
statics_served (r ∷ rows) f h = made_served r rows f r.made (h r) (statics_served rows f h)

families_served : (rows : List FamilyRow) (f : FamilyRow → Value) → ((r : FamilyRow) → IsServed (f r)) → AllByRecursion (λ (s : IndexedValue). IsServed s.value) (map (instance_of f) rows)
families_served [] f h = tt
families_served (r ∷ rows) f h = (h r, families_served rows f h)

all_served : (c : Column) (w : World) → AllByRecursion (λ s. IsServed s.value) (shown_by c w)
unfolding shown_by
all_served (column.Base c) w = (base_served c w.bridge, tt)
all_served (column.BasePort c) w = ports_served 1 (port_count w.bridge) (base_port_value c w.bridge) (base_port_served c w.bridge)
all_served (column.Stp c) w = (stp_served c w.bridge, tt)
all_served (column.StpPort c) w = ports_served 1 (port_count w.bridge) (stp_port_value c w.bridge) (stp_port_served c w.bridge)
all_served (column.Rapid c) w = (rapid_served c w.bridge, tt)
all_served (column.ExtPort c) w = ports_served 1 (port_count w.bridge) (ext_port_value c w.bridge) (ext_port_served c w.bridge)
all_served (column.Tp c) w = (tp_served c w.bridge, tt)
all_served (column.TpFdb c) w = addresses_served w.bridge.learned (tp_fdb_value c) (tp_fdb_served c)
all_served (column.TpPort c) w = ports_served 1 (port_count w.bridge) (tp_port_value c w.bridge) (tp_port_served c w.bridge)
all_served (column.Static c) w = statics_served w.bridge.statics.rows (static_value c w.bridge) (static_served c w.bridge)
all_served (column.Family c) w = families_served (in_index_order w.policy.vacm.families) (family_value c) (family_served c)

-- ---- names

root_under : (p index : List ℕ) → is_prefix (1 ∷ 3 ∷ []) p ≡ true → HasRoot (p ++ index)
root_under p index h =
    let begun = prefix_found (1 ∷ 3 ∷ []) p h in
    subst (λ q. HasRoot (q ++ index)) (sym begun.parts) (omega arith, λ low. omega arith)

-- ---- all instances

record IsServedBinding (b : Binding) : Type 0 where
  encodable : IsEncodableBinding b
  valued : IsInstanceValue b.value

served_under : (p : List ℕ) (shown : List IndexedValue) → is_prefix (1 ∷ 3 ∷ []) p ≡ true → AllByRecursion (λ s. IsServed s.value) shown → AllByRecursion IsServedBinding (map (under p) shown)
served_under p [] h k = tt
served_under p (s ∷ shown) h k = (
  record { encodable = record { name = root_under p s.index h; value = k.0.encodable }; valued = k.0.valued },
  served_under p shown h k.1,
)

served_append : (xs ys : List Binding) → AllByRecursion IsServedBinding xs → AllByRecursion IsServedBinding ys → AllByRecursion IsServedBinding (xs ++ ys)
served_append [] ys h k = k
served_append (x ∷ xs) ys h k = (h.0, served_append xs ys h.1 k)

instances_served : (rows : List ObjectRow) (w : World) → AreNamed rows → AllByRecursion IsServedBinding (instances rows w)
instances_served [] w h = subst (AllByRecursion IsServedBinding) (sym (instances-nil w)) tt
instances_served (row ∷ rows) w h =
    subst (AllByRecursion IsServedBinding) (sym (instances-cons row rows w))
    (served_append (instances_under row w) (instances rows w) (served_under row.prefix (shown_by row.column w) h.0.root (all_served row.column w)) (instances_served rows w h.1))

are_encodable : (xs : List Binding) → AllByRecursion IsServedBinding xs → AreEncodable xs
are_encodable [] h = tt
are_encodable (x ∷ xs) h = (h.0.encodable, are_encodable xs h.1)

are_valued : (xs : List Binding) → AllByRecursion IsServedBinding xs → AreValued xs
are_valued [] h = tt
are_valued (x ∷ xs) h = (h.0.valued, are_valued xs h.1)

pub instances_servable : (rows : List ObjectRow) (w : World) → first_fault rows ≡ None → AreNamed rows → IsKept w → IsServable (instances rows w)
instances_servable rows w e h k = record {
  rising = instances_rising rows w e k;
  encodable = are_encodable (instances rows w) (instances_served rows w h);
  valued = are_valued (instances rows w) (instances_served rows w h);
}
