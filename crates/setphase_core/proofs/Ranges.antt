-- What a test lets pass is a setting that there is, and a value that it may have.
use Rattle.std.proofs.Common.{◌≡◌, ℕ, zero, suc, ◌<◌, ◌≤◌, ◌%◌, subst, refl, Bool, true, false, cond, nat_le, List, [], ◌∷◌, length, Option, Some, None, IfSome, Ok, Err, nat_lt, arith, position, ◌⊎◌, inl, inr, ◌==◌, ◌&&◌, pos, negsuc}
use Rattle.std.specs.Option.{option_map}
use Rattle.std.specs.List.{position_or_len}
use Rattle.std.proofs.lemmas.Bool.Decides.{nat_tests}
use Rattle.oid_core.specs.Order.{name_eq}
use Rattle.message_core.specs.declared.value.Value.{Value}
use Rattle.message_core.specs.declared.value.Value.TheVariants as value
use Rattle.rstp_settings.specs.Values.{IsBridgeRange, IsPortRange}
use Rattle.rstp_settings.specs.declared.key.BridgeKey.{BridgeKey}
use Rattle.rstp_settings.specs.declared.key.PortKey.{PortKey}
use Rattle.rstp_settings.specs.declared.key.Key.TheVariants as key
use Rattle.bridge_core.specs.Bridge.{port_count}
use Rattle.bridge_core.specs.Statics.{HasStatics}
use Rattle.bridge_core.specs.StaticIndexes.{IsStaticIndex}
use Rattle.fdb_core.specs.declared.static_row.StaticIndex.{StaticIndex}
use Rattle.fdb_core.specs.PortSets.{ports_in, has_other_port}
use Rattle.fdb_core.proofs.PortSets.{read_of_ports}
use Rattle.setting_keys.specs.declared.SettingKey.TheVariants as setting
use Rattle.setting_keys.specs.declared.SettingValue.TheVariants.{Number, Ports, Mask}
use Rattle.vacm_core.specs.FamilyIndex.{family_at, has_index}
use Rattle.vacm_core.specs.declared.tables.FamilyRow.{FamilyRow}
use Rattle.vacm_core.specs.declared.limits.TheConstants.{MAX_MASK}
use Rattle.setphase_core.specs.declared.world.World.{World}
use Rattle.setphase_core.specs.declared.object.Assignment.{Assignment}
use Rattle.setphase_core.specs.declared.object.SetFault.TheVariants.{WrongLength, WrongValue}
use Rattle.setphase_core.specs.declared.limits.TheConstants.{MAX_PORT_OCTETS}
use Rattle.setphase_core.specs.declared.writable.Target.{Target}
use Rattle.setphase_core.specs.declared.writable.Target.TheVariants as target
use Rattle.setphase_core.specs.declared.writable.IntegerTarget.{IntegerTarget}
use Rattle.setphase_core.specs.declared.writable.Writable.{Writable}
use Rattle.setphase_core.specs.declared.writable.Writable.TheVariants.{Integer as Integers, Ports as PortOctets, Mask as MaskOctets}
use Rattle.setphase_core.specs.declared.column.Stp.{Stp}
use Rattle.setphase_core.specs.declared.column.Stp.TheVariants as stp
use Rattle.setphase_core.specs.declared.column.StpPort.{StpPort}
use Rattle.setphase_core.specs.declared.column.StpPort.TheVariants as stp_port
use Rattle.setphase_core.specs.declared.column.Rapid.{Rapid}
use Rattle.setphase_core.specs.declared.column.Rapid.TheVariants as rapid
use Rattle.setphase_core.specs.declared.column.ExtPort.{ExtPort}
use Rattle.setphase_core.specs.declared.column.ExtPort.TheVariants as ext_port
use Rattle.setphase_core.specs.declared.column.Tp.{Tp}
use Rattle.setphase_core.specs.declared.column.Tp.TheVariants as tp
use Rattle.setphase_core.specs.declared.column.Static.{Static}
use Rattle.setphase_core.specs.declared.column.Static.TheVariants as static_column
use Rattle.setphase_core.specs.declared.column.Family.{Family}
use Rattle.setphase_core.specs.declared.column.Family.TheVariants as family
use Rattle.setphase_core.specs.declared.column.Column.{Column}
use Rattle.setphase_core.specs.declared.column.Column.TheVariants as column
use Rattle.setphase_core.specs.Staging.{IsLegal}
use Rattle.setphase_core.specs.Values.{port_index}
use Rattle.setphase_core.proofs.StaticIndexes.{named_is_index}
use Rattle.setphase_core.specs.Writing.{writable_of, takes, number_given, key_at, static_index, assignment_at, allowed_assignment, masked_assignment, assignment_by, assignment_of, stp_writable, stp_port_writable, rapid_writable, ext_port_writable, tp_writable, static_writable, family_writable}

-- What holds of every world whose bridge is one.
pub record IsSound (w : World) : Type 0 where
  pub even : port_count w.bridge ≡ length w.bridge.settings.ports
  pub statics : HasStatics w.bridge

-- A number that an object takes.
record Taken (x : IntegerTarget) (n : ℕ) : Type 0 where
  pub least : x.least ≤ n
  pub most : n ≤ x.most
  pub step : n % x.step ≡ 0

taken : (x : IntegerTarget) (n : ℕ) → takes x n ≡ true → Taken x n
taken x n e = record {
  least = grind (arith, nat_tests, e);
  most = grind (arith, nat_tests, e);
  step = grind (arith, nat_tests, e);
}

-- What the target's setting may have.
abbrev IsTargetRange : Target → ℕ → Type 0
IsTargetRange (target.Bridge k) v = IsBridgeRange k v
IsTargetRange (target.Port k) v = IsPortRange k v
IsTargetRange target.Made v = v ≤ 1
IsTargetRange target.FamilyType v = (1 ≤ v) × (v ≤ 2)

-- What each object that is written gives is in the range of its setting.
abbrev GivesRange : Option Writable → Type 0
GivesRange None = Unit {0}
GivesRange (Some (Integers x)) = (n : ℕ) → Taken x n → IsTargetRange x.target (number_given x.target n)
GivesRange (Some PortOctets) = Unit {0}
GivesRange (Some MaskOctets) = Unit {0}

two_or_none : (n : ℕ) → n ≤ 2 → n % 2 ≡ 0 → (n ≡ 0) ⊎ (n ≡ 2)
two_or_none zero h e = inl refl
two_or_none (suc zero) h e = absurd (cc)
two_or_none (suc (suc zero)) h e = inr refl
two_or_none (suc (suc (suc n))) h e = absurd (omega (arith, h))

asked : (b : Bool) → cond b 1 0 ≤ 1
asked true = omega arith
asked false = omega arith

stp_gives : (c : Stp) → GivesRange (stp_writable c)
stp_gives stp.ProtocolSpecification = tt
stp_gives stp.Priority = λ n t. (t.least, t.most, t.step)
stp_gives stp.TimeSinceTopologyChange = tt
stp_gives stp.TopChanges = tt
stp_gives stp.DesignatedRoot = tt
stp_gives stp.RootCost = tt
stp_gives stp.RootPort = tt
stp_gives stp.MaxAge = tt
stp_gives stp.HelloTime = tt
stp_gives stp.HoldTime = tt
stp_gives stp.ForwardDelay = tt
stp_gives stp.BridgeMaxAge = λ n t. (t.least, t.most, t.step)
stp_gives stp.BridgeHelloTime = λ n t. (t.least, t.most, t.step)
stp_gives stp.BridgeForwardDelay = λ n t. (t.least, t.most, t.step)

stp_port_gives : (c : StpPort) → GivesRange (stp_port_writable c)
stp_port_gives stp_port.Port = tt
stp_port_gives stp_port.Priority = λ n t. (t.least, t.most, t.step)
stp_port_gives stp_port.State = tt
stp_port_gives stp_port.Enable = λ n t. (t.least, t.most)
stp_port_gives stp_port.PathCost = λ n t. omega (arith, t.most)
stp_port_gives stp_port.DesignatedRoot = tt
stp_port_gives stp_port.DesignatedCost = tt
stp_port_gives stp_port.DesignatedBridge = tt
stp_port_gives stp_port.DesignatedPort = tt
stp_port_gives stp_port.ForwardTransitions = tt
stp_port_gives stp_port.PathCost32 = λ n t. t.most

rapid_gives : (c : Rapid) → GivesRange (rapid_writable c)
rapid_gives rapid.Version = λ n t. two_or_none n t.most t.step
rapid_gives rapid.TxHoldCount = λ n t. (t.least, t.most)

ext_port_gives : (c : ExtPort) → GivesRange (ext_port_writable c)
ext_port_gives ext_port.ProtocolMigration = λ n t. asked (n == 1)
ext_port_gives ext_port.AdminEdgePort = λ n t. (t.least, t.most)
ext_port_gives ext_port.OperEdgePort = tt
ext_port_gives ext_port.AdminPointToPoint = λ n t. t.most
ext_port_gives ext_port.OperPointToPoint = tt
ext_port_gives ext_port.AdminPathCost = λ n t. t.most

tp_gives : (c : Tp) → GivesRange (tp_writable c)
tp_gives tp.LearnedEntryDiscards = tt
tp_gives tp.AgingTime = λ n t. (t.least, t.most)

static_gives : (c : Static) → GivesRange (static_writable c)
static_gives static_column.Address = tt
static_gives static_column.ReceivePort = tt
static_gives static_column.AllowedToGoTo = tt
static_gives static_column.Status = λ n t. asked (n == 3)

family_gives : (c : Family) → GivesRange (family_writable c)
family_gives family.Mask = tt
family_gives family.Type = λ n t. (t.least, t.most)

gives : (c : Column) → GivesRange (writable_of c)
gives (column.Base c) = tt
gives (column.BasePort c) = tt
gives (column.Stp c) = stp_gives c
gives (column.StpPort c) = stp_port_gives c
gives (column.Rapid c) = rapid_gives c
gives (column.ExtPort c) = ext_port_gives c
gives (column.Tp c) = tp_gives c
gives (column.TpFdb c) = tt
gives (column.TpPort c) = tt
gives (column.Static c) = static_gives c
gives (column.Family c) = family_gives c

within : (n m : ℕ) → (nat_le 1 n && nat_le n m) ≡ true → n ≤ m
within n m is = grind (arith, nat_tests, is)

bridge_legal : (k : BridgeKey) (w : World) (b : Bool) (v : ℕ) (a : Assignment) → IsBridgeRange k v →
    assignment_at (cond b (Some (setting.Bridge (key.Bridge k))) None) v ≡ Ok a → IsLegal w a
bridge_legal k w true v a range e =
    let same : record { key = setting.Bridge (key.Bridge k); value = Number v } ≡ a = cc in
    subst (IsLegal w) same (record { key = tt; value = range })
bridge_legal k w false v a range e = absurd (cc)

port_legal : (k : PortKey) (w : World) (at : List ℕ) (v : ℕ) (a : Assignment) →
    port_count w.bridge ≡ length w.bridge.settings.ports → IsPortRange k v →
    assignment_at (option_map (λ n. setting.Bridge (key.Port n k)) (port_index (port_count w.bridge) at)) v ≡ Ok a →
    IsLegal w a
port_legal k w [] v a even range e = absurd (cc)
port_legal k w (n ∷ []) v a even range e = one (nat_le 1 n && nat_le n (port_count w.bridge)) refl e
  where
    most : (nat_le 1 n && nat_le n (port_count w.bridge)) ≡ true → n ≤ port_count w.bridge
    most is = within n (port_count w.bridge) is

    one : (b : Bool) → (nat_le 1 n && nat_le n (port_count w.bridge)) ≡ b →
        assignment_at (option_map (λ n. setting.Bridge (key.Port n k)) (cond b (Some n) None)) v ≡ Ok a → IsLegal w a
    one true is e =
        let same : record { key = setting.Bridge (key.Port n k); value = Number v } ≡ a = cc in
        subst (IsLegal w) same (record { key = (grind (arith, nat_tests, is), omega (arith, even, most is)); value = range })
    one false is e = absurd (cc)
port_legal k w (n ∷ m ∷ at) v a even range e = absurd (cc)

made_legal : (w : World) (o : Option StaticIndex) (v : ℕ) (a : Assignment) → HasStatics w.bridge →
    IfSome o (IsStaticIndex w.bridge) → v ≤ 1 → assignment_at (option_map setting.Made o) v ≡ Ok a → IsLegal w a
made_legal w None v a statics is range e = absurd (cc)
made_legal w (Some i) v a statics is range e =
    let same : record { key = setting.Made i; value = Number v } ≡ a = cc in
    subst (IsLegal w) same (record { key = record { index = is; rows = statics }; value = range })

-- The row of an index is one of them.
row_within : (has : FamilyRow → Bool) (rows : List FamilyRow) (n : ℕ) → position has rows ≡ Some n → n < length rows
row_within has rows n e = pick (nat_lt (position_or_len has rows) (length rows)) refl e
  where
    pick : (b : Bool) → nat_lt (position_or_len has rows) (length rows) ≡ b
        → cond b (Some (position_or_len has rows)) None ≡ Some n → n < length rows
    pick true is e =
        let one : position_or_len has rows ≡ n = cc in
        let below : position_or_len has rows < length rows = grind (arith, nat_tests, is) in
        omega (arith, one, below)
    pick false is e = absurd (cc)

type_legal : (w : World) (o : Option ℕ) (v : ℕ) (a : Assignment) → IfSome o (λ n. n < length w.policy.vacm.families)
    → (1 ≤ v) × (v ≤ 2) → assignment_at (option_map setting.FamilyType o) v ≡ Ok a → IsLegal w a
type_legal w None v a within range e = absurd (cc)
type_legal w (Some n) v a within range e =
    let same : record { key = setting.FamilyType n; value = Number v } ≡ a = cc in
    subst (IsLegal w) same (record { key = within; value = range })

found_within : (w : World) (at : List ℕ) (o : Option ℕ) → family_at w.policy.vacm.families at ≡ o
    → IfSome o (λ n. n < length w.policy.vacm.families)
found_within w at None e = tt
found_within w at (Some n) e = row_within (has_index at) w.policy.vacm.families n e

target_legal : (t : Target) (w : World) (at : List ℕ) (v : ℕ) (a : Assignment) →
    IsSound w → IsTargetRange t v → assignment_at (key_at t w at) v ≡ Ok a → IsLegal w a
target_legal (target.Bridge k) w at v a sound range e = bridge_legal k w (name_eq (0 ∷ []) at) v a range e
target_legal (target.Port k) w at v a sound range e = port_legal k w at v a sound.even range e
target_legal target.Made w at v a sound range e =
    made_legal w (static_index w.bridge at) v a sound.statics (named_is_index w.bridge at) range e
target_legal target.FamilyType w at v a sound range e =
    type_legal w (family_at w.policy.vacm.families at) v a (found_within w at _ refl) range e

integer_legal : (x : IntegerTarget) (w : World) (at : List ℕ) (n : ℕ) (a : Assignment) (b : Bool) →
    IsSound w → GivesRange (Some (Integers x)) → takes x n ≡ b →
    cond b (assignment_at (key_at x.target w at) (number_given x.target n)) (Err WrongValue) ≡ Ok a → IsLegal w a
integer_legal x w at n a true sound range is e =
    target_legal x.target w at (number_given x.target n) a sound (range n (taken x n is)) e
integer_legal x w at n a false sound range is e = absurd (cc)

allowed_legal : (w : World) (o : Option StaticIndex) (octets : List ℕ) (a : Assignment) → HasStatics w.bridge →
    IfSome o (IsStaticIndex w.bridge) → has_other_port (port_count w.bridge) octets ≡ false →
    allowed_assignment o octets ≡ Ok a → IsLegal w a
allowed_legal w None octets a statics is none e = absurd (cc)
allowed_legal w (Some i) octets a statics is none e =
    let same : record { key = setting.Allowed i; value = Ports (ports_in octets) } ≡ a = cc in
    subst (IsLegal w) same (record {
      key = record { index = is; rows = statics };
      value = read_of_ports octets (port_count w.bridge) none;
    })

ports_legal : (w : World) (at octets : List ℕ) (a : Assignment) (long other : Bool) → HasStatics w.bridge →
    has_other_port (port_count w.bridge) octets ≡ other →
    cond long (Err WrongLength) (cond other (Err WrongValue) (allowed_assignment (static_index w.bridge at) octets)) ≡ Ok a →
    IsLegal w a
ports_legal w at octets a true other statics is e = absurd (cc)
ports_legal w at octets a false true statics is e = absurd (cc)
ports_legal w at octets a false false statics is e =
    allowed_legal w (static_index w.bridge at) octets a statics (named_is_index w.bridge at) is e

masked_legal : (w : World) (o : Option ℕ) (octets : List ℕ) (a : Assignment) → IfSome o (λ n. n < length w.policy.vacm.families)
    → length octets ≤ MAX_MASK → masked_assignment o octets ≡ Ok a → IsLegal w a
masked_legal w None octets a within short e = absurd (cc)
masked_legal w (Some n) octets a within short e =
    let same : record { key = setting.FamilyMask n; value = Mask octets } ≡ a = cc in
    subst (IsLegal w) same (record { key = within; value = short })

mask_legal : (w : World) (at octets : List ℕ) (a : Assignment) (long : Bool) → nat_lt MAX_MASK (length octets) ≡ long
    → cond long (Err WrongLength) (masked_assignment (family_at w.policy.vacm.families at) octets) ≡ Ok a → IsLegal w a
mask_legal w at octets a true is e = absurd (cc)
mask_legal w at octets a false is e =
    masked_legal w (family_at w.policy.vacm.families at) octets a (found_within w at _ refl) (grind (arith, nat_tests, is)) e

by_legal : (x : Option Writable) (w : World) (at : List ℕ) (v : Value) (a : Assignment) →
    IsSound w → GivesRange x → assignment_by x w at v ≡ Ok a → IsLegal w a
by_legal None w at v a sound range e = absurd (cc)
by_legal (Some (Integers x)) w at (value.Integer (pos n)) a sound range e =
    integer_legal x w at n a (takes x n) sound range refl e
by_legal (Some (Integers x)) w at (value.Integer (negsuc n)) a sound range e = absurd (cc)
by_legal (Some (Integers x)) w at (value.OctetString v) a sound range e = absurd (cc)
by_legal (Some (Integers x)) w at value.Null a sound range e = absurd (cc)
by_legal (Some (Integers x)) w at (value.ObjectIdentifier v) a sound range e = absurd (cc)
by_legal (Some (Integers x)) w at (value.IpAddress v) a sound range e = absurd (cc)
by_legal (Some (Integers x)) w at (value.Counter32 v) a sound range e = absurd (cc)
by_legal (Some (Integers x)) w at (value.Gauge32 v) a sound range e = absurd (cc)
by_legal (Some (Integers x)) w at (value.TimeTicks v) a sound range e = absurd (cc)
by_legal (Some (Integers x)) w at (value.Opaque v) a sound range e = absurd (cc)
by_legal (Some (Integers x)) w at (value.Counter64 v) a sound range e = absurd (cc)
by_legal (Some (Integers x)) w at value.NoSuchObject a sound range e = absurd (cc)
by_legal (Some (Integers x)) w at value.NoSuchInstance a sound range e = absurd (cc)
by_legal (Some (Integers x)) w at value.EndOfMibView a sound range e = absurd (cc)
by_legal (Some PortOctets) w at (value.Integer v) a sound range e = absurd (cc)
by_legal (Some PortOctets) w at (value.OctetString octets) a sound range e =
    ports_legal w at octets a (nat_lt MAX_PORT_OCTETS (length octets)) (has_other_port (port_count w.bridge) octets) sound.statics refl e
by_legal (Some PortOctets) w at value.Null a sound range e = absurd (cc)
by_legal (Some PortOctets) w at (value.ObjectIdentifier v) a sound range e = absurd (cc)
by_legal (Some PortOctets) w at (value.IpAddress v) a sound range e = absurd (cc)
by_legal (Some PortOctets) w at (value.Counter32 v) a sound range e = absurd (cc)
by_legal (Some PortOctets) w at (value.Gauge32 v) a sound range e = absurd (cc)
by_legal (Some PortOctets) w at (value.TimeTicks v) a sound range e = absurd (cc)
by_legal (Some PortOctets) w at (value.Opaque v) a sound range e = absurd (cc)
by_legal (Some PortOctets) w at (value.Counter64 v) a sound range e = absurd (cc)
by_legal (Some PortOctets) w at value.NoSuchObject a sound range e = absurd (cc)
by_legal (Some PortOctets) w at value.NoSuchInstance a sound range e = absurd (cc)
by_legal (Some PortOctets) w at value.EndOfMibView a sound range e = absurd (cc)
by_legal (Some MaskOctets) w at (value.Integer v) a sound range e = absurd (cc)
by_legal (Some MaskOctets) w at (value.OctetString octets) a sound range e =
    mask_legal w at octets a (nat_lt MAX_MASK (length octets)) refl e
by_legal (Some MaskOctets) w at value.Null a sound range e = absurd (cc)
by_legal (Some MaskOctets) w at (value.ObjectIdentifier v) a sound range e = absurd (cc)
by_legal (Some MaskOctets) w at (value.IpAddress v) a sound range e = absurd (cc)
by_legal (Some MaskOctets) w at (value.Counter32 v) a sound range e = absurd (cc)
by_legal (Some MaskOctets) w at (value.Gauge32 v) a sound range e = absurd (cc)
by_legal (Some MaskOctets) w at (value.TimeTicks v) a sound range e = absurd (cc)
by_legal (Some MaskOctets) w at (value.Opaque v) a sound range e = absurd (cc)
by_legal (Some MaskOctets) w at (value.Counter64 v) a sound range e = absurd (cc)
by_legal (Some MaskOctets) w at value.NoSuchObject a sound range e = absurd (cc)
by_legal (Some MaskOctets) w at value.NoSuchInstance a sound range e = absurd (cc)
by_legal (Some MaskOctets) w at value.EndOfMibView a sound range e = absurd (cc)

-- What a variable of a column writes, a world can take.
pub legal : (c : Column) (w : World) (at : List ℕ) (v : Value) (a : Assignment) →
    IsSound w → assignment_of c w at v ≡ Ok a → IsLegal w a
legal c w at v a sound e = by_legal (writable_of c) w at v a sound (gives c) e
