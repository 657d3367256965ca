-- `==` of keys and of values is their sameness.
use Rattle.std.proofs.Common.{◌≡◌, ◌∙◌, ℕ, ◌-◌, Bool, true, false, refl, sym, ap, ap₂, List, [], ◌∷◌, ◌++◌, length, take, replicate, rules}
use Rattle.std.specs.Prelude.{◌&&◌}
use Rattle.std.specs.Bool.{Decides}
use Rattle.std.specs.Cmp.{unsigned_Decides, booleans_Decides}
use Rattle.std.proofs.lemmas.Slice.Eq.{slice_eq-Decides}
use Rattle.fdb_core.specs.declared.port_set.PortSet.{PortSet}
use Rattle.fdb_core.specs.declared.static_row.StaticIndex.{StaticIndex}
use Rattle.fdb_core.specs.contracts.port_set.PortSetPartialEq.TheImpl as sets
use Rattle.fdb_core.specs.contracts.static_row.StaticIndexPartialEq.TheImpl as indexes
use Rattle.vacm_core.specs.contracts.name.MaskPartialEq.TheImpl as masks
use Rattle.vacm_core.specs.declared.limits.TheConstants.{MAX_MASK}
use Rattle.vacm_core.specs.Masks.{with_zeros}
use Rattle.rstp_settings.specs.declared.key.Key.{Key}
use Rattle.rstp_settings.specs.declared.key.Key.TheVariants as key
use Rattle.rstp_settings.specs.declared.key.BridgeKey.{BridgeKey}
use Rattle.rstp_settings.specs.declared.key.PortKey.{PortKey}
use Rattle.rstp_settings.specs.contracts.key.KeyPartialEq.TheImpl as keys
use Rattle.rstp_settings.specs.contracts.key.BridgeKeyPartialEq.TheImpl as bridge_keys
use Rattle.rstp_settings.specs.contracts.key.PortKeyPartialEq.TheImpl as port_keys
use Rattle.setting_keys.specs.declared.SettingKey.{SettingKey}
use Rattle.setting_keys.specs.declared.SettingKey.TheVariants.{Bridge, Made, Allowed, FamilyMask, FamilyType}
use Rattle.setting_keys.specs.declared.SettingValue.{SettingValue}
use Rattle.setting_keys.specs.declared.SettingValue.TheVariants.{Number, Ports, Mask}
use Rattle.setting_keys.specs.contracts.SettingKeyPartialEq.TheImpl as setting_keys
use Rattle.setting_keys.specs.contracts.SettingValuePartialEq.TheImpl as setting_values
use Rattle.setphase_core.specs.Settings.{same_setting, same_value}
use Rattle.setphase_core.proofs.Firsts.{value-Decides}
use Rattle.setphase_core.proofs.Puts.{same-exact}

both : (r s : Bool) {P Q : Type 0} → Decides r P → Decides s Q → Decides (r && s) (P × Q)
both true true h k = ((λ e. (h.0 refl, k.0 refl)), λ p. refl)
both true false h k = ((λ e. cc), λ p. k.1 p.1)
both false s h k = ((λ e. cc), λ p. h.1 p.0)

amounts : (r : Bool) {P Q : Type 0} → Decides r P → (P → Q) → (Q → P) → Decides r Q
amounts r h to from = ((λ e. to (h.0 e)), λ q. h.1 (from q))

-- Two tests of one thing are equal.
alike : (r s : Bool) {P : Type 0} → Decides r P → Decides s P → r ≡ s
alike true true h k = refl
alike true false h k = sym (k.1 (h.0 refl))
alike false true h k = h.1 (k.0 refl)
alike false false h k = refl

index_decides : (i j : StaticIndex) → Decides (indexes.eq-value.it i j) (i ≡ j)
index_decides i j = search rules

set_decides : (s t : PortSet) → Decides (sets.eq-value.it s t) (s ≡ t)
set_decides s t =
    let of : List Bool → PortSet = λ ports. record { 0 = ports } in
    amounts _ (slice_eq-Decides booleans_Decides s.0 t.0 _ refl) (ap of) (ap (λ (x : PortSet). x.0))

bridge_key_decides : (a b : BridgeKey) → Decides (bridge_keys.eq-value.it a b) (a ≡ b)
bridge_key_decides a b = search rules

port_key_decides : (a b : PortKey) → Decides (port_keys.eq-value.it a b) (a ≡ b)
port_key_decides a b = search rules

key_decides : (a b : Key) → Decides (keys.eq-value.it a b) (a ≡ b)
key_decides (key.Bridge a) (key.Bridge b) = amounts _ (bridge_key_decides a b) (ap key.Bridge) (λ e. cc)
key_decides (key.Bridge a) (key.Port m b) = ((λ e. cc), λ e. cc)
key_decides (key.Port n a) (key.Bridge b) = ((λ e. cc), λ e. cc)
key_decides (key.Port n a) (key.Port m b) =
    amounts _ (both _ _ (unsigned_Decides n m) (port_key_decides a b)) (λ p. ap₂ key.Port p.0 p.1) (λ e. (cc, cc))

front_of : (xs ys : List ℕ) → take (length xs) (xs ++ ys) ≡ xs
front_of [] ys = refl
front_of (x ∷ xs) ys = ap (λ (zs : List ℕ). x ∷ zs) (front_of xs ys)

-- Masks are kept with zeros behind them, and with their lengths.
octets_of : (a b : List ℕ) → with_zeros a ≡ with_zeros b → length a ≡ length b → a ≡ b
octets_of a b same long =
    sym (front_of a (replicate (MAX_MASK - length a) 0))
    ∙ ap₂ (λ (n : ℕ) (l : List ℕ). take n l) long same
    ∙ front_of b (replicate (MAX_MASK - length b) 0)

mask_decides : (a b : List ℕ) → Decides (masks.eq-value.it a b) (a ≡ b)
mask_decides a b =
    amounts _ (both _ _ (slice_eq-Decides unsigned_Decides (with_zeros a) (with_zeros b) _ refl) (unsigned_Decides (length a) (length b)))
    (λ h. octets_of a b h.0 h.1) (λ e. (ap with_zeros e, ap length e))

setting_decides : (k l : SettingKey) → Decides (setting_keys.eq-value.it k l) (k ≡ l)
setting_decides (Bridge a) (Bridge b) = amounts _ (key_decides a b) (ap Bridge) (λ e. cc)
setting_decides (Bridge a) (Made b) = ((λ e. cc), λ e. cc)
setting_decides (Bridge a) (Allowed b) = ((λ e. cc), λ e. cc)
setting_decides (Bridge a) (FamilyMask b) = ((λ e. cc), λ e. cc)
setting_decides (Bridge a) (FamilyType b) = ((λ e. cc), λ e. cc)
setting_decides (Made a) (Bridge b) = ((λ e. cc), λ e. cc)
setting_decides (Made a) (Made b) = amounts _ (index_decides a b) (ap Made) (λ e. cc)
setting_decides (Made a) (Allowed b) = ((λ e. cc), λ e. cc)
setting_decides (Made a) (FamilyMask b) = ((λ e. cc), λ e. cc)
setting_decides (Made a) (FamilyType b) = ((λ e. cc), λ e. cc)
setting_decides (Allowed a) (Bridge b) = ((λ e. cc), λ e. cc)
setting_decides (Allowed a) (Made b) = ((λ e. cc), λ e. cc)
setting_decides (Allowed a) (Allowed b) = amounts _ (index_decides a b) (ap Allowed) (λ e. cc)
setting_decides (Allowed a) (FamilyMask b) = ((λ e. cc), λ e. cc)
setting_decides (Allowed a) (FamilyType b) = ((λ e. cc), λ e. cc)
setting_decides (FamilyMask a) (Bridge b) = ((λ e. cc), λ e. cc)
setting_decides (FamilyMask a) (Made b) = ((λ e. cc), λ e. cc)
setting_decides (FamilyMask a) (Allowed b) = ((λ e. cc), λ e. cc)
setting_decides (FamilyMask a) (FamilyMask b) = amounts _ (unsigned_Decides a b) (ap FamilyMask) (λ e. cc)
setting_decides (FamilyMask a) (FamilyType b) = ((λ e. cc), λ e. cc)
setting_decides (FamilyType a) (Bridge b) = ((λ e. cc), λ e. cc)
setting_decides (FamilyType a) (Made b) = ((λ e. cc), λ e. cc)
setting_decides (FamilyType a) (Allowed b) = ((λ e. cc), λ e. cc)
setting_decides (FamilyType a) (FamilyMask b) = ((λ e. cc), λ e. cc)
setting_decides (FamilyType a) (FamilyType b) = amounts _ (unsigned_Decides a b) (ap FamilyType) (λ e. cc)

setting_value_decides : (u v : SettingValue) → Decides (setting_values.eq-value.it u v) (u ≡ v)
setting_value_decides (Number a) (Number b) = amounts _ (unsigned_Decides a b) (ap Number) (λ e. cc)
setting_value_decides (Number a) (Ports b) = ((λ e. cc), λ e. cc)
setting_value_decides (Number a) (Mask b) = ((λ e. cc), λ e. cc)
setting_value_decides (Ports a) (Number b) = ((λ e. cc), λ e. cc)
setting_value_decides (Ports a) (Ports b) = amounts _ (set_decides a b) (ap Ports) (λ e. cc)
setting_value_decides (Ports a) (Mask b) = ((λ e. cc), λ e. cc)
setting_value_decides (Mask a) (Number b) = ((λ e. cc), λ e. cc)
setting_value_decides (Mask a) (Ports b) = ((λ e. cc), λ e. cc)
setting_value_decides (Mask a) (Mask b) = amounts _ (mask_decides a b) (ap Mask) (λ e. cc)

pub key_equal : (k l : SettingKey) → setting_keys.eq-value.it k l ≡ same_setting k l
key_equal k l = alike _ _ (setting_decides k l) (same-exact k l)

pub value_equal : (u v : SettingValue) → setting_values.eq-value.it u v ≡ same_value u v
value_equal u v = alike _ _ (setting_value_decides u v) (value-Decides u v)
