-- Each setting is at most the greatest one.
use Rattle.std.proofs.Common.{ℕ, ◌≤◌, arith, inl, inr}
use Rattle.rstp_settings.specs.Table.{IsInRange}
use Rattle.rstp_settings.specs.Values.{IsBridgeRange, IsPortRange}
use Rattle.rstp_settings.specs.declared.key.Key.{Key}
use Rattle.rstp_settings.specs.declared.key.Key.TheVariants as key
use Rattle.rstp_settings.specs.declared.key.BridgeKey.{BridgeKey}
use Rattle.rstp_settings.specs.declared.key.BridgeKey.TheVariants as bridge
use Rattle.rstp_settings.specs.declared.key.PortKey.{PortKey}
use Rattle.rstp_settings.specs.declared.key.PortKey.TheVariants as port
use Rattle.bridge_core.specs.declared.bridge.TheConstants.{MAX_SETTING}

bridge_most : (k : BridgeKey) (v : ℕ) → IsBridgeRange k v → v ≤ MAX_SETTING
bridge_most bridge.Priority v h = omega (arith, h.1)
bridge_most bridge.MaxAge v h = omega (arith, h.1)
bridge_most bridge.Hello v h = omega (arith, h.1)
bridge_most bridge.ForwardDelay v h = omega (arith, h.1)
bridge_most bridge.Version v (inl e) = omega (arith, e)
bridge_most bridge.Version v (inr e) = omega (arith, e)
bridge_most bridge.HoldCount v h = omega (arith, h.1)
bridge_most bridge.Aging v h = omega (arith, h.1)

port_most : (k : PortKey) (v : ℕ) → IsPortRange k v → v ≤ MAX_SETTING
port_most port.Priority v h = omega (arith, h.1)
port_most port.Enable v h = omega (arith, h.1)
port_most port.Cost v h = omega (arith, h)
port_most port.Migrate v h = omega (arith, h)
port_most port.Edge v h = omega (arith, h.1)
port_most port.PointToPoint v h = omega (arith, h)

pub setting_most : (k : Key) (v : ℕ) → IsInRange k v → v ≤ MAX_SETTING
setting_most (key.Bridge k) v h = bridge_most k v h
setting_most (key.Port n k) v h = port_most k v h
