-- The values of the settings and their ranges: times in 1/100 s (RFC 4188, RFC 4318; IEEE
-- 802.1D-2004 17.14, 7.9.2).
use Rattle.std.specs.Prelude.{◌≡◌, ℕ, ◌+◌, ◌-◌, ◌%◌, ◌≤◌, ◌<◌, Bool, true, false, ◌&&◌, if◌then◌else◌, ◌==◌, ◌⊎◌}
use Rattle.rstp_settings.specs.declared.key.TheConstants.{MIN_AGING, MAX_AGING}
use Rattle.rstp_settings.specs.declared.key.BridgeKey.{BridgeKey}
use Rattle.rstp_settings.specs.declared.key.BridgeKey.TheVariants as bridge
use Rattle.rstp_settings.specs.declared.key.PortKey.{PortKey}
use Rattle.rstp_settings.specs.declared.key.PortKey.TheVariants as port
use Rattle.rstp_settings.specs.declared.key.BridgeValues.{BridgeValues}
use Rattle.rstp_settings.specs.declared.key.PortValues.{PortValues}

abbrev pub bridge_value : BridgeValues → BridgeKey → ℕ
bridge_value b bridge.Priority = b.priority
bridge_value b bridge.MaxAge = b.max_age
bridge_value b bridge.Hello = b.hello
bridge_value b bridge.ForwardDelay = b.forward_delay
bridge_value b bridge.Version = b.version
bridge_value b bridge.HoldCount = b.hold_count
bridge_value b bridge.Aging = b.aging

abbrev pub with_bridge_value : BridgeValues → BridgeKey → ℕ → BridgeValues
with_bridge_value b bridge.Priority v = record b { priority = v }
with_bridge_value b bridge.MaxAge v = record b { max_age = v }
with_bridge_value b bridge.Hello v = record b { hello = v }
with_bridge_value b bridge.ForwardDelay v = record b { forward_delay = v }
with_bridge_value b bridge.Version v = record b { version = v }
with_bridge_value b bridge.HoldCount v = record b { hold_count = v }
with_bridge_value b bridge.Aging v = record b { aging = v }

abbrev pub port_value : PortValues → PortKey → ℕ
port_value p port.Priority = p.priority
port_value p port.Enable = p.enable
port_value p port.Cost = p.cost
port_value p port.Migrate = p.migrate
port_value p port.Edge = p.edge
port_value p port.PointToPoint = p.point_to_point

abbrev pub with_port_value : PortValues → PortKey → ℕ → PortValues
with_port_value p port.Priority v = record p { priority = v }
with_port_value p port.Enable v = record p { enable = v }
with_port_value p port.Cost v = record p { cost = v }
with_port_value p port.Migrate v = record p { migrate = v }
with_port_value p port.Edge v = record p { edge = v }
with_port_value p port.PointToPoint v = record p { point_to_point = v }

-- the multiples of a step, from a least to a greatest
abbrev pub IsStep : ℕ → ℕ → ℕ → ℕ → Type 0
IsStep least most step v = (least ≤ v) × (v ≤ most) × (v % step ≡ 0)

abbrev pub IsBridgeRange : BridgeKey → ℕ → Type 0
IsBridgeRange bridge.Priority v = IsStep 0 61440 4096 v
IsBridgeRange bridge.MaxAge v = IsStep 600 4000 100 v
IsBridgeRange bridge.Hello v = IsStep 100 1000 100 v
IsBridgeRange bridge.ForwardDelay v = IsStep 400 3000 100 v
IsBridgeRange bridge.Version v = (v ≡ 0) ⊎ (v ≡ 2)
IsBridgeRange bridge.HoldCount v = (1 ≤ v) × (v ≤ 10)
IsBridgeRange bridge.Aging v = (MIN_AGING ≤ v) × (v ≤ MAX_AGING)

abbrev pub IsPortRange : PortKey → ℕ → Type 0
IsPortRange port.Priority v = IsStep 0 240 16 v
IsPortRange port.Enable v = (1 ≤ v) × (v ≤ 2)
IsPortRange port.Cost v = v ≤ 200000000
IsPortRange port.Migrate v = v ≤ 1
IsPortRange port.Edge v = (1 ≤ v) × (v ≤ 2)
IsPortRange port.PointToPoint v = v ≤ 2

abbrev pub same_bridge_key : BridgeKey → BridgeKey → Bool
same_bridge_key bridge.Priority bridge.Priority = true
same_bridge_key bridge.MaxAge bridge.MaxAge = true
same_bridge_key bridge.Hello bridge.Hello = true
same_bridge_key bridge.ForwardDelay bridge.ForwardDelay = true
same_bridge_key bridge.Version bridge.Version = true
same_bridge_key bridge.HoldCount bridge.HoldCount = true
same_bridge_key bridge.Aging bridge.Aging = true
same_bridge_key a b = false

abbrev pub same_port_key : PortKey → PortKey → Bool
same_port_key port.Priority port.Priority = true
same_port_key port.Enable port.Enable = true
same_port_key port.Cost port.Cost = true
same_port_key port.Migrate port.Migrate = true
same_port_key port.Edge port.Edge = true
same_port_key port.PointToPoint port.PointToPoint = true
same_port_key a b = false
