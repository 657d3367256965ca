-- Each setting of the opening is in its range.
use Rattle.std.proofs.Common.{◌≡◌, ℕ, ◌-◌, ◌<◌, ◌≤◌, List, length, get_or, replicate, refl, sym, ap, subst, inl, inr, arith, lit≤}
use Rattle.rstp_settings.specs.declared.key.BridgeKey.TheVariants as bridge
use Rattle.rstp_settings.specs.declared.key.PortKey.{PortKey}
use Rattle.rstp_settings.specs.declared.key.PortKey.TheVariants as port
use Rattle.rstp_settings.specs.declared.key.Key.{Key}
use Rattle.rstp_settings.specs.declared.key.Key.TheVariants.{Bridge, Port}
use Rattle.rstp_settings.specs.declared.key.PortValues.{PortValues}
use Rattle.rstp_settings.specs.Values.{port_value, IsPortRange}
use Rattle.rstp_settings.specs.Table.{Table, no_values, HasKey, get, IsInRange, IsValid, opening, opening_port}
use Rattle.std.proofs.lemmas.List.{get_or-replicate, length-replicate}

in_range : (k : PortKey) → IsPortRange k (port_value opening_port k)
in_range port.Priority = (omega arith, omega arith, refl)
in_range port.Enable = (omega arith, omega arith)
in_range k = omega arith

pub IsValid-opening : (n : ℕ) → IsValid (opening n)
IsValid-opening n (Bridge bridge.Version) h = inr refl
IsValid-opening n (Bridge k) h = search arith
IsValid-opening n (Port m k) h = let there : m - 1 < n = omega (arith, h.0, h.1, length-replicate n opening_port) in rw get_or-replicate (in_range k)
