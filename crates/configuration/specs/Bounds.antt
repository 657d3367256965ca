-- The bounds within which each configuration stands.
use Rattle.std.specs.Prelude.{◌≡◌, ◌≤◌, true, false, length}
use Rattle.std.specs.List.{list_all}
use Rattle.frame_core.specs.Octets.{is_group}
use Rattle.rstp_settings.specs.declared.settings.TheConstants.{MAX_PORTS}
use Rattle.configuration.specs.declared.configuration.Configuration.{Configuration}
use Rattle.rstp_settings.specs.Config.{is_speed}

-- The address is no group address, and there are 1 to 32 ports, each of a speed that a port may
-- have.
pub record IsWithinBounds (c : Configuration) : Type 0 where
  pub station : is_group c.address ≡ false
  pub least : 1 ≤ length c.ports.items
  pub most : length c.ports.items ≤ MAX_PORTS
  pub speeds : list_all (λ port. is_speed port.config.speed) c.ports.items ≡ true
