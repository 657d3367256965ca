-- What holds of the fields of each spanning tree: a configuration and settled values for each port,
-- at most 32 of them.
use Rattle.std.specs.Prelude.{◌≡◌, ◌≤◌, List, length}
use Rattle.rstp_settings.specs.declared.settings.TheConstants.{MAX_PORTS}
use Rattle.rstp_settings.specs.declared.config.PortConfig.{PortConfig}
use Rattle.rstp_rules.specs.declared.port.Port.{Port}
use Rattle.rstp_core.specs.Settled.{SettledValues}

pub record IsTree (config : List PortConfig) (ports : List Port) (settled : SettledValues) : Type 0 where
  pub each : length config ≡ length ports
  pub few : length ports ≤ MAX_PORTS
  pub known : length settled.ports ≡ length ports
