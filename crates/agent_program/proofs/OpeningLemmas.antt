-- Each configuration opens a bridge.
use Rattle.std.proofs.Common.{◌≡◌, ℕ, true, false, ◌==◌, nat_lt, List, length, None, refl, ◌∙◌, arith}
use Rattle.std.specs.List.{list_all}
use Rattle.std.proofs.lemmas.Bool.{ne_eqb, le-ltb}
use Rattle.std.proofs.lemmas.List.{length-map}
use Rattle.std.proofs.lemmas.List.Folds.{list_all-map}
use Rattle.rstp_settings.specs.declared.settings.TheConstants.{MAX_PORTS}
use Rattle.rstp_settings.specs.Config.{is_speed}
use Rattle.bridge_core.specs.Opening.{fault_of}
use Rattle.configuration.specs.declared.configuration.Configuration.{Configuration}
use Rattle.configuration.specs.Bounds.{IsWithinBounds}
use Rattle.configuration.specs.Configurations.{IsConfigurationIn}
use Rattle.configuration.proofs.BoundLemmas.{within_bounds}
use Rattle.agent_program.specs.Agents.{configs_of}

pub in_bounds : (octets : List ℕ) (c : Configuration) → IsConfigurationIn octets c → IsWithinBounds c
in_bounds octets c stated = within_bounds stated.2.0 c stated.2.2

-- nothing is wrong with the address and the ports of a configuration
pub no_fault : (c : Configuration) → IsWithinBounds c → fault_of c.address (configs_of c.ports.items) ≡ None
no_fault c bounds =
    let ports = c.ports.items in
    let many : length (configs_of ports) ≡ length ports = length-map ports (λ port. port.config) in
    let some : (length ports == 0) ≡ false = ne_eqb (length ports) 0 (λ e. absurd (omega (arith, bounds.least))) in
    let few : nat_lt MAX_PORTS (length ports) ≡ false = le-ltb MAX_PORTS (length ports) bounds.most in
    let fast : list_all (λ p. is_speed p.speed) (configs_of ports) ≡ true = list_all-map (λ p. is_speed p.speed) (λ port. port.config) ports ∙ bounds.speeds in
    rw (many, some, few, bounds.station, fast) refl
