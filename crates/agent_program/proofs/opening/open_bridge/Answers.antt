use Rattle.std.proofs.Common.{◌≡◌, None, ap, ◌∙◌}
use Rattle.bridge_core.specs.Opening.{fault_of}
use Rattle.agent_program.specs.Agents.{configs_of}
use Rattle.agent_program.proofs.OpeningLemmas.{no_fault}
use Rattle.agent_program.proofs.opening.open_bridge.Goals as goal

pub unreachable-requires : goal.unreachable-requires
unreachable-requires c =
    let ports = c.as_slice-2.ensures.value ∙ c.port_configs-ports.ensures ∙ ap configs_of c.as_slice.ensures.value in
    let right : fault_of c.args.configuration.now.address c.as_slice-2.result.now ≡ None = rw ports (no_fault c.args.configuration.now c.requires) in
    let opened = c.new.ensures.opened right in
    let failed = c.in-Err.is in
    cc
