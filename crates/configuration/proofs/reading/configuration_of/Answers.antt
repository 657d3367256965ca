use Rattle.std.proofs.Common.{rules, ◌≡◌, ◌≢◌}
use Rattle.std.proofs.lemmas.Result.{err_from_is_err_and}
use Rattle.toml.specs.View.{table_view}
use Rattle.configuration.specs.declared.fault.ConfigurationFault.TheVariants.{Memory}
use Rattle.policy_text.specs.Policies.{TakesMemory as PolicyTakesMemory}
use Rattle.configuration.specs.Configurations.{policy_members, HasAddress, HasPorts, HasServing, IsRestFault}
use Rattle.configuration.proofs.PolicyFaults.{rest_fault}
use Rattle.configuration.proofs.reading.configuration_of.Goals as goal

pub returns-in_err-policy-clause-fault : goal.returns-in_err-policy-clause-fault
returns-in_err-policy-clause-fault c =
    let ms = table_view c.args.table in
    let e = c.in_err-policy.field-0.0 in
    let address : HasAddress ms = (c.in_ok-address.address, search rules) in
    let ports : HasPorts ms = (c.in_ok-ports.ports.items, c.in_ok-ports.ensures.ports) in
    let serving : HasServing ms = (c.in_ok-serve.serve, c.in_ok-serve.ensures.serve) in
    let fault : e ≢ Memory → IsRestFault (policy_members ms) e = rw (← c.policy_table.ensures) c.in_err-policy.ensures.fault in
    let p = err_from_is_err_and c.from_residual-in_err-policy.result c.from_residual-in_err-policy.ensures.1 in
    rw (p.1, p.2) (λ other. rest_fault ms e address ports serving (fault other))

pub returns-in_err-policy-clause-memory : goal.returns-in_err-policy-clause-memory
returns-in_err-policy-clause-memory c =
    let ms = table_view c.args.table in
    let e = c.in_err-policy.field-0.0 in
    let address : HasAddress ms = (c.in_ok-address.address, search rules) in
    let ports : HasPorts ms = (c.in_ok-ports.ports.items, c.in_ok-ports.ensures.ports) in
    let serving : HasServing ms = (c.in_ok-serve.serve, c.in_ok-serve.ensures.serve) in
    let taken : e ≡ Memory → PolicyTakesMemory (policy_members ms) = rw (← c.policy_table.ensures) c.in_err-policy.ensures.memory in
    let p = err_from_is_err_and c.from_residual-in_err-policy.result c.from_residual-in_err-policy.ensures.1 in
    rw (p.1, p.2) (λ is. record { address = address; ports = ports; serve = serving; policy = taken is })
