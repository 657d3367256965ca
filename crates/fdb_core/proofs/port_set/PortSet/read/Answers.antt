use Rattle.std.proofs.Common.{Bool, List, sym, subst, ap, false, rules}
use Rattle.std.proofs.lemmas.List.FromFn.{fill_by_all}
use Rattle.fdb_core.specs.declared.port_set.PortSet.{PortSet}
use Rattle.fdb_core.specs.PortSets.{has_bit_at, IsOfPorts}
use Rattle.fdb_core.proofs.PortSets.{read_of_ports}
use Rattle.fdb_core.proofs.port_set.PortSet.read.Goals as goal

pub returns-clause-ports : goal.returns-clause-ports
returns-clause-ports c =
    let of : List Bool → PortSet = λ ports. record { 0 = ports } in
    ap of (fill_by_all (has_bit_at c.args.octets.now) c.loop-i.ports 32 false c.loop-i.invariant.size (search rules))

pub returns-clause-of_ports : goal.returns-clause-of_ports
returns-clause-of_ports c = λ count none.
    let of : List Bool → PortSet = λ ports. record { 0 = ports } in
    let ports = ap of (fill_by_all (has_bit_at c.args.octets.now) c.loop-i.ports 32 false c.loop-i.invariant.size (search rules)) in
    subst (IsOfPorts count) (sym ports) (read_of_ports c.args.octets.now count none)
