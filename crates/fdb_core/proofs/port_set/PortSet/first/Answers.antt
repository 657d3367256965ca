use Rattle.std.proofs.Common.{Bool, List, ap, false, rules}
use Rattle.std.specs.Prelude.{nat_lt}
use Rattle.std.proofs.lemmas.List.FromFn.{fill_by_all}
use Rattle.fdb_core.specs.declared.port_set.PortSet.{PortSet}
use Rattle.fdb_core.proofs.port_set.PortSet.first.Goals as goal

pub returns : goal.returns
returns c =
    let of : List Bool → PortSet = λ ports. record { 0 = ports } in
    ap of (fill_by_all (λ k. nat_lt k c.args.count) c.loop-i.ports 32 false c.loop-i.invariant.size (search rules))
