use Rattle.setphase_core.specs.Objects.{ObjectRow}
use Rattle.setphase_core.proofs.Next.{name_before}
use Rattle.setphase_core.proofs.passing.index_ahead.Goals as goal

pub returns-clause-found : goal.returns-clause-found
returns-clause-found g c =
    let row : ObjectRow = (g.O.MibObject.state c.args.object.now).row in
    name_before row c.args.world.now c.args._name.now c.next_into.new.into.items c.next_into.result c.requires.apart c.requires.ahead c.next_into.ensures.found
