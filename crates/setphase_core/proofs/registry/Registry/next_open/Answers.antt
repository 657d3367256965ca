use Rattle.std.proofs.Common.{List, map, IsTrue, Ok, ◌∙◌, ap, subst}
use Rattle.setphase_core.specs.Objects.{ObjectState}
use Rattle.setphase_core.specs.Registry.{rows_of, prefixes_of}
use Rattle.setphase_core.specs.Searching.{IsPlace}
use Rattle.setphase_core.specs.Walking.{instance_at}
use Rattle.setphase_core.proofs.registry.Registry.next_open.Goals as goal

pub returns-clause-place : goal.returns-clause-place
returns-clause-place g c =
    subst (λ (states : List ObjectState). IsTrue c.find_spot.result → IsPlace (prefixes_of (rows_of states)) (instance_at (rows_of states) c.args.world.now c.find_spot.new.spot).name (Ok c.find_spot.new.spot.place))
    (ap (map g.O.MibObject.state) c.as_slice-objects.ensures.value ∙ c.self.view_is) c.find_spot.ensures.place
