use Rattle.std.proofs.Common.{◌∙◌, ap, sym, subst, map, length, arith, Option, IsSome, ◌<◌}
use Rattle.std.specs.Prelude.{unwrap_or}
use Rattle.message_core.specs.declared.value.Value.{Value}
use Rattle.message_core.specs.declared.value.Value.TheVariants.{NoSuchInstance}
use Rattle.setphase_core.specs.Objects.{ObjectRow}
use Rattle.setphase_core.specs.Registry.{rows_of}
use Rattle.setphase_core.proofs.Places.{row_there, rows_count}
use Rattle.setphase_core.proofs.AtSpots.{value_by}
use Rattle.setphase_core.proofs.spots.value_there_into.Goals as goal

pub value_under_into-requires : goal.value_under_into-requires
value_under_into-requires g c =
    let rows = rows_of (map g.O.MibObject.state c.args.objects.now) in
    let row : ObjectRow = (g.O.MibObject.state c.index-objects-spot.result).row in
    let within : c.args.spot.now.place < length c.args.objects.now = omega (arith, c.requires.within, rows_count g.O.MibObject.state c.args.objects.now) in
    let at = row_there g.O.MibObject.state c.args.objects.now c.args.spot.now.place c.index-objects-spot.result row within c.index-objects-spot.is in
    subst (λ (o : Option Value). IsSome o) (value_by rows c.args.world.now c.args.spot.now row c.requires.within at) c.requires.value

pub returns : goal.returns
returns g c =
    let rows = rows_of (map g.O.MibObject.state c.args.objects.now) in
    let row : ObjectRow = (g.O.MibObject.state c.index-objects-spot.result).row in
    let within : c.args.spot.now.place < length c.args.objects.now = omega (arith, c.requires.within, rows_count g.O.MibObject.state c.args.objects.now) in
    let at = row_there g.O.MibObject.state c.args.objects.now c.args.spot.now.place c.index-objects-spot.result row within c.index-objects-spot.is in
    ap (λ (o : Option Value). unwrap_or o NoSuchInstance) (c.value_under_into.ensures ∙ sym (value_by rows c.args.world.now c.args.spot.now row c.requires.within at))
