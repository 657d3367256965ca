use Rattle.std.proofs.Common.{◌≡◌, ℕ, List, Some, map, length, sym, ap, subst, ◌∙◌, arith}
use Rattle.oid_core.specs.Order.{is_prefix}
use Rattle.message_core.specs.Instances.{value_of}
use Rattle.setphase_core.specs.Objects.{ObjectRow}
use Rattle.setphase_core.specs.Registry.{rows_of, prefixes_of, instances_under}
use Rattle.setphase_core.specs.Searching.{IsPlace, IsOwnerPlace}
use Rattle.setphase_core.proofs.Places.{prefixes_length, prefix_there, row_there}
use Rattle.setphase_core.proofs.Found as found
use Rattle.setphase_core.proofs.search.value_of_name.Goals as goal

pub value_under-requires : goal.value_under-requires
value_under-requires g c =
    let names : List (List ℕ) = prefixes_of (rows_of (map g.O.MibObject.state c.args.objects.now)) in
    let place : IsOwnerPlace names c.args.name.now (Some c.in-Ok.place) = subst (IsPlace names c.args.name.now) c.in-Ok.is c.requires in
    let count : length names ≡ length c.args.objects.now = prefixes_length g.O.MibObject.state c.args.objects.now in
    ap (λ p. is_prefix p c.args.name.now) (sym (prefix_there g.O.MibObject.state c.args.objects.now c.in-Ok.place c.index-objects-place.result (omega (arith, place.0, count)) c.index-objects-place.is)) ∙ place.1

pub returns-in-Ok : goal.returns-in-Ok
returns-in-Ok g c =
    let rows : List ObjectRow = rows_of (map g.O.MibObject.state c.args.objects.now) in
    let row : ObjectRow = (g.O.MibObject.state c.index-objects-place.result).row in
    let place : IsOwnerPlace (prefixes_of rows) c.args.name.now (Some c.in-Ok.place) = subst (IsPlace (prefixes_of rows) c.args.name.now) c.in-Ok.is c.requires in
    let count : length (prefixes_of rows) ≡ length c.args.objects.now = prefixes_length g.O.MibObject.state c.args.objects.now in
    c.value_under.ensures
    ∙ ap (λ (r : ObjectRow). value_of (instances_under r c.args.world.now) c.args.name.now) (sym (row_there g.O.MibObject.state c.args.objects.now c.in-Ok.place c.index-objects-place.result row (omega (arith, place.0, count)) c.index-objects-place.is))
    ∙ sym (found.value_there rows c.args.world.now c.args.name.now c.in-Ok.place row place)

pub returns-in-Err : goal.returns-in-Err
returns-in-Err g c =
    let rows : List ObjectRow = rows_of (map g.O.MibObject.state c.args.objects.now) in
    let place = subst (IsPlace (prefixes_of rows) c.args.name.now) c.in-Err.is c.requires in
    sym (found.value_nowhere rows c.args.world.now c.args.name.now place.0)
