use Rattle.std.proofs.Common.{◌≡◌, ℕ, List, Some, map, length, sym, ap, subst, ◌∙◌, arith}
use Rattle.setphase_core.specs.Registry.{rows_of, prefixes_of}
use Rattle.setphase_core.specs.Searching.{IsPlace, IsOwnerPlace}
use Rattle.setphase_core.proofs.Places.{prefixes_length, prefix_there}
use Rattle.setphase_core.proofs.Searches.{owner_none, owner_some}
use Rattle.setphase_core.proofs.search.owner_name.Goals as goal

pub returns-in-Err : goal.returns-in-Err
returns-in-Err g c =
    let names : List (List ℕ) = prefixes_of (rows_of (map g.O.MibObject.state c.args.objects.now)) in
    let place = subst (IsPlace names c.args.name.now) c.in-Err.is c.requires in
    sym (owner_none names c.args.name.now place.0)

pub returns-in-Ok : goal.returns-in-Ok
returns-in-Ok g c =
    let names : List (List ℕ) = prefixes_of (rows_of (map g.O.MibObject.state c.args.objects.now)) in
    let place : IsOwnerPlace names c.args.name.now (Some c.in-Ok.place) = subst (IsPlace names c.args.name.now) c.in-Ok.is c.requires in
    let count : length names ≡ length c.args.objects.now = prefixes_length g.O.MibObject.state c.args.objects.now in
    ap Some (c.prefix.ensures ∙ sym (prefix_there g.O.MibObject.state c.args.objects.now c.in-Ok.place c.index-objects-place.result (omega (arith, place.0, count)) c.index-objects-place.is))
    ∙ sym (owner_some names c.args.name.now c.in-Ok.place place)
