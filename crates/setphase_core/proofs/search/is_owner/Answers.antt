use Rattle.std.proofs.Common.{◌≡◌, ℕ, List, map, length, sym, ap, ◌∙◌, arith}
use Rattle.oid_core.specs.Order.{is_prefix}
use Rattle.setphase_core.specs.Registry.{rows_of, prefixes_of}
use Rattle.setphase_core.proofs.Ordered.{ordered_from}
use Rattle.setphase_core.proofs.Places.{prefixes_length, prefix_there}
use Rattle.setphase_core.proofs.Searches.{owner_found}
use Rattle.setphase_core.proofs.search.is_owner.Goals as goal

pub returns : goal.returns
returns g c = λ h.
    let names : List (List ℕ) = prefixes_of (rows_of (map g.O.MibObject.state c.args.objects.now)) in
    let count : length names ≡ length c.args.objects.now = prefixes_length g.O.MibObject.state c.args.objects.now in
    let there = prefix_there g.O.MibObject.state c.args.objects.now c.args.place c.index-objects-place.result c.requires.within c.index-objects-place.is in
    owner_found names c.args.name.now c.args.place (ordered_from _ c.requires.ordered) (omega (arith, c.requires.within, count))
    (ap (λ p. is_prefix p c.args.name.now) (there ∙ sym c.prefix-prefix.ensures) ∙ sym c.begins.ensures.test ∙ h)
