use Rattle.std.proofs.Common.{◌≡◌, ◌<◌, ◌≤◌, ◌++◌, ℕ, List, length, sym, subst, arith, length-append}
use Rattle.std.specs.Prelude.{IfOk}
use Rattle.std.proofs.lemmas.Result.{on_err_weaker}
use Rattle.oid_core.specs.declared.limits.TheConstants.{INLINE_NUMBERS, MAX_NUMBERS}
use Rattle.setphase_core.proofs.Places.{named_there, prefix_there}
use Rattle.setphase_core.proofs.spots.name_there.Goals as goal

pub name_under-requires-clause-named : goal.name_under-requires-clause-named
name_under-requires-clause-named g c = named_there g.O.MibObject.state c.args.objects.now c.args.spot.now.place c.index-objects-spot.result c.requires.named c.requires.within c.index-objects-spot.is

pub name_under-requires-clause-fits : goal.name_under-requires-clause-fits
name_under-requires-clause-fits g c =
    let there = prefix_there g.O.MibObject.state c.args.objects.now c.args.spot.now.place c.index-objects-spot.result c.requires.within c.index-objects-spot.is in
    let prefix : List ℕ = (g.O.MibObject.state c.index-objects-spot.result).row.prefix in
    let fits : length (prefix ++ c.args.spot.now.index.items) ≤ MAX_NUMBERS = subst (λ (p : List ℕ). length (p ++ c.args.spot.now.index.items) ≤ MAX_NUMBERS) there c.requires.fits in
    omega (arith, fits, length-append prefix c.args.spot.now.index.items)

pub returns-clause-name : goal.returns-clause-name
returns-clause-name g c =
    let there = prefix_there g.O.MibObject.state c.args.objects.now c.args.spot.now.place c.index-objects-spot.result c.requires.within c.index-objects-spot.is in
    subst (λ (p : List ℕ). IfOk c.name_under.result (λ name. name ≡ p ++ c.args.spot.now.index.items)) (sym there) c.name_under.ensures.name

pub returns-clause-inline : goal.returns-clause-inline
returns-clause-inline g c =
    let there = prefix_there g.O.MibObject.state c.args.objects.now c.args.spot.now.place c.index-objects-spot.result c.requires.within c.index-objects-spot.is in
    let prefix : List ℕ = (g.O.MibObject.state c.index-objects-spot.result).row.prefix in
    on_err_weaker c.name_under.result
    (λ long. subst (λ (p : List ℕ). INLINE_NUMBERS < length (p ++ c.args.spot.now.index.items)) (sym there) (omega (arith, long, length-append prefix c.args.spot.now.index.items)))
    c.name_under.ensures.inline
