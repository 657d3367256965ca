use Rattle.std.proofs.Common.{ap, ◌∙◌, length, drop, Some, List, ℕ, arith}
use Rattle.setphase_core.specs.Objects.{ObjectRow}
use Rattle.setphase_core.specs.Values.{index_after}
use Rattle.setphase_core.specs.Columns.{shown_by}
use Rattle.setphase_core.proofs.Places.{rest_of}
use Rattle.setphase_core.proofs.Next.{name_begun}
use Rattle.setphase_core.proofs.Found.{begun_fits}
use Rattle.setphase_core.proofs.passing.index_below.Goals as goal

pub slice_bounds-rest-count : goal.slice_bounds-rest-count
slice_bounds-rest-count g c = omega (arith, ap (λ (xs : List ℕ). length xs) c.prefix.ensures, begun_fits (g.O.MibObject.state c.args.object.now).row.prefix c.args.name.now c.requires)

pub slice_bounds-rest-start : goal.slice_bounds-rest-start
slice_bounds-rest-start g c = omega (arith, ap (λ (xs : List ℕ). length xs) c.prefix.ensures, begun_fits (g.O.MibObject.state c.args.object.now).row.prefix c.args.name.now c.requires)

pub returns-clause-found : goal.returns-clause-found
returns-clause-found g c =
    let row : ObjectRow = (g.O.MibObject.state c.args.object.now).row in
    name_begun row c.args.world.now c.args.name.now c.next_into.new.into.items c.next_into.result c.requires
    (c.next_into.ensures.found
    ∙ ap (λ (n : List ℕ). index_after (shown_by row.column c.args.world.now) (Some n)) (rest_of (length c.prefix.result.now) c.args.name.now ∙ ap (λ (p : List ℕ). drop (length p) c.args.name.now) c.prefix.ensures))
