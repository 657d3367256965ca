use Rattle.std.proofs.Common.{sym, ap, ◌∙◌, length, drop, List, ℕ, arith}
use Rattle.setphase_core.specs.Objects.{ObjectRow}
use Rattle.setphase_core.specs.Values.{value_at}
use Rattle.setphase_core.specs.Columns.{shown_by}
use Rattle.setphase_core.proofs.Places.{rest_of}
use Rattle.setphase_core.proofs.Found as found
use Rattle.setphase_core.proofs.search.value_under.Goals as goal

pub slice_bounds-rest-count : goal.slice_bounds-rest-count
slice_bounds-rest-count g c = omega (arith, ap (λ (xs : List ℕ). length xs) c.prefix.ensures, found.begun_fits (g.O.MibObject.state c.args.object.now).row.prefix c.args.name.now c.requires)

pub slice_bounds-rest-start : goal.slice_bounds-rest-start
slice_bounds-rest-start g c = omega (arith, ap (λ (xs : List ℕ). length xs) c.prefix.ensures, found.begun_fits (g.O.MibObject.state c.args.object.now).row.prefix c.args.name.now c.requires)

pub returns : goal.returns
returns g c =
    let row : ObjectRow = (g.O.MibObject.state c.args.object.now).row in
    c.read.ensures
    ∙ ap (value_at (shown_by row.column c.args.world.now)) (rest_of (length c.prefix.result.now) c.args.name.now ∙ ap (λ (p : List ℕ). drop (length p) c.args.name.now) c.prefix.ensures)
    ∙ sym (found.value_under row c.args.world.now c.args.name.now c.requires)
