use Rattle.std.proofs.Common.{◌≡◌, ◌<◌, Bool, true, false, not, length, ap, sym, ◌∙◌, arith}
use Rattle.std.specs.List.{slice_index_or}
use Rattle.std.proofs.lemmas.Bool.{both_ways}
use Rattle.std.proofs.lemmas.List.{get_or_default}
use Rattle.vacm_core.specs.Keys.{index_key}
use Rattle.vacm_core.specs.OfView.{index_front, is_before}
use Rattle.vacm_core.proofs.Indexes.{parted_lt}
use Rattle.vacm_core.proofs.by_view.are_behind.Goals as goal

false_of : (b : Bool) → not b ≡ true → b ≡ false
false_of true e = sym e
false_of false e = cc

unless : (a b : Bool) → a ≡ false → (b ≡ true → a ≡ true) → b ≡ false
unless a true e f = sym (f cc) ∙ e
unless a false e f = cc

pub returns-else-place-index : goal.returns-else-place-index
returns-else-place-index c behind k d le lt =
    let rows = c.args.rows.now in
    let index = c.args.index.now in
    let view = c.args.view.now in
    let place = c.args.place in
    let inside : place < length index = omega (arith, lt) in
    let first : is_before rows view c.args.long (slice_index_or index place d) ≡ false =
    ap (is_before rows view c.args.long) (get_or_default index place d 0 inside) ∙ sym c.is_before.ensures ∙ false_of c.is_before.result behind in
    unless (is_before rows view c.args.long (slice_index_or index place d)) (is_before rows view c.args.long (slice_index_or index k d)) first
    (parted_lt index_key rows (0, index_front view c.args.long) index c.requires.index.sorted place k d le lt)
