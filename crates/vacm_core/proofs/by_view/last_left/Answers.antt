use Rattle.std.proofs.Common.{◌≡◌, ◌-◌, ◌<◌, ℕ, true, false, Some, get_or, length, rules, sym, ap, ◌∙◌, arith}
use Rattle.std.specs.List.{slice_get}
use Rattle.std.specs.Int.Count.{count_leading_zeros}
use Rattle.std.proofs.lemmas.List.{get_or_default}
use Rattle.std.proofs.lemmas.Option.{slice_get-get_or}
use Rattle.vacm_core.specs.OfView.{is_match}
use Rattle.vacm_core.specs.declared.tables.FamilyRow.{FamilyRow}
use Rattle.vacm_core.proofs.LeftRows.{top_bit, without, last_found, left_without}
use Rattle.vacm_core.proofs.by_view.last_left.Goals as goal
use Rattle.vacm_core.proofs.by_view.last_left.Goals.{else-k-numbers-via-then-k-numbers+else-is_match, else-k-numbers-via-else-k-numbers}

pub returns-then-is_match : goal.returns-then-is_match
returns-then-is_match c =
    let rows = c.args.rows.now in
    let numbers = c.args.numbers.now in
    let view = c.args.view.now in
    let name = c.args.name.now in
    let k = 63 - count_leading_zeros 64 c.bits.left in
    let top = top_bit c.bits.left (omega (arith, c.bits-test.true)) (search rules) in
    let n : ℕ = get_or numbers k 0 in
    let row : FamilyRow = c.index-rows-numbers.result in
    let within : k < length numbers = c.if-k-numbers.true in
    let here : slice_get rows n ≡ Some row = slice_get-get_or rows n row (c.requires.within k 0 within) ∙ ap Some (sym c.index-rows-numbers.is) in
    let hit : is_match view name (slice_get rows n) ≡ true = ap (is_match view name) here ∙ sym c.is_match.ensures ∙ c.if-is_match.true in
    last_found rows view name numbers c.bits.left k n c.bits.invariant within (get_or_default numbers k n 0 within) top.2 hit

pub bits-smaller : goal.bits-smaller
bits-smaller c =
    let top = top_bit c.bits.left (omega (arith, c.bits-test.true)) (search rules) in
    (without c.bits.left (63 - count_leading_zeros 64 c.bits.left) top.0 top.1).0

pub bits-preserved : goal.bits-preserved
bits-preserved c =
    let rows = c.args.rows.now in
    let numbers = c.args.numbers.now in
    let view = c.args.view.now in
    let name = c.args.name.now in
    let k = 63 - count_leading_zeros 64 c.bits.left in
    let top = top_bit c.bits.left (omega (arith, c.bits-test.true)) (search rules) in
    let others = (without c.bits.left k top.0 top.1).1 in
    left_without rows view name numbers c.bits.left _ k c.requires.short c.bits.invariant others (λ d within.
    elim c.else-k-numbers.branch [
      | else-k-numbers-via-then-k-numbers+else-is_match w ↦
          let row : FamilyRow = w.index-rows-numbers.result in
          let at : get_or numbers k d ≡ get_or numbers k 0 = get_or_default numbers k d 0 within in
          let here : slice_get rows (get_or numbers k 0) ≡ Some row = slice_get-get_or rows (get_or numbers k 0) row (c.requires.within k 0 within) ∙ ap Some (sym w.index-rows-numbers.is) in
          ap (λ (n : ℕ). is_match view name (slice_get rows n)) at ∙ ap (is_match view name) here ∙ sym w.is_match.ensures ∙ w.if-is_match.false
      | else-k-numbers-via-else-k-numbers w ↦ absurd (omega (arith, within, w.if-k-numbers.false))
    ])
