use Rattle.std.proofs.Common.{◌≡◌, ℕ, List, get_or, ap, subst, sym, ◌∙◌, arith}
use Rattle.std.specs.Int.{bit_at}
use Rattle.vacm_core.specs.Bitmaps.{IsKept}
use Rattle.vacm_core.specs.declared.bitmaps.PlaceBitmap.{PlaceBitmap}
use Rattle.vacm_core.proofs.KeptBits.{full, allowed}
use Rattle.vacm_core.proofs.bitmaps.Block.rows_left.Goals as goal
use Rattle.vacm_core.proofs.bitmaps.Block.rows_left.Goals.{in-Some, in_default}

pub loop-at-init : goal.loop-at-init
loop-at-init c bit row small sound has = full bit small

pub loop-at-preserved : goal.loop-at-preserved
loop-at-preserved c bit row small sound has =
    elim c.match-get.branch [
      | in-Some w ↦
          let before = c.loop-at.invariant bit row small sound has in
          let found = w.in-Some.ensures.lookup.3 in
          let fits = allowed row c.args.name.now c.at-item.result.place w.in-Some.number.now has found.0 (sym (found.1 0)) in
          let at = c.at-item.result in
          let k = c.loop-at.at-index in
          let there : at ≡ get_or c.args.self.now.places.items k at = c.at-item.is ∙ ap (λ (l : List PlaceBitmap). get_or l k at) c.as_slice-at-items.ensures.value in
          let kept = subst (λ (p : PlaceBitmap). IsKept p bit row) (sym there) (sound k at (omega (arith, c.loop-at-test.true, c.as_slice-at-items.ensures.len))) in
          ap (λ (word : ℕ). bit_at word bit) w.left-is ∙ w.rows_with-left.ensures bit small (kept w.in-Some.number.now fits) before
      | in_default w ↦ ap (λ (word : ℕ). bit_at word bit) w.left-is ∙ c.loop-at.invariant bit row small sound has
    ]
