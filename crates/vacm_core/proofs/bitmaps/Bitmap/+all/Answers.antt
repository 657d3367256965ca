use Rattle.std.proofs.Common.{ℕ, ◌/◌, ◌%◌, slice_index, ap, ◌∙◌, arith, eq-eqb}
use Rattle.std.specs.Int.{bit_at}
use Rattle.vacm_core.specs.Bitmaps.{keeps}
use Rattle.std.proofs.lemmas.Bool.{and_from}
use Rattle.std.proofs.lemmas.List.{get_or-replicate}
use Rattle.vacm_core.proofs.KeptBits.{full, or_right}
use Rattle.vacm_core.proofs.bitmaps.Bitmap.+all.Goals as goal

pub returns-then-differing-eq0 : goal.returns-then-differing-eq0
returns-then-differing-eq0 t c bit asked small = or_right _ _ (eq-eqb _ _ (full bit small))

pub returns : goal.returns
returns t c bit asked small =
    let is = (c.in_ok-new.ensures).ok in
    and_from _ _
    (eq-eqb _ _ (ap (λ d. bit_at (slice_index d.rows (asked % 16)) bit) is
    ∙ ap (λ (word : ℕ). bit_at word bit) (get_or-replicate 16 (asked % 16) 18446744073709551615 0 (omega arith)) ∙ full bit small))
    (ap (λ d. keeps d.rest bit (asked / 16)) is ∙ c.in_ok-all.ensures bit (asked / 16) small)
