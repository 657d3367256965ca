use Rattle.std.proofs.Common.{◌≡◌, ◌==◌, ◌/◌, ◌%◌, true, slice_index, sym, subst}
use Rattle.std.specs.Int.{bit_at}
use Rattle.std.proofs.lemmas.Bool.{eqb-true}
use Rattle.vacm_core.specs.Bitmaps.{keeps}
use Rattle.vacm_core.specs.declared.bitmaps.Bitmap.{Bitmap}
use Rattle.vacm_core.proofs.Agrees.{and_true}
use Rattle.vacm_core.proofs.KeptBits.{both_bits, rest_kept}
use Rattle.vacm_core.proofs.bitmaps.Bitmap.+rows_with.Goals as goal

pub returns-else-number-rest : goal.returns-else-number-rest
returns-else-number-rest t c bit small kept before =
    let here = subst (λ (b : Bitmap). keeps b bit c.args.number ≡ true) c.in-Rest.is kept in
    both_bits c.args.rows c.in-Rest.rest.others bit before (rest_kept c.args.number c.in-Rest.rest.high c.in-Rest.rest.others bit c.if-number-rest.false here)

pub returns-in-Digit : goal.returns-in-Digit
returns-in-Digit t c bit small kept before =
    let digit = c.in-Digit.digit.value in
    let number = c.args.number in
    let here = subst (λ (b : Bitmap). keeps b bit number ≡ true) c.in-Digit.is kept in
    let parts = and_true (bit_at (slice_index digit.rows (number % 16)) bit == 1) (keeps digit.rest bit (number / 16)) here in
    let seen = sym c.deref-digit.ensures in
    c.rows_with.ensures bit small (subst (λ d. keeps d.rest bit (number / 16) ≡ true) seen parts.1)
    (both_bits c.args.rows _ bit before (subst (λ d. bit_at (slice_index d.rows (number % 16)) bit ≡ 1) seen (eqb-true _ 1 parts.0)))
