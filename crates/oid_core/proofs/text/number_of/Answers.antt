use Rattle.std.proofs.Common.{◌≡◌, ◌∙◌, ◌≤◌, length, Some, sym, inl, inr}
use Rattle.std.specs.Prelude.{slice_get}
use Rattle.oid_core.proofs.Texts.{none_first, not_digit, leading_zero, parsed_found, parsed_only}
use Rattle.oid_core.proofs.text.number_of.Goals as goal
use Rattle.oid_core.proofs.text.number_of.Goals.{then-not-is_ascii_digit-via-then-not-is_ascii_digit, then-not-is_ascii_digit-via-else-not-is_ascii_digit+then-text-gt1}

pub returns-in_err-first-clause-only : goal.returns-in_err-first-clause-only
returns-in_err-first-clause-only c = λ n lt e. let h = c.in_err-first.ensures.value in absurd (none_first c.args.text.now n (rw (← c.as_bytes.ensures.value) h) lt e)

pub returns-then-not-is_ascii_digit-clause-only : goal.returns-then-not-is_ascii_digit-clause-only
returns-then-not-is_ascii_digit-clause-only c = λ n lt e.
    let first : Some c.in_ok-first.first.now ≡ slice_get c.args.text.now 0 = rw (← c.as_bytes.ensures.value) c.in_ok-first.ensures.value in
    elim c.then-not-is_ascii_digit.branch [
      | then-not-is_ascii_digit-via-then-not-is_ascii_digit w ↦ absurd (not_digit c.args.text.now c.in_ok-first.first.now n first (sym c.is_ascii_digit.ensures.value ∙ w.if-not-is_ascii_digit.true) lt e)
      | then-not-is_ascii_digit-via-else-not-is_ascii_digit+then-text-gt1 w ↦ absurd (leading_zero c.args.text.now c.in_ok-first.first.now n first w.if-text-gt1.true.0 w.if-text-gt1.true.1 lt e)
    ]

pub returns-clause-found : goal.returns-clause-found
returns-clause-found c =
    let first : Some c.in_ok-first.first.now ≡ slice_get c.args.text.now 0 = rw (← c.as_bytes.ensures.value) c.in_ok-first.ensures.value in
    let lead : c.in_ok-first.first.now ≡ 48 → length c.args.text.now ≤ 1 = λ h. elim c.if-text-gt1.either [ inl w ↦ w.1 | inr w ↦ absurd (w h) ] in
    parsed_found c.args.text.now c.in_ok-first.first.now c.parse.result c.ok.result first (sym c.is_ascii_digit.ensures.value ∙ c.if-not-is_ascii_digit.false) lead c.parse.ensures.value.0 c.ok.ensures.value

pub returns-clause-only : goal.returns-clause-only
returns-clause-only c = λ n lt e. parsed_only c.args.text.now c.parse.result c.ok.result n c.parse.ensures.value.0 c.ok.ensures.value lt e
