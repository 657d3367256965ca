use Rattle.std.proofs.Common.{◌≡◌, ◌∙◌, ◌∷◌, ◌++◌, [], ap, length, rules}
use Rattle.std.specs.Option.{option_copied}
use Rattle.oid_core.specs.Text.{pieces_left}
use Rattle.oid_core.proofs.Texts.{so_far_pushed, so_far_full, so_far_bad, so_far_found, so_far_long}
use Rattle.oid_core.proofs.text.numbers_of.Goals as goal

pub returns-in_default-number_of-clause-fault : goal.returns-in_default-number_of-clause-fault
returns-in_default-number_of-clause-fault c =
    let cut = ap (λ o. pieces_left (option_copied o)) c.in-Some.is ∙ c.first_piece.ensures in
    so_far_bad c.args.text.now c.first_piece.result.0.now c.loop-left.numbers.items _ _ c.loop-left.too_long c.loop-left.invariant cut (λ n lt e. c.in_default-number_of.not-Some n (c.number_of.ensures.only n lt e))

pub loop-left-preserved-then-is_err : goal.loop-left-preserved-then-is_err
loop-left-preserved-then-is_err c =
    let cut = ap (λ o. pieces_left (option_copied o)) c.in-Some.is ∙ c.first_piece.ensures in
    let len : length c.loop-left.numbers.items ≡ 128 = search rules in
    so_far_full c.args.text.now c.first_piece.result.0.now c.loop-left.numbers.items c.try_push.new.self.items _ _ c.in-Some-number_of.number c.loop-left.too_long c.loop-left.invariant cut
    c.in-Some-number_of.ensures.found c.in-Some-number_of.ensures.fits len

pub loop-left-preserved : goal.loop-left-preserved
loop-left-preserved c =
    let cut = ap (λ o. pieces_left (option_copied o)) c.in-Some.is ∙ c.first_piece.ensures in
    let pushed : c.try_push.new.self.items ≡ c.loop-left.numbers.items ++ c.in-Some-number_of.number ∷ [] = search rules in
    so_far_pushed c.args.text.now c.first_piece.result.0.now c.loop-left.numbers.items c.try_push.new.self.items _ _ c.in-Some-number_of.number c.loop-left.too_long c.loop-left.invariant cut
    c.in-Some-number_of.ensures.found c.in-Some-number_of.ensures.fits pushed

pub returns-then-too_long-clause-fault : goal.returns-then-too_long-clause-fault
returns-then-too_long-clause-fault c =
    so_far_long c.args.text.now c.loop-left.numbers.items (pieces_left (option_copied c.loop-left.left)) c.loop-left.too_long c.loop-left.invariant (ap (λ o. pieces_left (option_copied o)) c.in_default.is) c.if-too_long.true

pub returns-else-too_long-clause-found : goal.returns-else-too_long-clause-found
returns-else-too_long-clause-found c =
    so_far_found c.args.text.now c.loop-left.numbers.items (pieces_left (option_copied c.loop-left.left)) c.loop-left.too_long c.loop-left.invariant (ap (λ o. pieces_left (option_copied o)) c.in_default.is) c.if-too_long.false
