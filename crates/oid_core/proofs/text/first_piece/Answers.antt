use Rattle.std.proofs.Common.{◌≡◌, ◌∙◌, ◌<◌, ◌==◌, ◌∷◌, List, ℕ, ap, sym, length, lit<}
use Rattle.std.specs.List.{position_or_len, before_first, after_first}
use Rattle.std.proofs.lemmas.List.Splits.{slice_split_first}
use Rattle.oid_core.specs.Text.{pieces}
use Rattle.oid_core.proofs.Texts.{undivided}
use Rattle.oid_core.proofs.text.first_piece.Goals as goal

pub returns-in-Some : goal.returns-in-Some
returns-in-Some c =
    let text = c.args.text.now in
    let h : (c.in-Some.piece.now ≡ before_first (λ b. b == 46) text) × (c.in-Some.rest.now ≡ after_first (λ b. b == 46) text) × (position_or_len (λ b. b == 46) text < length text) = c.in-Some.ensures.byte (lit< tt) (λ w o x. x) in
    slice_split_first (λ b. b == 46) text 0 h.2 ∙ ap (λ (t : List ℕ). t ∷ pieces (after_first (λ b. b == 46) text)) (sym h.0) ∙ ap (λ (t : List ℕ). c.in-Some.piece.now ∷ pieces t) (sym h.1)

pub returns-in-None : goal.returns-in-None
returns-in-None c =
    let h : position_or_len (λ b. b == 46) c.args.text.now ≡ length c.args.text.now = c.in-None.ensures.byte (lit< tt) (λ w o x. x) in
    undivided c.args.text.now h
