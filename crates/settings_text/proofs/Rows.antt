-- Rows that were read, and those that are read behind them.
use Rattle.std.proofs.Common.{◌≡◌, List, [], ◌∷◌, ◌++◌, Result, Ok, Err, refl, ap, sym, append_assoc, append-nil}
use Rattle.settings_text.specs.Results.{◌>!>◌}
use Rattle.settings_text.specs.ReadingRows.{behind}

pub behind_none : {A E : Type 0} (xs : List A) → behind {A = A} {E = E} xs (Ok []) ≡ Ok xs
behind_none xs = ap Ok (append-nil xs)

pub behind_one : {A E : Type 0} (xs : List A) (x : A) (more : Result (List A) E) → behind xs (more >!> (λ ys. Ok (x ∷ ys))) ≡ behind (xs ++ x ∷ []) more
behind_one xs x (Ok ys) = ap Ok (sym (append_assoc xs (x ∷ []) ys))
behind_one xs x (Err e) = refl
