-- Where a part cannot be read, the whole cannot.
use Rattle.std.proofs.Common.{◌≡◌, ◌∙◌, Result, Ok, Err}
use Rattle.std.specs.Prelude.{IsErrAnd}
use Rattle.manager_words.specs.Bindings.{Reads}
use Rattle.manager_words.specs.declared.fault.WordsFault.{WordsFault}

-- a fault that a `?` hands on
pub passed : {X Y : Type 0} (IsX : X → Type 0) (IsY : Y → Type 0) → ((y : Y) → IsY y → (x : X) × IsX x) → (e : WordsFault) (r : Result Y WordsFault) → Reads IsX (Err e) → IsErrAnd r (λ f. f ≡ e) → Reads IsY r
passed IsX IsY part e (Ok y) none same = absurd same
passed IsX IsY part e (Err f) none same = λ other y is.
    let x = part y is in none (λ memory. other (same ∙ memory)) x.0 x.1

-- the same, by a fact that no whole allows
pub denied : {Y : Type 0} (IsY : Y → Type 0) → ((y : Y) → ¬ IsY y) → (e : WordsFault) (r : Result Y WordsFault) → IsErrAnd r (λ f. f ≡ e) → Reads IsY r
denied IsY none e (Ok y) same = absurd same
denied IsY none e (Err f) same = λ other y is. none y is
