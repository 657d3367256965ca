-- The first value of an array that is read.
use Rattle.std.proofs.Common.{◌≡◌, ◌<◌, ◌∙◌, ℕ, zero, suc, List, [], ◌∷◌, length, map, get_or, subst, ap, arith}
use Rattle.toml.specs.Data.{Data}
use Rattle.toml.specs.View.{view}
use Rattle.toml.specs.declared.value.Value.{Value}
use Rattle.policy_text.specs.Reading.{BeginsTyped}

typed_at : (typed : Data → Type 0) (values : List Value) (n : ℕ) (value : Value) → value ≡ get_or values n value → n < length values → (0 < n → BeginsTyped typed (map view values)) → typed (view value) → BeginsTyped typed (map view values)
typed_at typed [] n value is within begun here = absurd (omega (arith, within))
typed_at typed (v ∷ vs) zero value is within begun here = subst (λ (x : Value). typed (view x)) is here
typed_at typed (v ∷ vs) (suc n) value is within begun here = begun (omega arith)

-- a value that is typed, as a loop reaches it behind others that are: the first one is typed
pub begins_typed : (typed : Data → Type 0) (values items : List Value) (n : ℕ) (value : Value) → items ≡ values → value ≡ get_or items n value → n < length items → (0 < n → BeginsTyped typed (map view values)) → typed (view value) → BeginsTyped typed (map view values)
begins_typed typed values items n value same is within begun here =
    typed_at typed values n value (is ∙ ap (λ (l : List Value). get_or l n value) same) (omega (arith, within, ap length same)) begun here
