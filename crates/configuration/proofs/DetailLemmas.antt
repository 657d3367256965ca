-- A sentence with what a reader says.
use Rattle.std.proofs.Common.{◌≡◌, ℕ, List, String, Global, Result, Ok, Err, string_bytes}
use Rattle.std.specs.Prelude.{IfOk}
use Rattle.configuration.specs.Details.{expected_sentence}

pub with_message : {E : Type 0} (result : Result (String Global) E) (line : ℕ) (message : List ℕ)
    → IfOk result (λ text. string_bytes text ≡ expected_sentence line message)
    → IfOk result (λ text. (any : List ℕ) × (string_bytes text ≡ expected_sentence line any))
with_message (Ok text) line message h = (message, h)
with_message (Err failed) line message h = tt
