-- Where lines are octets.
use Rattle.std.proofs.Common.{◌≢◌, ℕ, ◌<◌, List, [], ◌∷◌, length, Result, Ok, Err, OnErr, ap, arith, length-append}
use Rattle.message_core.specs.declared.binding.Binding.{Binding}
use Rattle.manager_core.specs.Lines.{lines_of}

-- the lines of one binding or more are some octets
pub lines_some : (bs : List Binding) (i : ℕ) → i < length bs → lines_of bs ≢ []
lines_some [] i low none = omega arith
lines_some (b ∷ bs) i low none =
    let nothing = ap length none in omega (arith, simp length-append at nothing)

-- a fact holds where there is an error, if it always does
pub on_err : {A E : Type 0} (r : Result A E) (P : Type 0) → P → OnErr r P
on_err (Ok a) P p = tt
on_err (Err e) P p = p
