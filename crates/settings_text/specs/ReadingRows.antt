-- Rows that were read, and those that are read behind them.
use Rattle.std.specs.Prelude.{List, ◌++◌, Result, Ok, Err}

-- these, and the ones behind them, if those have no fault
abbrev pub behind : {A E : Type 0} → List A → Result (List A) E → Result (List A) E
behind xs (Ok ys) = Ok (xs ++ ys)
behind xs (Err e) = Err e
