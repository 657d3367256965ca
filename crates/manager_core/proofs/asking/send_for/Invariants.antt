use Rattle.std.specs.Prelude.{◌≡◌, List, length, All}
use Rattle.manager_core.specs.Asks.{Try, IsUsedUp, ask_acts}
use Rattle.manager_core.proofs.asking.send_for.Given as goal

abbrev pub invariant-loop-i : goal.invariant-loop-i
invariant-loop-i g l =
    (ts : List Try) × All (IsUsedUp l.request) ts × (length ts ≡ l._i) × g.W.Wire.went l.initial.wire (ask_acts l.peer l.request ts) l.wire
