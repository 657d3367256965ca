use Rattle.std.proofs.Common.{◌≡◌, take}
use Rattle.vacm_core.proofs.compared.alike.Given as goal

-- the numbers so far are alike
abbrev pub invariant-loop-count : goal.invariant-loop-count
invariant-loop-count l = take l.count l.one ≡ take l.count l.other
