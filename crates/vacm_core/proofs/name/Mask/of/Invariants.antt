use Rattle.std.proofs.Common.{◌≡◌, ◌-◌, ◌++◌, take, replicate}
use Rattle.vacm_core.proofs.name.Mask.of.Given as goal

-- the octets so far, and zeros behind them
abbrev pub invariant-loop-k : goal.invariant-loop-k
invariant-loop-k l = l.kept ≡ take l.k l.octets ++ replicate (16 - l.k) 0
