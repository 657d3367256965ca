use Rattle.std.proofs.Common.{ℕ, ◌<◌, nat_eq, All, Contains}
use Rattle.std.specs.List.{IsDistinct}
use Rattle.vacm_core.proofs.index.numbers_below.Given as goal

-- the numbers so far
abbrev pub invariant-loop-n : goal.invariant-loop-n
invariant-loop-n l = record {
  below : All (λ k. k < l.n) l.numbers.items;
  all : (k : ℕ) → k < l.n → Contains l.numbers.items k;
  once : IsDistinct nat_eq l.numbers.items;
}
