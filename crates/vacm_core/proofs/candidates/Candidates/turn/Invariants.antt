use Rattle.std.proofs.Common.{◌≡◌, ◌≤◌, length, take}
use Rattle.vacm_core.specs.Candidates.{AreFollowed}
use Rattle.vacm_core.proofs.candidates.Candidates.turn.Given as goal

-- the numbers are those of the name so far
abbrev pub invariant-loop-k : goal.invariant-loop-k
invariant-loop-k l = record {
  followed : AreFollowed l.blocks l.self.numbers.items l.self.levels.items;
  numbers : l.self.numbers.items ≡ take l.k l.name;
  within : l.k ≤ length l.name;
}
