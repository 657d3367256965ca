use Rattle.std.proofs.Common.{◌≡◌, length}
use Rattle.vacm_core.specs.Bitmaps.{AreIn}
use Rattle.vacm_core.proofs.bitmaps.bitmaps_of.Given as goal

-- the blocks so far have their rows
abbrev pub invariant-loop-block : goal.invariant-loop-block
invariant-loop-block l = record {
  long : length l.blocks.items ≡ l.block;
  are : AreIn l.rows l.index l.blocks.items;
}
