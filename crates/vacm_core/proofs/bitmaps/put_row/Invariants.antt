use Rattle.vacm_core.proofs.IndexBlocks.{ArePut}
use Rattle.vacm_core.proofs.bitmaps.put_row.Given as goal

-- the other rows are there, and the row wherever its number was found so far
abbrev pub invariant-loop-rank : goal.invariant-loop-rank
invariant-loop-rank l = ArePut l.rows l.index l.n l.rank l.blocks.items
