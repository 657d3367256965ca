use Rattle.vacm_core.proofs.bitmaps.Bitmap.+all.Given as goal

-- the bits that differ
abbrev pub decreases-all : goal.decreases-all
decreases-all l = l.differing
