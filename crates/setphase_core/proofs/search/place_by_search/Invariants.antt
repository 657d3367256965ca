use Rattle.setphase_core.proofs.search.place_by_search.Given as goal

abbrev pub ghosts-place_uncounted : goal.ghosts-place_uncounted
ghosts-place_uncounted g a = record { name = a.blank.name; parts = a.blank.parts }
