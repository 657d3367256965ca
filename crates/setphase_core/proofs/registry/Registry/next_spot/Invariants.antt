use Rattle.setphase_core.proofs.registry.Registry.next_spot.Given as goal

abbrev pub ghosts-next_uncounted : goal.ghosts-next_uncounted
ghosts-next_uncounted g a = record { name = a.blank.name; parts = a.blank.parts }
