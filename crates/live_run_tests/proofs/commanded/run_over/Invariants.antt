use Rattle.live_run_tests.proofs.commanded.run_over.Given as goal

abbrev pub ghosts-commanded-L-Ledger : goal.ghosts-commanded-L-Ledger
ghosts-commanded-L-Ledger g a = record { name = a.blank.name; parts = a.blank.parts }

abbrev pub ghosts-commanded-L-Rising : goal.ghosts-commanded-L-Rising
ghosts-commanded-L-Rising g a = record { rise = a.number.name }

abbrev pub ghosts-commanded-L-Run : goal.ghosts-commanded-L-Run
ghosts-commanded-L-Run g a = record { start = a.kept; base_rise = a.moved.name }

abbrev pub ghosts-commanded-L-Naming : goal.ghosts-commanded-L-Naming
ghosts-commanded-L-Naming g a = record { log_name = a.log.name }
