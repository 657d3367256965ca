use Rattle.live_laps.proofs.crew.run_from.Given as goal

abbrev pub ghosts-run_over-L-Ledger : goal.ghosts-run_over-L-Ledger
ghosts-run_over-L-Ledger g a = record { name = a.blank.name; parts = a.blank.parts }

abbrev pub ghosts-run_over-L-Rising : goal.ghosts-run_over-L-Rising
ghosts-run_over-L-Rising g a = record { rise = a.number.name }

abbrev pub ghosts-run_over-L-Run : goal.ghosts-run_over-L-Run
ghosts-run_over-L-Run g a = record { start = a.kept; base_rise = a.moved.name }

abbrev pub ghosts-run_over-L-Naming : goal.ghosts-run_over-L-Naming
ghosts-run_over-L-Naming g a = record { log_name = a.log.name }
