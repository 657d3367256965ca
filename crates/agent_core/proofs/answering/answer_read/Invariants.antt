use Rattle.agent_core.proofs.answering.answer_read.Given as goal

abbrev pub ghosts-send_read : goal.ghosts-send_read
ghosts-send_read g a = record { name = a.blank.name; parts = a.blank.parts }
