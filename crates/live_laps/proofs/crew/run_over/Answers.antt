use Rattle.live_run.proofs.Crossing.{live_sync}
use Rattle.live_laps.proofs.crew.run_over.Goals as goal

pub run_lines-share-requires-clause-shared : goal.run_lines-share-requires-clause-shared
run_lines-share-requires-clause-shared g c κs within = search (live_sync, c.type_bounds.send-O)
