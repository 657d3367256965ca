use Rattle.std.proofs.Common.{vec_len}
use Rattle.live_run.proofs.crew.+fn-run_lines-join+arg3+run_lines.Given as goal

abbrev pub decreases-join+arg3 : goal.decreases-join+arg3
decreases-join+arg3 g l = vec_len l.lines

abbrev pub decreases-run_lines : goal.decreases-run_lines
decreases-run_lines g l = vec_len l.lines
