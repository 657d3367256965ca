use Rattle.std.proofs.Common.{◌%◌, arith}
use Rattle.vacm_core.proofs.KeptBits.{full}
use Rattle.vacm_core.proofs.by_view.rows_left.Goals as goal

pub returns-in-None : goal.returns-in-None
returns-in-None c rank row here is has = full (rank % 64) (omega arith)
