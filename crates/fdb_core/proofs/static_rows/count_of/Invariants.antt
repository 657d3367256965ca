use Rattle.std.proofs.Common.{◌≡◌, ℕ, ◌<◌, true, get_or}
use Rattle.frame_core.specs.Octets.{same_mac}
use Rattle.fdb_core.proofs.StaticOf.{no_row}
use Rattle.fdb_core.proofs.static_rows.count_of.Given as goal

abbrev pub invariant-loop-i : goal.invariant-loop-i
invariant-loop-i l = (k : ℕ) → k < l.i → same_mac (get_or l.rows k no_row).index.address l.address ≡ true
