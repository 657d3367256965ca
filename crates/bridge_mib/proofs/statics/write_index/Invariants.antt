use Rattle.std.proofs.Common.{◌≡◌, take}
use Rattle.fdb_core.specs.Statics.{numbers_of}
use Rattle.bridge_mib.proofs.statics.write_index.Given as goal

abbrev pub invariant-loop-number : goal.invariant-loop-number
invariant-loop-number l = l.into.items ≡ take l.number-index (numbers_of l.fn.row)
