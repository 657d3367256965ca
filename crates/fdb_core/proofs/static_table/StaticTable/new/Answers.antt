use Rattle.std.proofs.Common.{subst, sym, arith}
use Rattle.fdb_core.specs.Statics.{IsRising}
use Rattle.fdb_core.proofs.StaticKept.{rising_none}
use Rattle.fdb_core.proofs.static_table.StaticTable.new.Goals as goal

pub invariant_of-result : goal.invariant_of-result
invariant_of-result c = record { rising = subst IsRising (sym c.new.ensures.items) rising_none; promised = omega arith }
