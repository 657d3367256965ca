use Rattle.std.proofs.Common.{◌≡◌, take}
use Rattle.bridge_mib.proofs.fdb.write_index.Given as goal

abbrev pub invariant-loop-octet : goal.invariant-loop-octet
invariant-loop-octet l = l.into.items ≡ take l.octet-index l.fn.address.0
