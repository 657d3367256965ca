use Rattle.std.proofs.Common.{◌≡◌, take}
use Rattle.audit_core.proofs.denied_list.copied.Given as goal

-- the denied bindings so far
abbrev pub invariant-loop-denied : goal.invariant-loop-denied
invariant-loop-denied l = l.copies.items ≡ take l.denied-index l.items
