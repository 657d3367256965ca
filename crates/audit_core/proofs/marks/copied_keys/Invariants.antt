use Rattle.std.proofs.Common.{◌≡◌, take}
use Rattle.audit_core.proofs.marks.copied_keys.Given as goal

-- the keys so far
abbrev pub invariant-loop-key : goal.invariant-loop-key
invariant-loop-key l = l.copies.items ≡ take l.key-index l.keys
