use Rattle.std.proofs.Common.{◌≡◌, take}
use Rattle.message_core.proofs.binding.Bindings.try_copy.Given as goal

-- the bindings so far
abbrev pub invariant-loop-binding : goal.invariant-loop-binding
invariant-loop-binding l = l.items.items ≡ take l.binding-index l.binding-items
