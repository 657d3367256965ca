use Rattle.std.proofs.Common.{◌≡◌, ◌-◌, ◌^◌, min, take}
use Rattle.setphase_core.specs.Registry.{held_count}
use Rattle.setphase_core.proofs.registry.Registry.held.Given as goal

abbrev pub invariant-loop-object : goal.invariant-loop-object
invariant-loop-object g l = l.count ≡ min (held_count (take l.object-index l.self)) (2 ^ 64 - 1)
