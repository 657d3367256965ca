use Rattle.std.proofs.Common.{take}
use Rattle.std.specs.List.{AllByRecursion}
use Rattle.history_core.proofs.Ranged.{MayEncode}
use Rattle.history_core.proofs.ranges.known_bindings.Given as goal

abbrev pub invariant-loop-binding : goal.invariant-loop-binding
invariant-loop-binding l = AllByRecursion MayEncode (take l.binding-index l.bindings)
