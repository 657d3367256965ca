use Rattle.std.proofs.Common.{◌≡◌, ◌++◌, map, take, drop, length}
use Rattle.setphase_core.specs.Objects.{object_after_arm}
use Rattle.setphase_core.proofs.registry.Registry.arm.Given as goal

abbrev pub invariant-loop-object : goal.invariant-loop-object
invariant-loop-object g l = record {
  states : map g.O.MibObject.state l.object-items ≡ map (object_after_arm l.fn.plan) (take l.object-index l.fn.self) ++ drop l.object-index l.fn.self;
  len : length l.object-items ≡ length l.fn.self;
}
