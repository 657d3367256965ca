use Rattle.std.proofs.Common.{◌≡◌, ◌-◌, map}
use Rattle.setphase_core.specs.Registry.{rows_of, first_fault}
use Rattle.setphase_core.proofs.Faults.{fault_from}
use Rattle.setphase_core.proofs.registry.fault_of.Given as goal

-- the pairs in front of this object are not at fault
abbrev pub invariant-loop-place : goal.invariant-loop-place
invariant-loop-place g l =
    fault_from g.O.MibObject.state l.objects (l.place - 1) ≡ first_fault (rows_of (map g.O.MibObject.state l.objects))
