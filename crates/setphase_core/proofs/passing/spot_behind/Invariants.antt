use Rattle.std.proofs.Common.{drop, map}
use Rattle.setphase_core.specs.Registry.{rows_of}
use Rattle.setphase_core.specs.Walking.{IsWalked}
use Rattle.setphase_core.proofs.passing.spot_behind.Given as goal

abbrev pub invariant-loop-place : goal.invariant-loop-place
invariant-loop-place g l =
    IsWalked (g.P.Passing.passes l.passing) (drop l.start (rows_of (map g.O.MibObject.state l.objects))) (drop l.place (rows_of (map g.O.MibObject.state l.objects))) l.world l.name l.fn.steps l.steps
