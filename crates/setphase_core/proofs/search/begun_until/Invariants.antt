use Rattle.std.proofs.Common.{◌-◌, map}
use Rattle.setphase_core.specs.Registry.{rows_of, prefixes_of}
use Rattle.setphase_core.proofs.Begun.{IsHalved}
use Rattle.setphase_core.proofs.search.begun_until.Given as goal

abbrev pub invariant-loop-low : goal.invariant-loop-low
invariant-loop-low g l = IsHalved (prefixes_of (rows_of (map g.O.MibObject.state l.objects))) l.front l.place l.low l.high

abbrev pub decreases-loop-low : goal.decreases-loop-low
decreases-loop-low g l = l.high - l.low
