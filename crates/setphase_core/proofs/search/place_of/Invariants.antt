use Rattle.std.proofs.Common.{◌-◌, map}
use Rattle.setphase_core.specs.Registry.{rows_of, prefixes_of}
use Rattle.setphase_core.proofs.Searches.{IsCounted}
use Rattle.setphase_core.proofs.search.place_of.Given as goal

abbrev pub invariant-loop-low : goal.invariant-loop-low
invariant-loop-low g l = IsCounted (prefixes_of (rows_of (map g.O.MibObject.state l.objects))) l.name l.low l.high l.fn.steps l.steps

abbrev pub decreases-loop-low : goal.decreases-loop-low
decreases-loop-low g l = l.high - l.low
