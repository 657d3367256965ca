use Rattle.std.proofs.Common.{map}
use Rattle.setphase_core.specs.Registry.{rows_of}
use Rattle.setphase_core.proofs.Ordered.{ordered_from}
use Rattle.setphase_core.proofs.AtSpots.{found_instance, found_there, found_place, found_kept}
use Rattle.setphase_core.proofs.spots.find_spot.Goals as goal

pub returns-clause-found : goal.returns-clause-found
returns-clause-found g c = found_instance (g.P.Passing.passes c.args.passing.now) (rows_of (map g.O.MibObject.state c.args.objects.now)) c.args.world.now c.args.name.now c.next_spot.result c.next_spot.new.spot c.next_spot.ensures.found

pub returns-clause-there : goal.returns-clause-there
returns-clause-there g c = found_there (g.P.Passing.passes c.args.passing.now) (rows_of (map g.O.MibObject.state c.args.objects.now)) c.args.world.now c.args.name.now c.next_spot.result c.next_spot.new.spot c.requires.named c.next_spot.ensures.found

pub returns-clause-place : goal.returns-clause-place
returns-clause-place g c = found_place (g.P.Passing.passes c.args.passing.now) (rows_of (map g.O.MibObject.state c.args.objects.now)) c.args.world.now c.args.name.now c.next_spot.result c.next_spot.new.spot (ordered_from _ c.requires.ordered) c.next_spot.ensures.found

pub returns-clause-kept : goal.returns-clause-kept
returns-clause-kept g c = found_kept (g.P.Passing.passes c.args.passing.now) (rows_of (map g.O.MibObject.state c.args.objects.now)) c.args.world.now c.args.name.now c.next_spot.result c.next_spot.new.spot c.next_spot.ensures.found
