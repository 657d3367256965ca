use Rattle.std.specs.Prelude.{◌+◌, List}
use Rattle.oid_core.specs.Name.{HasRoot}
use Rattle.manager_core.specs.Walks.{Asked, walk_acts}
use Rattle.manager_core.proofs.Walked.{Leads}
use Rattle.manager_core.proofs.walking.walk_from.Given as goal

abbrev pub invariant-loop-before : goal.invariant-loop-before
invariant-loop-before g l =
    record {
      encodable : HasRoot l.name;
      walked : (asks : List Asked) × Leads l.community l.root l.tries (l.before + 1) l.name asks l.found × g.W.Wire.went l.initial.wire (walk_acts l.peer asks) l.wire;
    }
