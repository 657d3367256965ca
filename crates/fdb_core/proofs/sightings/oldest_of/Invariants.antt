use Rattle.std.proofs.Common.{◌≡◌, ◌≤◌}
use Rattle.std.specs.Prelude.{min}
use Rattle.std.specs.BTreeMap.{values}
use Rattle.fdb_core.specs.Seen.{oldest_tick}
use Rattle.fdb_core.proofs.sightings.oldest_of.Given as goal

-- the lowest tick so far and those to come
abbrev pub invariant-loop-seen : goal.invariant-loop-seen
invariant-loop-seen l = record {
  all : min l.oldest (oldest_tick l.fn.tick l.seen-iterator) ≡ oldest_tick l.fn.tick (values l.fn.seen);
  not_later : l.oldest ≤ l.fn.tick;
}
