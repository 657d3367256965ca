use Rattle.std.proofs.Common.{◌≡◌, false, take, map}
use Rattle.setphase_core.specs.Objects.{object_after_release}
use Rattle.setphase_core.specs.Staging.{assignments_of, IsUnderWay, AreCommitted, AreCalled, commit_at}
use Rattle.setphase_core.specs.Together.{assign}
use Rattle.setphase_core.proofs.committing.commit_all.Given as goal

abbrev pub invariant-loop-i : goal.invariant-loop-i
invariant-loop-i g l = record {
  under_way : IsUnderWay l.world l.staging.registry.now l.staging.staged.items l.staging.tested l.staging.committed;
  same_reference : l.staging.registry.ghost_name ≡ l.fn.staging.registry.ghost_name;
  staged : l.staging.staged.items ≡ l.fn.staging.staged.items;
  counted : l.staging.committed ≡ l.i;
  world : l.world ≡ assign (take l.i (assignments_of l.fn.staging.staged.items)) l.fn.world;
  done : AreCommitted l.fn.world l.world l.staging.registry.now l.fn.staging.staged.items l.i;
  called : AreCalled (map (commit_at false) (take l.i l.fn.staging.staged.items)) (map object_after_release l.fn.staging.registry.now) (map object_after_release l.staging.registry.now);
}
