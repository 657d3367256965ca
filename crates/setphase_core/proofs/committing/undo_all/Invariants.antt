use Rattle.std.proofs.Common.{◌≡◌, ◌≤◌, ◌+◌, length}
use Rattle.setphase_core.specs.Settings.{bridge_keys}
use Rattle.setphase_core.specs.Staging.{IsUnderWay}
use Rattle.setphase_core.proofs.Undoes.{Undoes}
use Rattle.setphase_core.proofs.committing.undo_all.Given as goal

abbrev pub invariant-loop-staging : goal.invariant-loop-staging
invariant-loop-staging g l = record {
  under_way : IsUnderWay l.world l.staging.registry.now l.staging.staged.items l.staging.tested l.staging.committed;
  same_reference : l.staging.registry.ghost_name ≡ l.fn.staging.registry.ghost_name;
  staged : l.staging.staged.items ≡ l.fn.staging.staged.items;
  counted : length l.stuck + l.staging.committed ≤ l.fn.staging.committed;
  undoes : Undoes l.fn.world l.fn.staging.registry.now l.fn.staging.staged.items l.fn.staging.committed l.world l.staging.registry.now l.staging.committed (bridge_keys l.stuck);
}

abbrev pub decreases-loop-staging : goal.decreases-loop-staging
decreases-loop-staging g l = l.staging.committed
