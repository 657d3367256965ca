use Rattle.std.proofs.Common.{◌≡◌, map}
use Rattle.setphase_core.specs.Objects.{object_after_release}
use Rattle.setphase_core.specs.Registry.{rows_of}
use Rattle.setphase_core.specs.Staging.{IsUnderWay}
use Rattle.setphase_core.proofs.Stages.{Stages}
use Rattle.setphase_core.proofs.sets.stage_all.Given as goal

abbrev pub invariant-loop-i : goal.invariant-loop-i
invariant-loop-i g l = record {
  under_way : IsUnderWay l.world l.staging.registry.now l.staging.staged.items l.staging.tested l.staging.committed;
  same_reference : l.staging.registry.ghost_name ≡ l.fn.staging.registry.ghost_name;
  committed : l.staging.committed ≡ l.fn.staging.committed;
  tested : l.staging.tested ≡ l.i;
  released : map object_after_release l.staging.registry.now ≡ map object_after_release l.fn.staging.registry.now;
  stages : Stages (rows_of l.fn.staging.registry.now) l.world l.view l.bindings l.staging.registry.now l.staging.staged.items l.joint.contradiction l.joint.timer l.i;
}
