use Rattle.std.proofs.Common.{◌∙◌, ◌+◌, sym, ap, subst, arith, true, false, [], ◌∷◌, ◌++◌, length, map, take}
use Rattle.setphase_core.specs.declared.staging.Staged.{Staged}
use Rattle.setphase_core.specs.Objects.{object_after_release, HasSpace}
use Rattle.setphase_core.specs.Staging.{entry_at, AreCalled, commit_at}
use Rattle.setphase_core.proofs.Called.{commits_more}
use Rattle.setphase_core.proofs.Commits.{Commits, commit_step, entry_is, called_after_commit, called_after_call}
use Rattle.setphase_core.proofs.Space.{space_commit}
use Rattle.setphase_core.proofs.committing.commit_all.Goals as goal

pub loop-i-preserved : goal.loop-i-preserved
loop-i-preserved g c =
    let i = c.loop-i.invariant in
    let after : Commits c.args.world.now c.commit_next.new.world c.commit_next.new.self.registry.now c.args.staging.now.staged.items (c.loop-i.i + 1)
    = commit_step c.args.world.now c.loop-i.world _ c.loop-i.staging.registry.now _ c.args.staging.now.staged.items c.loop-i.staging.staged.items c.loop-i.i c.loop-i.staging.committed i.staged i.counted c.requires.under_way.distinct (omega arith) (i.under_way.reserved c.loop-i.staging.committed (omega (arith, ap (length {A = Staged}) i.staged, i.counted))) (let there = (c.requires.under_way.reserved c.loop-i.i (omega arith)).reserved in record { key = there.key; value = there.value }) (record { world = i.world; done = i.done }) c.in-Ok.ensures.put c.in-Ok.ensures.kept c.in-Ok.ensures.before in
    record {
      under_way = c.commit_next.ensures.under_way;
      same_reference = c.commit_next.ensures.same_reference ∙ i.same_reference;
      staged = c.commit_next.ensures.staged ∙ i.staged;
      counted = c.in-Ok.ensures.committed ∙ ap (λ n. n + 1) i.counted;
      world = after.world;
      done = after.done;
      called = subst (λ cs. AreCalled cs (map object_after_release c.args.staging.now.registry.now) (map object_after_release c.commit_next.new.self.registry.now))
          (ap (λ (z : Staged). map (commit_at false) (take c.loop-i.i c.args.staging.now.staged.items) ++ commit_at false z ∷ []) (entry_is c.args.staging.now.staged.items c.loop-i.staging.staged.items c.loop-i.i c.loop-i.staging.committed i.staged i.counted) ∙ sym (commits_more c.args.staging.now.staged.items c.loop-i.i (omega arith)))
          (called_after_commit c.loop-i.world c.loop-i.staging.registry.now _ _ _ (entry_at c.loop-i.staging.staged.items c.loop-i.staging.committed) c.in-Ok.ensures.kept c.in-Ok.ensures.passes i.called);
    }

pub returns-in_default-clause-called : goal.returns-in_default-clause-called
returns-in_default-clause-called g c =
    let i = c.loop-i.invariant in
    subst (λ (z : Staged). AreCalled (map (commit_at false) (take c.loop-i.i c.args.staging.now.staged.items) ++ commit_at true z ∷ []) (map object_after_release c.args.staging.now.registry.now) (map object_after_release c.commit_next.new.self.registry.now))
    (entry_is c.args.staging.now.staged.items c.loop-i.staging.staged.items c.loop-i.i c.loop-i.staging.committed i.staged i.counted)
    (called_after_call true c.loop-i.staging.registry.now _ _ _ (entry_at c.loop-i.staging.staged.items c.loop-i.staging.committed) c.in_default.ensures.failed c.in_default.ensures.fails i.called)

pub commit_next-requires : goal.commit_next-requires
commit_next-requires g c =
    let i = c.loop-i.invariant in
    let fits = c.well_formed in (
      omega arith,
      (
        omega (arith, ap (length {A = Staged}) i.staged, i.counted),
        (
          i.under_way,
          subst (λ (z : Staged). HasSpace c.loop-i.world z.slot.key z.slot.value) (sym (entry_is c.args.staging.now.staged.items c.loop-i.staging.staged.items c.loop-i.i c.loop-i.staging.committed i.staged i.counted))
              (space_commit c.args.world.now c.loop-i.world c.args.staging.now.staged.items c.loop-i.i c.requires.space i.world (omega arith)),
        ),
      ),
    )
