use Rattle.std.proofs.Common.{rules, ◌≡◌, subst}
use Rattle.setphase_core.specs.Settings.{setting, IsSettingInRange}
use Rattle.setphase_core.specs.Staging.{entry_at}
use Rattle.setphase_core.specs.declared.staging.Staged.{Staged}
use Rattle.setphase_core.proofs.Assigns.{entry_read}
use Rattle.setphase_core.proofs.Commits.{put_entry, after_commit}
use Rattle.setphase_core.proofs.UnderWay.{committed_next}
use Rattle.setphase_core.proofs.staging.Staging.commit_next.Goals as goal

pub returns-clause-under_way : goal.returns-clause-under_way
returns-clause-under_way g c =
    let e : Staged = entry_at c.args.self.now.staged.items c.args.self.now.committed in
    let here = entry_read c.args.self.now.staged.items c.as_slice.result.now c.args.self.now.committed c.index-as_slice-self.result c.as_slice.ensures.value c.requires.pending c.index-as_slice-self.is in
    let range : IsSettingInRange c.args.world.now e.slot.key (setting c.args.world.now e.slot.key)
    = subst (λ (x : Staged). IsSettingInRange c.args.world.now x.slot.key (setting c.args.world.now x.slot.key)) here (search rules) in
    let world : c.commit.new.world ≡ put_entry c.args.world.now e
    = subst (λ (x : Staged). c.commit.new.world ≡ put_entry c.args.world.now x) here (search rules) in
    let objects : c.commit.new.self ≡ after_commit c.args.self.now.registry.now c.args.world.now e
    = subst (λ (x : Staged). c.commit.new.self ≡ after_commit c.args.self.now.registry.now c.args.world.now x) here (search rules) in
    committed_next c.args.world.now c.args.self.now.registry.now c.args.self.now.staged.items c.args.self.now.tested c.args.self.now.committed c.requires.under_way c.requires.pending range c.commit.new.world c.commit.new.self world objects
