use Rattle.std.proofs.Common.{rules, ◌≡◌, ◌-◌, subst, slice_get, Some, OnOk, OnErr, true, false, arith}
use Rattle.setting_keys.specs.declared.SettingValue.{SettingValue}
use Rattle.setphase_core.specs.Objects.{committed_reservation}
use Rattle.setphase_core.specs.Settings.{put}
use Rattle.setphase_core.specs.Staging.{entry_at, object_at}
use Rattle.setphase_core.specs.declared.staging.Staged.{Staged}
use Rattle.setphase_core.proofs.Assigns.{entry_read}
use Rattle.setphase_core.proofs.Commits.{after_called}
use Rattle.setphase_core.proofs.UnderWay.{undo_answered}
use Rattle.setphase_core.proofs.staging.Staging.undo_last.Goals as goal

pub returns-clause-under_way : goal.returns-clause-under_way
returns-clause-under_way g c =
    let n = c.args.self.now.committed in
    let os = c.args.self.now.registry.now in
    let e : Staged = entry_at c.args.self.now.staged.items (c.args.self.now.committed - 1) in
    let here = entry_read c.args.self.now.staged.items c.as_slice.result.now (c.args.self.now.committed - 1) c.index-as_slice-self.result c.as_slice.ensures.value (omega (arith, c.requires.under_way.counted, c.requires.pending)) c.index-as_slice-self.is in
    let puts : OnOk c.undo.result ((value : SettingValue) → slice_get (object_at c.args.self.now.registry.now e.object).reserved e.slot.place ≡ Some (committed_reservation e.slot value) → c.undo.new.world ≡ put c.args.world.now e.slot.key value)
    = subst (λ (x : Staged). OnOk c.undo.result ((value : SettingValue) → slice_get (object_at c.args.self.now.registry.now x.object).reserved x.slot.place ≡ Some (committed_reservation x.slot value) → c.undo.new.world ≡ put c.args.world.now x.slot.key value)) here (search rules) in
    let kept : OnOk c.undo.result (c.undo.new.self ≡ after_called false c.args.self.now.registry.now e)
    = subst (λ (x : Staged). OnOk c.undo.result (c.undo.new.self ≡ after_called false c.args.self.now.registry.now x)) here (search rules) in
    let same : OnErr c.undo.result (c.undo.new.world ≡ c.args.world.now) = search rules in
    let failed : OnErr c.undo.result (c.undo.new.self ≡ after_called true c.args.self.now.registry.now e)
    = subst (λ (x : Staged). OnErr c.undo.result (c.undo.new.self ≡ after_called true c.args.self.now.registry.now x)) here (search rules) in
    undo_answered c.undo.result c.args.world.now c.undo.new.world os c.undo.new.self c.args.self.now.staged.items c.args.self.now.tested n (c.args.self.now.committed - 1) e (omega arith) (c.requires.under_way.undoable (c.args.self.now.committed - 1) (omega arith)) c.requires.under_way puts kept same failed
