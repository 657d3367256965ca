use Rattle.std.proofs.Common.{◌∙◌, ◌-◌, ap, sym, subst, refl, arith, length, ◌∷◌, slice_index_or}
use Rattle.rstp_settings.specs.declared.key.Key.{Key}
use Rattle.setting_keys.specs.declared.SettingKey.{SettingKey}
use Rattle.setphase_core.specs.Settings.{bridge_keys}
use Rattle.setphase_core.specs.declared.staging.Staged.{Staged}
use Rattle.setphase_core.proofs.Assigns.{entry_read}
use Rattle.setphase_core.proofs.Undoes.{Undoes, undo_start, undo_step, undo_failed, undo_space}
use Rattle.setphase_core.proofs.committing.undo_all.Goals as goal

pub loop-staging-init : goal.loop-staging-init
loop-staging-init g c = record {
  under_way = c.requires.under_way;
  same_reference = refl;
  staged = refl;
  counted = omega (arith, ap (length {A = Key}) c.new-stuck.ensures);
  undoes = subst (λ keys. Undoes c.args.world.now c.args.staging.now.registry.now c.args.staging.now.staged.items c.args.staging.now.committed c.args.world.now c.args.staging.now.registry.now c.args.staging.now.committed keys) (sym (ap bridge_keys c.new-stuck.ensures)) (undo_start c.args.world.now c.args.staging.now.registry.now c.args.staging.now.staged.items c.args.staging.now.committed);
}

pub loop-staging-preserved : goal.loop-staging-preserved
loop-staging-preserved g c =
    let i = c.loop-staging.invariant in
    record {
      under_way = c.undo_last.ensures.under_way;
      same_reference = c.undo_last.ensures.same_reference ∙ i.same_reference;
      staged = c.undo_last.ensures.staged ∙ i.staged;
      counted = omega (arith, c.undo_last.ensures.committed, i.counted);
      undoes = undo_step c.args.world.now c.loop-staging.world _ c.args.staging.now.registry.now c.loop-staging.staging.registry.now _ c.args.staging.now.staged.items c.loop-staging.staging.staged.items c.args.staging.now.committed c.loop-staging.staging.committed c.undo_last.new.self.committed (bridge_keys c.loop-staging.stuck) i.staged c.requires.under_way.distinct c.requires.under_way.counted (omega (arith, i.counted)) c.undo_last.ensures.committed i.undoes
          (i.under_way.undoable (c.loop-staging.staging.committed - 1) (omega arith)).within
          c.in-Ok.ensures.kept c.in-Ok.ensures.passes c.in-Ok.ensures.put;
    }

pub loop-staging-preserved-in_default : goal.loop-staging-preserved-in_default
loop-staging-preserved-in_default g c =
    let i = c.loop-staging.invariant in
    let key : SettingKey = (slice_index_or c.as_slice.result.now (c.loop-staging.staging.committed - 1) c.index-as_slice-staging.result).slot.key in
    let here = entry_read c.loop-staging.staging.staged.items c.as_slice.result.now (c.loop-staging.staging.committed - 1) c.index-as_slice-staging.result c.as_slice.ensures.value (omega (arith, i.under_way.counted)) c.index-as_slice-staging.is in
    let after : Undoes c.args.world.now c.args.staging.now.registry.now c.args.staging.now.staged.items c.args.staging.now.committed c.undo_last.new.world c.undo_last.new.self.registry.now c.undo_last.new.self.committed (key ∷ bridge_keys c.loop-staging.stuck)
    = undo_failed c.args.world.now c.loop-staging.world _ c.args.staging.now.registry.now c.loop-staging.staging.registry.now _ c.args.staging.now.staged.items c.loop-staging.staging.staged.items c.args.staging.now.committed c.loop-staging.staging.committed c.undo_last.new.self.committed (bridge_keys c.loop-staging.stuck) i.staged c.requires.under_way.distinct c.requires.under_way.counted (omega (arith, i.counted)) c.undo_last.ensures.committed i.undoes
    key (ap (λ (x : Staged). x.slot.key) (sym c.index-as_slice-staging.is ∙ here))
    (i.under_way.undoable (c.loop-staging.staging.committed - 1) (omega arith)).within
    c.in_default.ensures.unchanged c.in_default.ensures.failed c.in_default.ensures.fails in
    record {
      under_way = c.undo_last.ensures.under_way;
      same_reference = c.undo_last.ensures.same_reference ∙ i.same_reference;
      staged = c.undo_last.ensures.staged ∙ i.staged;
      counted = omega (arith, c.undo_last.ensures.committed, i.counted, c.put_line.ensures.count);
      undoes = subst (λ ks. Undoes c.args.world.now c.args.staging.now.registry.now c.args.staging.now.staged.items c.args.staging.now.committed c.undo_last.new.world c.undo_last.new.self.registry.now c.undo_last.new.self.committed ks) (sym c.put_line.ensures.keys) after;
    }

pub undo_last-requires : goal.undo_last-requires
undo_last-requires g c =
    let i = c.loop-staging.invariant in
    let may = c.requires.may.1 in
    let fits = c.well_formed in (
      omega arith,
      (
        c.loop-staging-test.true,
        (
          i.under_way,
          undo_space c.args.world.now c.loop-staging.world c.loop-staging.world c.args.staging.now.registry.now c.loop-staging.staging.registry.now c.loop-staging.staging.registry.now c.args.staging.now.staged.items c.loop-staging.staging.staged.items c.args.staging.now.committed c.loop-staging.staging.committed (c.loop-staging.staging.committed - 1) (bridge_keys c.loop-staging.stuck) i.staged c.requires.under_way.distinct c.requires.under_way.counted (omega (arith, i.counted)) (omega arith) i.undoes
              c.requires.may.0 may.stands may.world may.space,
        ),
      ),
    )
