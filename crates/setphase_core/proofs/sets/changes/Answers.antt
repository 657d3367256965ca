use Rattle.std.proofs.Common.{◌≡◌, ◌≢◌, ◌∙◌, refl, sym, subst, true, false, arith, length}
use Rattle.setphase_core.specs.declared.staging.Staged.{Staged}
use Rattle.setphase_core.specs.Settings.{setting, same_value, HasSetting}
use Rattle.setphase_core.specs.Staging.{entry_at}
use Rattle.setphase_core.proofs.Assigns.{entry_read}
use Rattle.setphase_core.proofs.Equal.{value_equal}
use Rattle.setphase_core.proofs.Firsts.{value-exact, value-other}
use Rattle.setphase_core.proofs.Same.{legal_at, same_staged, other_staged, none_staged}
use Rattle.setphase_core.proofs.sets.changes.Goals as goal

pub get_setting-requires : goal.get_setting-requires
get_setting-requires c =
    subst (λ (e : Staged). HasSetting c.args.world.now e.slot.key)
    (sym (entry_read c.args.staged.now c.args.staged.now c.loop-entry.entry-index c.entry-item.result refl c.loop-entry-test.true c.entry-item.is))
    (legal_at c.args.staged.now c.args.world.now c.loop-entry.entry-index c.requires.legal c.loop-entry-test.true).key

pub returns-then-ne : goal.returns-then-ne
returns-then-ne c =
    let here = entry_read c.args.staged.now c.args.staged.now c.loop-entry.entry-index c.entry-item.result refl c.loop-entry-test.true c.entry-item.is in
    let got : c.get_setting.result ≡ setting c.args.world.now c.entry-item.result.slot.key = c.get_setting.ensures.value in
    let ne : same_value c.get_setting.result c.entry-item.result.slot.value ≡ false = grind (arith, value_equal) in
    let other : setting c.args.world.now (entry_at c.args.staged.now c.loop-entry.entry-index).slot.key ≢ (entry_at c.args.staged.now c.loop-entry.entry-index).slot.value
    = subst (λ (e : Staged). setting c.args.world.now e.slot.key ≢ e.slot.value) here (λ e. value-other c.get_setting.result c.entry-item.result.slot.value ne (got ∙ e)) in
    other_staged c.args.staged.now c.args.world.now c.loop-entry.entry-index c.requires.distinct c.requires.legal c.loop-entry-test.true other

pub loop-entry-preserved : goal.loop-entry-preserved
loop-entry-preserved c =
    let here = entry_read c.args.staged.now c.args.staged.now c.loop-entry.entry-index c.entry-item.result refl c.loop-entry-test.true c.entry-item.is in
    let got : c.get_setting.result ≡ setting c.args.world.now c.entry-item.result.slot.key = c.get_setting.ensures.value in
    let eq : same_value c.get_setting.result c.entry-item.result.slot.value ≡ true = grind (arith, value_equal) in
    let same : setting c.args.world.now (entry_at c.args.staged.now c.loop-entry.entry-index).slot.key ≡ (entry_at c.args.staged.now c.loop-entry.entry-index).slot.value
    = subst (λ (e : Staged). setting c.args.world.now e.slot.key ≡ e.slot.value) here (sym got ∙ value-exact c.get_setting.result c.entry-item.result.slot.value eq) in
    same_staged c.args.staged.now c.args.world.now c.loop-entry.entry-index c.requires.legal c.loop-entry-test.true same c.loop-entry.invariant

pub returns : goal.returns
returns c =
    let all : length c.args.staged.now ≡ c.loop-entry.entry-index = omega (arith, c.loop-entry-test.false, c.loop-entry.auto.entry-index-end) in
    none_staged c.args.staged.now c.args.world.now c.loop-entry.entry-index all c.loop-entry.invariant
