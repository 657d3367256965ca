use Rattle.std.proofs.Common.{refl, sym, subst}
use Rattle.setphase_core.specs.declared.staging.Staged.{Staged}
use Rattle.setphase_core.specs.Settings.{HasSetting}
use Rattle.setphase_core.proofs.Assigns.{entry_read}
use Rattle.setphase_core.proofs.Same.{legal_at}
use Rattle.setphase_core.proofs.sets.first_lacking.Goals as goal

pub lacks_row-requires-clause-has : goal.lacks_row-requires-clause-has
lacks_row-requires-clause-has c =
    subst (λ (e : Staged). HasSetting c.args.world.now e.slot.key)
    (sym (entry_read c.args.staged.now c.args.staged.now c.loop-entry.entry-index c.entry-item.result refl c.loop-entry-test.true c.entry-item.is))
    (legal_at c.args.staged.now c.args.world.now c.loop-entry.entry-index c.requires.legal c.loop-entry-test.true).key
