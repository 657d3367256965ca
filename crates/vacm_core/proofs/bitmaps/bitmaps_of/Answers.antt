use Rattle.std.proofs.Common.{◌*◌, ◌+◌, ◌<◌, ℕ, List, length, get_or, ap, ◌∙◌, sym, subst}
use Rattle.std.proofs.lemmas.List.{length-append}
use Rattle.vacm_core.specs.Bitmaps.{AreIn}
use Rattle.vacm_core.specs.declared.bitmaps.Block.{Block}
use Rattle.vacm_core.proofs.IndexBlocks.{one_more}
use Rattle.vacm_core.proofs.bitmaps.bitmaps_of.Goals as goal

pub block_of-requires-clause-short : goal.block_of-requires-clause-short
block_of-requires-clause-short c = c.numbers_of.ensures.short

pub block_of-requires-clause-within : goal.block_of-requires-clause-within
block_of-requires-clause-within c k d lt =
    subst (λ (n : ℕ). n < length c.args.rows.now) (sym {A = ℕ} (c.numbers_of.ensures.at k d lt)) (c.requires (c.loop-block.block * 64 + k) d (c.numbers_of.ensures.within k lt))

pub loop-block-preserved : goal.loop-block-preserved
loop-block-preserved c =
    let before = c.loop-block.blocks.items in
    let long = c.loop-block.invariant.long in
    let at = c.numbers_of.ensures.at in
    let all = c.numbers_of.ensures.all in
    let new = c.in_ok-push.ensures.items in
    record {
      long = ap length new ∙ length-append before _ ∙ ap (λ (n : ℕ). n + 1) long;
      are = subst (AreIn c.args.rows.now c.args.index.now) (sym {A = List Block} new)
          (one_more c.args.rows.now c.args.index.now before c.in_ok-block_of.field-0 c.numbers_of.result.now c.loop-block.invariant.are c.in_ok-block_of.ensures
          (λ k d lt. at k d lt ∙ ap (λ (b : ℕ). get_or c.args.index.now (b * 64 + k) d) (sym long))
          (λ k small inside. all k small (subst (λ (b : ℕ). b * 64 + k < length c.args.index.now) long inside)));
    }
