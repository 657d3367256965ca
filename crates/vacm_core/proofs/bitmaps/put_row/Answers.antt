use Rattle.std.proofs.Common.{◌≡◌, ◌+◌, Some, sym, ap, subst, ◌∙◌, Vec, Global}
use Rattle.std.specs.List.{slice_get}
use Rattle.std.proofs.lemmas.Option.{slice_get-get_or}
use Rattle.vacm_core.specs.declared.bitmaps.Block.{Block}
use Rattle.vacm_core.specs.declared.tables.FamilyRow.{FamilyRow}
use Rattle.vacm_core.proofs.IndexBlocks.{ArePut, put_here, put_past, put_end}
use Rattle.vacm_core.proofs.bitmaps.put_row.Goals as goal
use Rattle.vacm_core.proofs.bitmaps.put_row.Goals.{then-other-n, else-other-n}

pub loop-rank-preserved : goal.loop-rank-preserved
loop-rank-preserved c =
    let rows = c.args.rows.now in
    let index = c.args.index.now in
    let n = c.args.n in
    let rank = c.loop-rank.rank in
    elim c.if-other-n.branch [
      | then-other-n w ↦
          let row : FamilyRow = w.index-rows-n.result in
          let here : slice_get rows n ≡ Some row = slice_get-get_or rows n row c.requires.within ∙ ap Some (sym w.index-rows-n.is) in
          subst (λ (v : Vec Block Global). ArePut rows index n (rank + 1) v.items) (sym w.blocks-is)
          (put_here rows index n rank c.loop-rank.blocks.items w.put_at.new.blocks.items row w.if-other-n.true here w.put_at.ensures.here w.put_at.ensures.others c.loop-rank.invariant)
      | else-other-n w ↦
          subst (λ (v : Vec Block Global). ArePut rows index n (rank + 1) v.items) (sym w.blocks-is)
          (put_past rows index n rank c.loop-rank.blocks.items w.if-other-n.false c.loop-rank.invariant)
    ]

pub returns : goal.returns
returns c = put_end c.args.rows.now c.args.index.now c.args.n c.loop-rank.rank c.loop-rank.blocks.items c.loop-rank-test.false c.loop-rank.invariant
