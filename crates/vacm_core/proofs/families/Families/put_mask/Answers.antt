use Rattle.std.proofs.Common.{◌≡◌, ◌<◌, ℕ, List, length, sym, ap, subst, ◌∙◌, arith}
use Rattle.vacm_core.specs.declared.tables.FamilyRow.{FamilyRow}
use Rattle.vacm_core.specs.Bitmaps.{AreIn, AreInBut}
use Rattle.vacm_core.specs.declared.bitmaps.Block.{Block}
use Rattle.vacm_core.specs.Changes.{with_mask}
use Rattle.vacm_core.specs.Keys.{IsIndex, view_key, index_key}
use Rattle.vacm_core.specs.Trees.{reaches, IsTreeOf, IsTreeBut, AreWithTree}
use Rattle.vacm_core.proofs.Puts.{mask_alike, mask_tree, mask_blocks, keys_kept, views_kept, indexes_kept}
use Rattle.vacm_core.proofs.families.Families.put_mask.Goals as goal

pub mark_changed-requires-clause-within : goal.mark_changed-requires-clause-within
mark_changed-requires-clause-within c =
    let old : List FamilyRow = c.self.inside.rows.items in
    let lt : c.args.n < length old = subst (λ (l : List FamilyRow). c.args.n < length l) (sym c.self.view_is) c.requires in
    let seen : c.as_slice-2.result.now ≡ with_mask old c.args.n c.args.mask = c.as_slice-2.ensures.value ∙ c.put_mask-before.ensures.rows in
    omega (arith, ap length seen, (mask_alike old c.args.n c.args.mask lt).long)

pub mark_changed-requires-clause-tree : goal.mark_changed-requires-clause-tree
mark_changed-requires-clause-tree c =
    let old : List FamilyRow = c.self.inside.rows.items in
    let lt : c.args.n < length old = subst (λ (l : List FamilyRow). c.args.n < length l) (sym c.self.view_is) c.requires in
    let seen : c.as_slice-2.result.now ≡ with_mask old c.args.n c.args.mask = c.as_slice-2.ensures.value ∙ c.put_mask-before.ensures.rows in
    subst (λ (l : List FamilyRow). IsTreeBut (reaches c.self.inside.tree) l c.args.n) (sym seen) (mask_tree (reaches c.self.inside.tree) old c.args.n c.args.mask lt c.self.invariant.0.placed)

pub put_row-requires-clause-within : goal.put_row-requires-clause-within
put_row-requires-clause-within c =
    let old : List FamilyRow = c.self.inside.rows.items in
    let lt : c.args.n < length old = subst (λ (l : List FamilyRow). c.args.n < length l) (sym c.self.view_is) c.requires in
    let seen : c.as_slice-3.result.now ≡ with_mask old c.args.n c.args.mask = c.as_slice-3.ensures.value ∙ c.put_mask-before.ensures.rows in
    omega (arith, ap length seen, (mask_alike old c.args.n c.args.mask lt).long)

pub put_row-requires-clause-others : goal.put_row-requires-clause-others
put_row-requires-clause-others c =
    let old : List FamilyRow = c.self.inside.rows.items in
    let lt : c.args.n < length old = subst (λ (l : List FamilyRow). c.args.n < length l) (sym c.self.view_is) c.requires in
    let seen : c.as_slice-3.result.now ≡ with_mask old c.args.n c.args.mask = c.as_slice-3.ensures.value ∙ c.put_mask-before.ensures.rows in
    let index : List ℕ = c.self.inside.table_index in
    let blocks : List Block = c.self.inside.blocks.items in
    subst (λ (l : List FamilyRow). AreInBut l c.as_slice-index.result.now c.args.n blocks) (sym seen)
    (subst (λ (i : List ℕ). AreInBut (with_mask old c.args.n c.args.mask) i c.args.n blocks) (sym c.as_slice-index.ensures) (mask_blocks old c.args.n c.args.mask index blocks lt c.self.invariant.3))

pub invariant_of-self : goal.invariant_of-self
invariant_of-self c =
    let old : List FamilyRow = c.self.inside.rows.items in
    let lt : c.args.n < length old = subst (λ (l : List FamilyRow). c.args.n < length l) (sym c.self.view_is) c.requires in
    let new = with_mask old c.args.n c.args.mask in
    let seen : c.as_slice-2.result.now ≡ new = c.as_slice-2.ensures.value ∙ c.put_mask-before.ensures.rows in
    let alike = mask_alike old c.args.n c.args.mask lt in
    let seen_too : c.as_slice-3.result.now ≡ new = c.as_slice-3.ensures.value ∙ c.put_mask-before.ensures.rows in
    let are : AreIn new c.self.inside.table_index c.put_row.new.blocks.items =
    subst (λ (l : List FamilyRow). AreIn l c.self.inside.table_index c.put_row.new.blocks.items) seen_too (subst (λ (i : List ℕ). AreIn c.as_slice-3.result.now i c.put_row.new.blocks.items) c.as_slice-index.ensures c.put_row.ensures) in
    let placed : IsTreeOf (reaches c.mark_changed.new.tree) new = subst (IsTreeOf (reaches c.mark_changed.new.tree)) seen c.mark_changed.ensures in
    let differ = keys_kept old new alike c.self.invariant.0.differ in
    let tree : AreWithTree new c.mark_changed.new.tree = record { differ = differ; placed = placed } in
    subst (λ (l : List FamilyRow). AreWithTree l c.mark_changed.new.tree × IsIndex view_key l c.self.inside.view_index × IsIndex index_key l c.self.inside.table_index × AreIn l c.self.inside.table_index c.put_row.new.blocks.items)
    (sym c.put_mask-before.ensures.rows)
    (tree, views_kept old new c.self.inside.view_index alike c.self.invariant.1, indexes_kept old new c.self.inside.table_index alike c.self.invariant.2, are)
