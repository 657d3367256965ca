use Rattle.std.proofs.Common.{◌<◌, List, length, sym, subst}
use Rattle.vacm_core.specs.declared.tables.FamilyRow.{FamilyRow}
use Rattle.vacm_core.specs.Bitmaps.{AreIn}
use Rattle.vacm_core.specs.Changes.{with_type}
use Rattle.vacm_core.specs.Keys.{IsIndex, view_key, index_key}
use Rattle.vacm_core.specs.Trees.{reaches, AreWithTree}
use Rattle.vacm_core.proofs.Puts.{type_alike, type_tree, type_blocks, keys_kept, views_kept, indexes_kept}
use Rattle.vacm_core.proofs.families.Families.put_type.Goals as goal

pub invariant_of-self : goal.invariant_of-self
invariant_of-self c =
    let old : List FamilyRow = c.self.inside.rows.items in
    let lt : c.args.n < length old = subst (λ (l : List FamilyRow). c.args.n < length l) (sym c.self.view_is) c.requires in
    let new = with_type old c.args.n c.args.included in
    let alike = type_alike old c.args.n c.args.included lt in
    let tree : AreWithTree new c.self.inside.tree = record {
      differ = keys_kept old new alike c.self.invariant.0.differ;
      placed = type_tree (reaches c.self.inside.tree) old c.args.n c.args.included lt c.self.invariant.0.placed;
    } in
    subst (λ (l : List FamilyRow). AreWithTree l c.self.inside.tree × IsIndex view_key l c.self.inside.view_index × IsIndex index_key l c.self.inside.table_index × AreIn l c.self.inside.table_index c.self.inside.blocks.items) (sym c.put_type.ensures.rows)
    (tree, views_kept old new c.self.inside.view_index alike c.self.invariant.1, indexes_kept old new c.self.inside.table_index alike c.self.invariant.2, type_blocks old c.args.n c.args.included c.self.inside.table_index c.self.inside.blocks.items lt c.self.invariant.3)
