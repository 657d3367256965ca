-- The order of communities by their indexes, in which rows of one index tie.
use Rattle.std.specs.Prelude.{◌≡◌}
use Rattle.std.specs.Cmp.{IsTotalOrder, IsStrictWeakOrder}
use Rattle.std.specs.Ordering.{is_eq}
use Rattle.std.proofs.Common.{sym}
use Rattle.std.proofs.lemmas.Cmp.{on_total, nat_list_cmp_total}
use Rattle.std.proofs.lemmas.List.MinMax.{ranks_by}
use Rattle.std.proofs.lemmas.Map.Text.{is_eq-slice_cmp}
use Rattle.community_core.specs.declared.community.CommunityRow.{CommunityRow}
use Rattle.community_core.specs.Communities.{same_index, index_cmp, index_before}

pub index_order : IsStrictWeakOrder index_before
index_order = ranks_by nat_list_cmp_total (λ (r : CommunityRow). r.index)

pub index_total : IsTotalOrder index_cmp
index_total = on_total (λ (r : CommunityRow). r.index) nat_list_cmp_total

pub index_ties : (a b : CommunityRow) → same_index a b ≡ is_eq (index_cmp a b)
index_ties a b = sym (is_eq-slice_cmp a.index b.index)
