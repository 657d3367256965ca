-- In the order of communities by their indexes only rows of one index tie.
use Rattle.std.proofs.Common.{ℕ, List, refl}
use Rattle.std.specs.Cmp.Lexicographic.{slice_cmp}
use Rattle.std.specs.Ordering.{nat_cmp}
use Rattle.std.proofs.lemmas.Cmp.{nat_list_cmp_total}
use Rattle.oid_core.proofs.OrderLaws.{cmp_equal}
use Rattle.vacm_core.proofs.Ties.{Ties, bytes_same, neither}
use Rattle.community_core.specs.Communities.{has_name, same_index, index_before}

pub index_ties : (name : List ℕ) → Ties (has_name name) index_before same_index
index_ties name a b pass_a pass_b not_a not_b =
    bytes_same a.index b.index (cmp_equal a.index b.index (neither (slice_cmp nat_cmp) nat_list_cmp_total a.index b.index (slice_cmp nat_cmp a.index b.index) refl not_a not_b))
