-- What the derived tests of counters, learned and static rows say.
use Rattle.std.proofs.Common.{◌≡◌, Bool, List, refl, ap, rules}
use Rattle.std.specs.Bool.{Decides}
use Rattle.std.specs.Cmp.{booleans_Decides}
use Rattle.std.specs.Cmp.Lexicographic.{pointwise}
use Rattle.std.proofs.lemmas.Bool.Decides.{Decides-and, Decides-like}
use Rattle.std.proofs.lemmas.Slice.Eq.{slice_eq-Decides}
use Rattle.fdb_core.specs.declared.row.LearnedRow.{LearnedRow}
use Rattle.fdb_core.specs.contracts.row.LearnedRowPartialEq.TheImpl as same_row
use Rattle.fdb_core.specs.declared.static_row.StaticRow.{StaticRow}
use Rattle.fdb_core.specs.declared.port_set.PortSet.{PortSet}
use Rattle.fdb_core.specs.declared.static_row.StaticIndex.{StaticIndex}
use Rattle.fdb_core.specs.contracts.port_set.PortSetPartialEq.TheImpl as same_ports
use Rattle.fdb_core.specs.contracts.static_row.StaticIndexPartialEq.TheImpl as same_index
use Rattle.fdb_core.specs.contracts.static_row.StaticRowPartialEq.TheImpl as same_static
use Rattle.bridge_core.specs.declared.counters.PortCounters.{PortCounters}
use Rattle.bridge_core.specs.contracts.counters.PortCountersPartialEq.TheImpl as same_counters

pub row-Decides : (r s : LearnedRow) → Decides (same_row.eq-value.it r s) (r ≡ s)
row-Decides r s = search rules

pub counters-Decides : (p q : PortCounters) → Decides (same_counters.eq-value.it p q) (p ≡ q)
counters-Decides p q = search rules

index-Decides : (i j : StaticIndex) → Decides (same_index.eq-value.it i j) (i ≡ j)
index-Decides i j = search rules

ports-Decides : (s t : PortSet) → Decides (same_ports.eq-value.it s t) (s ≡ t)
ports-Decides s t =
    let of : List Bool → PortSet = λ ports. record { 0 = ports } in
    Decides-like _ (ap of) (ap (λ (x : PortSet). x.0)) (slice_eq-Decides booleans_Decides s.0 t.0 _ refl)

pub static-Decides : (r s : StaticRow) → Decides (same_static.eq-value.it r s) (r ≡ s)
static-Decides r s =
    Decides-like _
    (λ h i. record { index = h.0 i; made = h.1.0 i; ports = h.1.1 i })
    (λ e. (ap (λ (x : StaticRow). x.index) e, (ap (λ (x : StaticRow). x.made) e, ap (λ (x : StaticRow). x.ports) e)))
    (Decides-and _ _ (index-Decides _ _) (Decides-and _ _ (booleans_Decides _ _) (ports-Decides _ _)))

pub static_rows : (rows others : List StaticRow) (r : Bool) → r ≡ pointwise same_static.eq-value.it rows others → Decides r (rows ≡ others)
static_rows rows others r e = slice_eq-Decides static-Decides rows others r e
