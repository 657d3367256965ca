-- The names of all instances rise, and each can be served.
use Rattle.std.proofs.Common.{◌≡◌, ℕ, zero, suc, ◌+◌, ◌<◌, Bool, true, false, cond, nat_eq, nat_lt, List, [], ◌∷◌, ◌++◌, map, refl, sym, subst, ◌∙◌, arith, None, IsTrue}
use Rattle.std.specs.List.{AllByRecursion}
use Rattle.std.specs.declared.cmp.Ordering.TheVariants.{Less}
use Rattle.std.proofs.lemmas.Bool.Decides.{nat_tests}
use Rattle.std.proofs.lemmas.List.Kept.{AllPairs-cons}
use Rattle.std.proofs.lemmas.List.Elements.{All-from_recursion, recursion_from_All}
use Rattle.std.proofs.lemmas.Map.Keys.{sorted_head, sorted_tail}
use Rattle.std.proofs.lemmas.Map.Views.{All-after_first}
use Rattle.frame_core.specs.Octets.{mac_cmp}
use Rattle.fdb_core.specs.declared.row.LearnedRow.{LearnedRow}
use Rattle.fdb_core.specs.Rows.{IsRising as AreRising}
use Rattle.fdb_core.specs.declared.static_row.StaticRow.{StaticRow}
use Rattle.fdb_core.specs.Statics.{numbers_of, index_cmp, made_rows, IsRising as AreRisingStatics}
use Rattle.oid_core.specs.Order.{name_lt}
use Rattle.oid_core.proofs.OrderLaws.{name_lt-cmp}
use Rattle.message_core.specs.declared.binding.Binding.{Binding}
use Rattle.message_core.specs.Instances.{IsRising}
use Rattle.bridge_core.specs.Bridge.{port_count}
use Rattle.setphase_core.specs.declared.world.World.{World}
use Rattle.setphase_core.specs.declared.column.Column.{Column}
use Rattle.setphase_core.specs.declared.column.Column.TheVariants as column
use Rattle.message_core.specs.declared.value.Value.{Value}
use Rattle.setphase_core.specs.Values.{IndexedValue, numbers_from, by_address, by_static, in_index_order}
use Rattle.setphase_core.specs.Columns.{shown_by}
use Rattle.setphase_core.specs.Objects.{ObjectRow}
use Rattle.setphase_core.specs.Registry.{prefixes_of, first_fault, IsKept, under, instances_under, instances}
use Rattle.vacm_core.specs.declared.tables.FamilyRow.{FamilyRow}
use Rattle.vacm_core.specs.FamilyIndex.{family_index}
use Rattle.setphase_core.proofs.Families.{AreAscending, ascending, instance_of}
use Rattle.setphase_core.proofs.Below.{is_below, below_lt}
use Rattle.setphase_core.proofs.Ordered.{AreOrdered, ordered_from}
use Rattle.setphase_core.proofs.Found.{instances-cons, instances-nil}

-- each is less than all later ones
abbrev IsBelowAll : List ℕ → List Binding → Type 0
IsBelowAll name rows = AllByRecursion (λ y. name_lt name y.name ≡ true) rows

abbrev Rises : List Binding → Type 0
Rises [] = Unit {0}
Rises (x ∷ xs) = IsBelowAll x.name xs × Rises xs

abbrev Climbs : List IndexedValue → Type 0
Climbs [] = Unit {0}
Climbs (s ∷ shown) = AllByRecursion (λ t. name_lt s.index t.index ≡ true) shown × Climbs shown

rises_is : (xs : List Binding) → Rises xs → IsRising xs
rises_is [] h = λ i j d lt within. absurd (omega (arith, within))
rises_is (x ∷ xs) h = AllPairs-cons (λ (a c : Binding). IsTrue (name_lt a.name c.name)) x xs (All-from_recursion (λ y. name_lt x.name y.name ≡ true) xs h.0) (rises_is xs h.1)

pub all_append : {X : Type 0} (P : X → Type 0) (xs ys : List X) → AllByRecursion P xs → AllByRecursion P ys → AllByRecursion P (xs ++ ys)
all_append P [] ys h k = k
all_append P (x ∷ xs) ys h k = (h.0, all_append P xs ys h.1 k)

rises_append : (xs ys : List Binding) → Rises xs → Rises ys → AllByRecursion (λ x. IsBelowAll x.name ys) xs → Rises (xs ++ ys)
rises_append [] ys h k l = k
rises_append (x ∷ xs) ys h k l = (all_append (λ y. name_lt x.name y.name ≡ true) xs ys h.0 l.0, rises_append xs ys h.1 k l.1)

-- ---- one object

same_prefix : (p a b : List ℕ) → name_lt (p ++ a) (p ++ b) ≡ name_lt a b
same_prefix [] a b = refl
same_prefix (x ∷ p) a b =
    let lt : nat_lt x x ≡ false = grind (arith, nat_tests) in
    let eq : nat_eq x x ≡ true = grind (arith, nat_tests) in
    rw (lt, eq) (same_prefix p a b)

below_under : (p i : List ℕ) (shown : List IndexedValue) → AllByRecursion (λ t. name_lt i t.index ≡ true) shown → IsBelowAll (p ++ i) (map (under p) shown)
below_under p i [] h = tt
below_under p i (t ∷ shown) h = (same_prefix p i t.index ∙ h.0, below_under p i shown h.1)

rises_under : (p : List ℕ) (shown : List IndexedValue) → Climbs shown → Rises (map (under p) shown)
rises_under p [] h = tt
rises_under p (s ∷ shown) h = (below_under p s.index shown h.0, rises_under p shown h.1)

number_lt : (m n : ℕ) → m < n → name_lt (m ∷ []) (n ∷ []) ≡ true
number_lt m n h = let lt : nat_lt m n ≡ true = grind (arith, nat_tests, h) in rw lt refl

below_ports : (m first count : ℕ) (f : ℕ → Value) → m < first →
    AllByRecursion (λ (t : IndexedValue). name_lt (m ∷ []) t.index ≡ true) (map (λ n. record { index = n ∷ []; value = f n }) (numbers_from first count))
below_ports m first zero f h = tt
below_ports m first (suc count) f h = (number_lt m first h, below_ports m (first + 1) count f (omega (arith, h)))

ports_climb : (first count : ℕ) (f : ℕ → Value) → Climbs (map (λ n. record { index = n ∷ []; value = f n }) (numbers_from first count))
ports_climb first zero f = tt
ports_climb first (suc count) f = (below_ports first (first + 1) count f (omega arith), ports_climb (first + 1) count f)

below_addresses : (r : LearnedRow) (rows : List LearnedRow) (f : LearnedRow → Value) → AllByRecursion (λ s. mac_cmp r.address s.address ≡ Less) rows →
    AllByRecursion (λ (t : IndexedValue). name_lt r.address.0 t.index ≡ true) (by_address rows f)
below_addresses r [] f h = tt
below_addresses r (s ∷ rows) f h = (sym (name_lt-cmp r.address.0 s.address.0 Less (sym h.0)), below_addresses r rows f h.1)

addresses_climb : (rows : List LearnedRow) (f : LearnedRow → Value) → AreRising rows → Climbs (by_address rows f)
addresses_climb [] f h = tt
addresses_climb (r ∷ rows) f h = (
  below_addresses r rows f (recursion_from_All (λ s. mac_cmp r.address s.address ≡ Less) rows (All-after_first (λ (a b : LearnedRow). mac_cmp a.address b.address) r rows h)),
  addresses_climb rows f (sorted_tail (λ (a b : LearnedRow). mac_cmp a.address b.address) r rows h),
)

-- An entry in front of those that are made goes with them where it is made itself.
below_made : (i : List ℕ) (s : StaticRow) (rows : List StaticRow) (f : StaticRow → Value) (made : Bool) → name_lt i (numbers_of s.index) ≡ true →
    AllByRecursion (λ (t : IndexedValue). name_lt i t.index ≡ true) (by_static rows f) →
    AllByRecursion (λ (t : IndexedValue). name_lt i t.index ≡ true) (map (λ (r : StaticRow). record { index = numbers_of r.index; value = f r }) (cond made (s ∷ made_rows rows) (made_rows rows)))
below_made i s rows f true lt more = (lt, more)
below_made i s rows f false lt more = more

below_statics : (r : StaticRow) (rows : List StaticRow) (f : StaticRow → Value) → AllByRecursion (λ (s : StaticRow). index_cmp r.index s.index ≡ Less) rows →
    AllByRecursion (λ (t : IndexedValue). name_lt (numbers_of r.index) t.index ≡ true) (by_static rows f)
below_statics r [] f h = tt
below_statics r (s ∷ rows) f h =
    below_made (numbers_of r.index) s rows f s.made (sym (name_lt-cmp (numbers_of r.index) (numbers_of s.index) Less (sym h.0))) (below_statics r rows f h.1)

made_climb : (r : StaticRow) (rows : List StaticRow) (f : StaticRow → Value) (made : Bool) →
    AllByRecursion (λ (t : IndexedValue). name_lt (numbers_of r.index) t.index ≡ true) (by_static rows f) → Climbs (by_static rows f) →
    Climbs (map (λ (s : StaticRow). record { index = numbers_of s.index; value = f s }) (cond made (r ∷ made_rows rows) (made_rows rows)))
made_climb r rows f true first more = (first, more)
made_climb r rows f false first more = more

statics_climb : (rows : List StaticRow) (f : StaticRow → Value) → AreRisingStatics rows → Climbs (by_static rows f)
statics_climb [] f h = tt
statics_climb (r ∷ rows) f h =
    made_climb r rows f r.made (below_statics r rows f (sorted_head (λ (a b : StaticRow). index_cmp a.index b.index) r rows h))
    (statics_climb rows f (sorted_tail (λ (a b : StaticRow). index_cmp a.index b.index) r rows h))

below_families : (i : List ℕ) (rows : List FamilyRow) (f : FamilyRow → Value) → AllByRecursion (λ (s : FamilyRow). name_lt i (family_index s) ≡ true) rows →
    AllByRecursion (λ (t : IndexedValue). name_lt i t.index ≡ true) (map (instance_of f) rows)
below_families i [] f h = tt
below_families i (r ∷ rows) f h = (h.0, below_families i rows f h.1)

families_climb : (rows : List FamilyRow) (f : FamilyRow → Value) → AreAscending rows → Climbs (map (instance_of f) rows)
families_climb [] f h = tt
families_climb (r ∷ rows) f h = (below_families (family_index r) rows f h.0, families_climb rows f h.1)

climbs : (c : Column) (w : World) → IsKept w → Climbs (shown_by c w)
unfolding shown_by
climbs (column.Base c) w h = (tt, tt)
climbs (column.BasePort c) w h = ports_climb 1 (port_count w.bridge) _
climbs (column.Stp c) w h = (tt, tt)
climbs (column.StpPort c) w h = ports_climb 1 (port_count w.bridge) _
climbs (column.Rapid c) w h = (tt, tt)
climbs (column.ExtPort c) w h = ports_climb 1 (port_count w.bridge) _
climbs (column.Tp c) w h = (tt, tt)
climbs (column.TpFdb c) w h = addresses_climb w.bridge.learned _ h.learned
climbs (column.TpPort c) w h = ports_climb 1 (port_count w.bridge) _
climbs (column.Static c) w h = statics_climb w.bridge.statics.rows _ h.statics
climbs (column.Family c) w h = families_climb (in_index_order w.policy.vacm.families) _ (ascending w.policy.vacm.families h.families)

-- ---- several objects

below_shown : (p i q : List ℕ) (shown : List IndexedValue) → is_below p q ≡ true → IsBelowAll (p ++ i) (map (under q) shown)
below_shown p i q [] h = tt
below_shown p i q (s ∷ shown) h = (below_lt p q i s.index h, below_shown p i q shown h)

below_others : (p i : List ℕ) (rows : List ObjectRow) (w : World) → AllByRecursion (λ q. is_below p q ≡ true) (prefixes_of rows) → IsBelowAll (p ++ i) (instances rows w)
below_others p i [] w h = subst (IsBelowAll (p ++ i)) (sym (instances-nil w)) tt
below_others p i (row ∷ rows) w h =
    subst (IsBelowAll (p ++ i)) (sym (instances-cons row rows w))
    (all_append (λ y. name_lt (p ++ i) y.name ≡ true) (instances_under row w) (instances rows w) (below_shown p i row.prefix (shown_by row.column w) h.0) (below_others p i rows w h.1))

all_below_others : (p : List ℕ) (shown : List IndexedValue) (rows : List ObjectRow) (w : World) → AllByRecursion (λ q. is_below p q ≡ true) (prefixes_of rows) →
    AllByRecursion (λ x. IsBelowAll x.name (instances rows w)) (map (under p) shown)
all_below_others p [] rows w h = tt
all_below_others p (s ∷ shown) rows w h = (below_others p s.index rows w h, all_below_others p shown rows w h)

all_rise : (rows : List ObjectRow) (w : World) → AreOrdered (prefixes_of rows) → IsKept w → Rises (instances rows w)
all_rise [] w h k = subst Rises (sym (instances-nil w)) tt
all_rise (row ∷ rows) w h k =
    subst Rises (sym (instances-cons row rows w))
    (rises_append (instances_under row w) (instances rows w) (rises_under row.prefix (shown_by row.column w) (climbs row.column w k)) (all_rise rows w h.1 k)
    (all_below_others row.prefix (shown_by row.column w) rows w h.0))

pub instances_rising : (rows : List ObjectRow) (w : World) → first_fault rows ≡ None → IsKept w → IsRising (instances rows w)
instances_rising rows w e h = rises_is (instances rows w) (all_rise rows w (ordered_from rows e) h)
