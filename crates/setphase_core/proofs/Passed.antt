-- A walk that passes over objects: what it finds, and how many objects it passes over.
use Rattle.std.proofs.Common.{◌≡◌, ℕ, zero, suc, ◌+◌, ◌<◌, ◌≤◌, Bool, true, false, not, ◌&&◌, ◌||◌, cond, List, [], ◌∷◌, ◌++◌, map, filter, length, drop, find, refl, sym, ap, subst, ◌∙◌, arith, Option, Some, None, IfSome}
use Rattle.std.specs.List.{AllByRecursion, count_by}
use Rattle.std.specs.Option.{option_map}
use Rattle.std.proofs.lemmas.Bool.{or_parts}
use Rattle.std.proofs.lemmas.List.{append-nil}
use Rattle.std.proofs.lemmas.List.Elements.{filter-append}
use Rattle.std.proofs.lemmas.List.Sums.{sum_by-cons}
use Rattle.oid_core.specs.Order.{name_lt, is_prefix}
use Rattle.oid_core.proofs.OrderLaws.{prefix_of}
use Rattle.message_core.specs.declared.binding.Binding.{Binding}
use Rattle.message_core.specs.Instances.{next_of, IsServable}
use Rattle.setphase_core.specs.declared.world.World.{World}
use Rattle.setphase_core.specs.Values.{IndexedValue}
use Rattle.setphase_core.specs.declared.registry.RegistryFault.TheVariants.{Unsorted, Nested}
use Rattle.setphase_core.specs.Columns.{shown_by}
use Rattle.setphase_core.specs.Objects.{ObjectRow}
use Rattle.setphase_core.specs.Registry.{prefixes_of, first_fault, AreNamed, IsKept, under, instances_under, instances}
use Rattle.setphase_core.specs.Searching.{prefix_at, may_follow}
use Rattle.setphase_core.specs.Passing.{open_rows, open_instances, passed_after, passed_ahead, PassesHidden}
use Rattle.setphase_core.specs.Walking.{IsWalked}
use Rattle.setphase_core.proofs.Below.{is_below, below_from, below_lt, below_more, below_lt_then, above_not_lt, above_not_begun}
use Rattle.setphase_core.proofs.Searches.{IsStart}
use Rattle.setphase_core.proofs.Ordered.{AreOrdered, ordered_from}
use Rattle.setphase_core.proofs.Found.{instances-cons, instances-nil}
use Rattle.setphase_core.proofs.Rising.{all_append}
use Rattle.setphase_core.proofs.Served.{instances_servable}
use Rattle.setphase_core.proofs.Next.{next-nil, next_past, first_here, first_later, named_some}

-- ---- which objects may have an instance after a name

below_from_none : (name p : List ℕ) → may_follow name p ≡ false → is_below p name ≡ true
below_from_none name p h =
    let parts = or_parts (is_prefix p name) (name_lt name p) h in
    below_from p name parts.1 parts.0

none_from_below : (name p : List ℕ) → is_below p name ≡ true → may_follow name p ≡ false
none_from_below name p h =
    let begun : is_prefix p name ≡ false = above_not_begun p name h in
    rw begun (above_not_lt p name h)

-- one that is in front of a name is in front of each greater name
none_later : (name later p : List ℕ) → name_lt name later ≡ true → may_follow name p ≡ false → may_follow later p ≡ false
none_later name later p h k = none_from_below later p (below_lt_then p name later (below_from_none name p k) h)

follows_greater : (name p : List ℕ) → name_lt name p ≡ true → may_follow name p ≡ true
follows_greater name p h = elim (is_prefix p name) as (λ b. (b || name_lt name p) ≡ true) [ true ↦ refl | false ↦ h ]

-- ---- what a search finds

find_holds : {X : Type 0} (P : X → Type 0) (t : X → Bool) (xs : List X) (x : X) → AllByRecursion P xs → find t xs ≡ Some x → P x
find_holds P t [] x h e = absurd (cc)
find_holds P t (y ∷ xs) x h e = pick (t y) (find_holds P t xs x h.1) e
  where
    pick : (b : Bool) → (find t xs ≡ Some x → P x) → cond b (Some y) (find t xs) ≡ Some x → P x
    pick true more f = let same : y ≡ x = cc in subst P same h.0
    pick false more f = more f

find_tests : {X : Type 0} (t : X → Bool) (xs : List X) (x : X) → find t xs ≡ Some x → t x ≡ true
find_tests t [] x e = absurd (cc)
find_tests t (y ∷ xs) x e = pick (t y) refl (find_tests t xs x) e
  where
    pick : (b : Bool) → t y ≡ b → (find t xs ≡ Some x → t x ≡ true) → cond b (Some y) (find t xs) ≡ Some x → t x ≡ true
    pick true h more f = let same : y ≡ x = cc in ap t (sym same) ∙ h
    pick false h more f = more f

-- ---- lists of objects that begin at a later one

pub ordered_tail : (row : ObjectRow) (rows : List ObjectRow) → first_fault (row ∷ rows) ≡ None → first_fault rows ≡ None
ordered_tail row [] e = refl
ordered_tail row (next ∷ rows) e = second (name_lt next.prefix row.prefix) (is_prefix row.prefix next.prefix) e
  where
    second : (a b : Bool) → cond a (Some Unsorted) (cond b (Some Nested) (first_fault (next ∷ rows))) ≡ None → first_fault (next ∷ rows) ≡ None
    second true b f = absurd (cc)
    second false true f = absurd (cc)
    second false false f = f

pub ordered_drop : (s : ℕ) (rows : List ObjectRow) → first_fault rows ≡ None → first_fault (drop s rows) ≡ None
ordered_drop zero rows e = e
ordered_drop (suc s) [] e = refl
ordered_drop (suc s) (row ∷ rows) e = ordered_drop s rows (ordered_tail row rows e)

module _ (passes : List ℕ → Bool) where
  -- the first instance after a name among those of the objects that are not passed over
  abbrev found_open : List ObjectRow → World → List ℕ → Option Binding
  found_open rows w n = next_of (open_instances passes rows w) n

  abbrev passed_count : List ObjectRow → ℕ
  passed_count rows = count_by (λ row. passes row.prefix) rows

  -- what a test stated of a name
  pub test_is : {p q : List ℕ} {stated b : Bool} → p ≡ q → stated ≡ passes p → stated ≡ b → passes q ≡ b
  test_is {p = p} {q = q} {stated = stated} {b = b} e f h = ap passes (sym e) ∙ sym f ∙ h

  -- ---- one object more

  open_passed : (row : ObjectRow) (rows : List ObjectRow) → passes row.prefix ≡ true → open_rows passes (row ∷ rows) ≡ open_rows passes rows
  open_passed row rows h = rw h refl

  open_kept : (row : ObjectRow) (rows : List ObjectRow) → passes row.prefix ≡ false → open_rows passes (row ∷ rows) ≡ row ∷ open_rows passes rows
  open_kept row rows h = rw h refl

  pub found_end : (w : World) (n : List ℕ) → None ≡ found_open [] w n
  found_end w n = sym (next-nil w n)

  pub found_passed : (row : ObjectRow) (rows : List ObjectRow) (w : World) (n : List ℕ) → passes row.prefix ≡ true → found_open (row ∷ rows) w n ≡ found_open rows w n
  found_passed row rows w n h = ap (λ (rs : List ObjectRow). next_of (instances rs w) n) (open_passed row rows h)

  pub found_kept : (row : ObjectRow) (rows : List ObjectRow) (w : World) (n : List ℕ) → passes row.prefix ≡ false → found_open (row ∷ rows) w n ≡ next_of (instances (row ∷ open_rows passes rows) w) n
  found_kept row rows w n h = ap (λ (rs : List ObjectRow). next_of (instances rs w) n) (open_kept row rows h)

  pub found_here : (row : ObjectRow) (rows : List ObjectRow) (w : World) (n : List ℕ) (x : Binding) → passes row.prefix ≡ false → Some x ≡ next_of (instances_under row w) n → Some x ≡ found_open (row ∷ rows) w n
  found_here row rows w n x h e = first_here row (open_rows passes rows) w n x e ∙ sym (found_kept row rows w n h)

  pub found_later : (row : ObjectRow) (rows : List ObjectRow) (w : World) (n : List ℕ) → passes row.prefix ≡ false → None ≡ next_of (instances_under row w) n → found_open (row ∷ rows) w n ≡ found_open rows w n
  found_later row rows w n h e = found_kept row rows w n h ∙ first_later row (open_rows passes rows) w n e

  -- ---- how many are passed over

  count_one : (row : ObjectRow) (rows : List ObjectRow) → passed_count (row ∷ rows) ≡ cond (passes row.prefix) 1 0 + passed_count rows
  count_one row rows = sum_by-cons (λ (r : ObjectRow). cond (passes r.prefix) 1 0) row rows

  after_one : (n : List ℕ) (row : ObjectRow) (rows : List ObjectRow) → passed_after passes (row ∷ rows) n ≡ cond (passes row.prefix && may_follow n row.prefix) 1 0 + passed_after passes rows n
  after_one n row rows = sum_by-cons (λ (r : ObjectRow). cond (passes r.prefix && may_follow n r.prefix) 1 0) row rows

  -- one that does not count
  after_skips : (n : List ℕ) (row : ObjectRow) (rows : List ObjectRow) → (passes row.prefix && may_follow n row.prefix) ≡ false → passed_after passes (row ∷ rows) n ≡ passed_after passes rows n
  after_skips n row rows h =
      let none : ◌≡◌ {A = ℕ} (cond (passes row.prefix && may_follow n row.prefix) 1 0) 0 = ap (λ (b : Bool). cond {A = ℕ} b 1 0) h in
      omega (arith, none, after_one n row rows)

  not_passed : (n : List ℕ) (row : ObjectRow) → passes row.prefix ≡ false → (passes row.prefix && may_follow n row.prefix) ≡ false
  not_passed n row h = rw h refl

  not_following : (n : List ℕ) (row : ObjectRow) → may_follow n row.prefix ≡ false → (passes row.prefix && may_follow n row.prefix) ≡ false
  not_following n row h = ap (λ (b : Bool). passes row.prefix && b) h ∙ neither (passes row.prefix)
    where
      neither : (b : Bool) → (b && false) ≡ false
      neither true = refl
      neither false = refl

  ahead_skips : (row : ObjectRow) (rows : List ObjectRow) (o : Option Binding) → IfSome o (λ b. (passes row.prefix && may_follow b.name row.prefix) ≡ false) → passed_ahead passes (row ∷ rows) o ≡ passed_ahead passes rows o
  ahead_skips row rows None h = refl
  ahead_skips row rows (Some b) h = after_skips b.name row rows h

  -- where all may follow, each that is passed over counts
  count_all : (n : List ℕ) (rows : List ObjectRow) → AllByRecursion (λ row. may_follow n row.prefix ≡ true) rows → passed_count rows ≡ passed_after passes rows n
  count_all n [] h = refl
  count_all n (row ∷ rows) h =
      let one : ◌≡◌ {A = ℕ} (cond (passes row.prefix) 1 0) (cond (passes row.prefix && may_follow n row.prefix) 1 0) = rw h.0 (same (passes row.prefix)) in
      let more : passed_count rows ≡ passed_after passes rows n = count_all n rows h.1 in
      omega (arith, one, more, count_one row rows, after_one n row rows)
    where
      same : (b : Bool) → ◌≡◌ {A = ℕ} (cond b 1 0) (cond (b && true) 1 0)
      same true = refl
      same false = refl

  -- no more than all that are passed over
  pub after_at_most : (n : List ℕ) (rows : List ObjectRow) → passed_after passes rows n ≤ passed_count rows
  after_at_most n [] = omega arith
  after_at_most n (row ∷ rows) =
      let one : cond (passes row.prefix && may_follow n row.prefix) 1 0 ≤ cond (passes row.prefix) 1 0 = less (passes row.prefix) (may_follow n row.prefix) in
      let more : passed_after passes rows n ≤ passed_count rows = after_at_most n rows in
      omega (arith, one, more, count_one row rows, after_one n row rows)
    where
      less : (a b : Bool) → cond (a && b) 1 0 ≤ cond a 1 0
      less true true = omega arith
      less true false = omega arith
      less false b = omega arith

  -- ---- what is found behind an object that is in front of all others

  above_shown : (p q : List ℕ) (shown : List IndexedValue) → is_below p q ≡ true → AllByRecursion (λ b. may_follow b.name p ≡ false) (map (under q) shown)
  above_shown p q [] h = tt
  above_shown p q (s ∷ shown) h = (none_from_below (q ++ s.index) p (below_more p q s.index h), above_shown p q shown h)

  above_open : (p : List ℕ) (rows : List ObjectRow) (w : World) → AllByRecursion (λ q. is_below p q ≡ true) (prefixes_of rows) → AllByRecursion (λ b. may_follow b.name p ≡ false) (open_instances passes rows w)
  above_open p [] w h = subst (AllByRecursion (λ (b : Binding). may_follow b.name p ≡ false)) (sym (instances-nil w)) tt
  above_open p (row ∷ rows) w h = pick (passes row.prefix) (above_open p rows w h.1)
    where
      pick : (b : Bool) → AllByRecursion (λ (x : Binding). may_follow x.name p ≡ false) (open_instances passes rows w) →
          AllByRecursion (λ (x : Binding). may_follow x.name p ≡ false) (instances (cond (not b) (row ∷ open_rows passes rows) (open_rows passes rows)) w)
      pick true more = more
      pick false more =
          subst (AllByRecursion (λ (x : Binding). may_follow x.name p ≡ false)) (sym (instances-cons row (open_rows passes rows) w))
          (all_append (λ (x : Binding). may_follow x.name p ≡ false) (instances_under row w) (open_instances passes rows w) (above_shown p row.prefix (shown_by row.column w) h.0) more)

  -- and what an object shows is in front of all later ones
  in_front : (p i : List ℕ) (rows : List ObjectRow) → AllByRecursion (λ q. is_below p q ≡ true) (prefixes_of rows) → AllByRecursion (λ row. may_follow (p ++ i) row.prefix ≡ true) rows
  in_front p i [] h = tt
  in_front p i (row ∷ rows) h =
      let less : name_lt (p ++ i) row.prefix ≡ true = ap (name_lt (p ++ i)) (sym (append-nil row.prefix)) ∙ below_lt p row.prefix i [] h.0 in
      (follows_greater (p ++ i) row.prefix less, in_front p i rows h.1)

  all_in_front : (p : List ℕ) (shown : List IndexedValue) (rows : List ObjectRow) → AllByRecursion (λ q. is_below p q ≡ true) (prefixes_of rows) →
      AllByRecursion (λ b. AllByRecursion (λ row. may_follow b.name row.prefix ≡ true) rows) (map (under p) shown)
  all_in_front p [] rows h = tt
  all_in_front p (s ∷ shown) rows h = (in_front p s.index rows h, all_in_front p shown rows h)

  -- ---- the steps of a walk from object to object

  if_found : (P : Binding → Type 0) (t : Binding → Bool) (xs : List Binding) (o : Option Binding) → find t xs ≡ o → AllByRecursion P xs → IfSome o P
  if_found P t xs None e h = tt
  if_found P t xs (Some x) e h = find_holds P t xs x h e

  pub steps_end : (w : World) (n : List ℕ) → passed_ahead passes [] (found_open [] w n) ≡ 0
  steps_end w n = ap (passed_ahead passes []) (sym (found_end w n))

  pub steps_passed : (row : ObjectRow) (rows : List ObjectRow) (w : World) (n : List ℕ) (old new : ℕ) → first_fault (row ∷ rows) ≡ None → passes row.prefix ≡ true →
      new + passed_ahead passes rows (found_open rows w n) ≡ old + 1 + passed_count rows →
      new + passed_ahead passes (row ∷ rows) (found_open (row ∷ rows) w n) ≡ old + passed_count (row ∷ rows)
  steps_passed row rows w n old new e h work =
      let ordered = ordered_from (row ∷ rows) e in
      let behind : IfSome (found_open rows w n) (λ b. may_follow b.name row.prefix ≡ false) = if_found (λ b. may_follow b.name row.prefix ≡ false) (λ b. name_lt n b.name) (open_instances passes rows w) (found_open rows w n) refl (above_open row.prefix rows w ordered.0) in
      let skips : passed_ahead passes (row ∷ rows) (found_open rows w n) ≡ passed_ahead passes rows (found_open rows w n) = ahead_skips row rows (found_open rows w n) (skipped (found_open rows w n) behind) in
      let same : passed_ahead passes (row ∷ rows) (found_open (row ∷ rows) w n) ≡ passed_ahead passes (row ∷ rows) (found_open rows w n) = ap (passed_ahead passes (row ∷ rows)) (found_passed row rows w n h) in
      let one : passed_count (row ∷ rows) ≡ 1 + passed_count rows = count_one row rows ∙ ap (λ (b : Bool). cond b 1 0 + passed_count rows) h in
      omega (arith, work, skips, same, one)
    where
      skipped : (o : Option Binding) → IfSome o (λ b. may_follow b.name row.prefix ≡ false) → IfSome o (λ b. (passes row.prefix && may_follow b.name row.prefix) ≡ false)
      skipped None k = tt
      skipped (Some b) k = not_following b.name row k

  pub steps_here : (row : ObjectRow) (rows : List ObjectRow) (w : World) (n : List ℕ) (x : Binding) (old : ℕ) → first_fault (row ∷ rows) ≡ None → passes row.prefix ≡ false →
      Some x ≡ next_of (instances_under row w) n →
      old + passed_ahead passes (row ∷ rows) (found_open (row ∷ rows) w n) ≡ old + passed_count (row ∷ rows)
  steps_here row rows w n x old e h is =
      let ordered = ordered_from (row ∷ rows) e in
      let found : found_open (row ∷ rows) w n ≡ Some x = sym (found_here row rows w n x h is) in
      let front : AllByRecursion (λ r. may_follow x.name r.prefix ≡ true) rows = find_holds (λ (b : Binding). AllByRecursion (λ r. may_follow b.name r.prefix ≡ true) rows) (λ b. name_lt n b.name) (instances_under row w) x (all_in_front row.prefix (shown_by row.column w) rows ordered.0) (sym is) in
      let ahead : passed_ahead passes (row ∷ rows) (found_open (row ∷ rows) w n) ≡ passed_after passes (row ∷ rows) x.name = ap (passed_ahead passes (row ∷ rows)) found in
      let skips : passed_after passes (row ∷ rows) x.name ≡ passed_after passes rows x.name = after_skips x.name row rows (not_passed x.name row h) in
      let all : passed_count rows ≡ passed_after passes rows x.name = count_all x.name rows front in
      let none : passed_count (row ∷ rows) ≡ 0 + passed_count rows = count_one row rows ∙ ap (λ (b : Bool). cond b 1 0 + passed_count rows) h in
      omega (arith, ahead, skips, all, none)

  pub steps_later : (row : ObjectRow) (rows : List ObjectRow) (w : World) (n : List ℕ) (old new : ℕ) → passes row.prefix ≡ false → None ≡ next_of (instances_under row w) n →
      new + passed_ahead passes rows (found_open rows w n) ≡ old + passed_count rows →
      new + passed_ahead passes (row ∷ rows) (found_open (row ∷ rows) w n) ≡ old + passed_count (row ∷ rows)
  steps_later row rows w n old new h is work =
      let same : passed_ahead passes (row ∷ rows) (found_open (row ∷ rows) w n) ≡ passed_ahead passes (row ∷ rows) (found_open rows w n) = ap (passed_ahead passes (row ∷ rows)) (found_later row rows w n h is) in
      let skips : passed_ahead passes (row ∷ rows) (found_open rows w n) ≡ passed_ahead passes rows (found_open rows w n) = ahead_skips row rows (found_open rows w n) (skipped (found_open rows w n)) in
      let none : passed_count (row ∷ rows) ≡ 0 + passed_count rows = count_one row rows ∙ ap (λ (b : Bool). cond b 1 0 + passed_count rows) h in
      omega (arith, work, same, skips, none)
    where
      skipped : (o : Option Binding) → IfSome o (λ b. (passes row.prefix && may_follow b.name row.prefix) ≡ false)
      skipped None = tt
      skipped (Some b) = not_passed b.name row h

  -- ---- the same of a list that has an object, and then others

  -- the steps of a walk over these objects, from so many to so many
  abbrev pub Walked : List ObjectRow → World → List ℕ → ℕ → ℕ → Type 0
  Walked rows w n old new = new + passed_ahead passes rows (found_open rows w n) ≡ old + passed_count rows

  module _ (rows : List ObjectRow) (row : ObjectRow) (rest : List ObjectRow) (w : World) (n : List ℕ) (parts : rows ≡ row ∷ rest) where
    pub open_here : (x : Binding) → passes row.prefix ≡ false → Some x ≡ next_of (instances_under row w) n → Some x ≡ found_open rows w n
    open_here x h e = found_here row rest w n x h e ∙ ap (λ (rs : List ObjectRow). found_open rs w n) (sym parts)

    pub open_later : passes row.prefix ≡ false → None ≡ next_of (instances_under row w) n → found_open rest w n ≡ found_open rows w n
    open_later h e = sym (found_later row rest w n h e) ∙ ap (λ (rs : List ObjectRow). found_open rs w n) (sym parts)

    pub walked_passed : (old now new : ℕ) → first_fault rows ≡ None → passes row.prefix ≡ true → now ≡ old + 1 → (first_fault rest ≡ None → Walked rest w n now new) → Walked rows w n old new
    walked_passed old now new e h tick more =
        let ordered : first_fault (row ∷ rest) ≡ None = subst (λ (rs : List ObjectRow). first_fault rs ≡ None) parts e in
        let work : new + passed_ahead passes rest (found_open rest w n) ≡ old + 1 + passed_count rest = more (ordered_tail row rest ordered) ∙ ap (λ (k : ℕ). k + passed_count rest) tick in
        subst (λ (rs : List ObjectRow). Walked rs w n old new) (sym parts) (steps_passed row rest w n old new ordered h work)

    pub walked_here : (x : Binding) (old : ℕ) → first_fault rows ≡ None → passes row.prefix ≡ false → Some x ≡ next_of (instances_under row w) n → Walked rows w n old old
    walked_here x old e h is =
        let ordered : first_fault (row ∷ rest) ≡ None = subst (λ (rs : List ObjectRow). first_fault rs ≡ None) parts e in
        subst (λ (rs : List ObjectRow). Walked rs w n old old) (sym parts) (steps_here row rest w n x old ordered h is)

    pub walked_later : (old new : ℕ) → first_fault rows ≡ None → passes row.prefix ≡ false → None ≡ next_of (instances_under row w) n → (first_fault rest ≡ None → Walked rest w n old new) → Walked rows w n old new
    walked_later old new e h is more =
        let ordered : first_fault (row ∷ rest) ≡ None = subst (λ (rs : List ObjectRow). first_fault rs ≡ None) parts e in
        subst (λ (rs : List ObjectRow). Walked rs w n old new) (sym parts) (steps_later row rest w n old new h is (more (ordered_tail row rest ordered)))

  -- nothing is walked yet
  pub walk_start : (rows : List ObjectRow) (w : World) (n : List ℕ) (old : ℕ) → IsWalked passes rows rows w n old old
  walk_start rows w n old = record { found = refl; work = λ new more e. more e }

  module _ (rows left : List ObjectRow) (row : ObjectRow) (rest : List ObjectRow) (w : World) (n : List ℕ) (parts : left ≡ row ∷ rest) (old now later : ℕ) (walked : IsWalked passes rows left w n old now) where
    pub walk_passed : passes row.prefix ≡ true → later ≡ now + 1 → IsWalked passes rows rest w n old later
    walk_passed h tick = record {
      found = sym (ap (λ (rs : List ObjectRow). found_open rs w n) parts ∙ found_passed row rest w n h) ∙ walked.found;
      work = λ new more e. walked.work new (λ o. walked_passed left row rest w n parts now later new o h tick more) e;
    }

    pub walk_later : passes row.prefix ≡ false → None ≡ next_of (instances_under row w) n → later ≡ now → IsWalked passes rows rest w n old later
    walk_later h is same = record {
      found = open_later left row rest w n parts h is ∙ walked.found;
      work = λ new more e. walked.work new (λ o. walked_later left row rest w n parts now new o h is
          (λ f. subst (λ (s : ℕ). Walked rest w n s new) same (more f))) e;
    }

  -- the object has the first instance behind the name
  module _ (rows left : List ObjectRow) (row : ObjectRow) (rest : List ObjectRow) (w : World) (n : List ℕ) (parts : left ≡ row ∷ rest) (old now : ℕ) (walked : IsWalked passes rows left w n old now) (index : List ℕ) (kept : passes row.prefix ≡ false)
      (is : Some (row.prefix ++ index) ≡ option_map (λ b. b.name) (next_of (instances_under row w) n)) where
    pub walk_found : found_open rows w n ≡ next_of (instances_under row w) n
    walk_found =
        let b = named_some row w n index is in
        sym walked.found ∙ sym (open_here left row rest w n parts _ kept (sym b.next)) ∙ sym b.next

    pub walk_work : first_fault rows ≡ None → Walked rows w n old now
    walk_work e =
        let b = named_some row w n index is in
        walked.work now (λ o. walked_here left row rest w n parts _ now o kept (sym b.next)) e

  -- behind all objects nothing is found, and no step is left
  pub found_none : (left : List ObjectRow) (w : World) (n : List ℕ) → left ≡ [] → found_open left w n ≡ None
  found_none left w n e = ap (λ (rs : List ObjectRow). found_open rs w n) e ∙ sym (found_end w n)

  pub walked_end : (left : List ObjectRow) (w : World) (n : List ℕ) (steps : ℕ) → left ≡ [] → Walked left w n steps steps
  walked_end left w n steps e = subst (λ (rs : List ObjectRow). Walked rs w n steps steps) (sym e) (ap (λ (o : Option Binding). steps + passed_ahead passes [] o) (sym (found_end w n)))

  -- ---- the objects in front of the start

  abbrev Starts : List ℕ → ℕ → List ObjectRow → Type 0
  Starts n zero rows = AllByRecursion (λ row. may_follow n row.prefix ≡ true) rows
  Starts n (suc s) [] = ⊥
  Starts n (suc s) (row ∷ rows) = (may_follow n row.prefix ≡ false) × Starts n s rows

  all_follow : (n : List ℕ) (rows : List ObjectRow) → ((k : ℕ) → k < length (prefixes_of rows) → may_follow n (prefix_at (prefixes_of rows) k) ≡ true) → AllByRecursion (λ row. may_follow n row.prefix ≡ true) rows
  all_follow n [] h = tt
  all_follow n (row ∷ rows) h = (h 0 (omega arith), all_follow n rows (λ k l. h (suc k) (omega (arith, l))))

  starts : (n : List ℕ) (s : ℕ) (rows : List ObjectRow) → IsStart (prefixes_of rows) n s → Starts n s rows
  starts n zero rows h = all_follow n rows (λ k l. h.behind k (omega arith) l)
  starts n (suc s) [] h = absurd (omega (arith, h.within))
  starts n (suc s) (row ∷ rows) h =
      let begun : is_prefix row.prefix n ≡ false = h.apart 0 (omega arith) in
      let first : may_follow n row.prefix ≡ false = rw begun (h.before 0 (omega arith)) in (
        first,
        starts n s rows (record {
          within = omega (arith, h.within);
          before = λ k l. h.before (suc k) (omega (arith, l));
          apart = λ k l. h.apart (suc k) (omega (arith, l));
          behind = λ k l m. h.behind (suc k) (omega (arith, l)) (omega (arith, m));
        }),
      )

  found_past : (row : ObjectRow) (rows : List ObjectRow) (w : World) (n : List ℕ) → may_follow n row.prefix ≡ false → found_open (row ∷ rows) w n ≡ found_open rows w n
  found_past row rows w n h = pick (passes row.prefix) refl
    where
      pick : (b : Bool) → passes row.prefix ≡ b → found_open (row ∷ rows) w n ≡ found_open rows w n
      pick true e = found_passed row rows w n e
      pick false e =
          let parts = or_parts (is_prefix row.prefix n) (name_lt n row.prefix) h in
          found_later row rows w n e (sym (next_past row w n parts.0 parts.1))

  found_from : (n : List ℕ) (s : ℕ) (rows : List ObjectRow) (w : World) → Starts n s rows → found_open (drop s rows) w n ≡ found_open rows w n
  found_from n zero rows w h = refl
  found_from n (suc s) [] w h = absurd h
  found_from n (suc s) (row ∷ rows) w h = found_from n s rows w h.1 ∙ sym (found_past row rows w n h.0)

  pub found_from_start : (n : List ℕ) (s : ℕ) (rows : List ObjectRow) (w : World) → IsStart (prefixes_of rows) n s → found_open (drop s rows) w n ≡ found_open rows w n
  found_from_start n s rows w h = found_from n s rows w (starts n s rows h)

  ahead_from : (n : List ℕ) (s : ℕ) (rows : List ObjectRow) (o : Option Binding) → IfSome o (λ b. name_lt n b.name ≡ true) → Starts n s rows → passed_ahead passes (drop s rows) o ≡ passed_ahead passes rows o
  ahead_from n zero rows o h k = refl
  ahead_from n (suc s) [] o h k = absurd k
  ahead_from n (suc s) (row ∷ rows) o h k = ahead_from n s rows o h k.1 ∙ sym (ahead_skips row rows o (skipped o h))
    where
      skipped : (o : Option Binding) → IfSome o (λ b. name_lt n b.name ≡ true) → IfSome o (λ b. (passes row.prefix && may_follow b.name row.prefix) ≡ false)
      skipped None l = tt
      skipped (Some b) l = not_following b.name row (none_later n b.name row.prefix l k.0)

  count_from : (n : List ℕ) (s : ℕ) (rows : List ObjectRow) → Starts n s rows → passed_count (drop s rows) ≡ passed_after passes rows n
  count_from n zero rows h = count_all n rows h
  count_from n (suc s) [] h = absurd h
  count_from n (suc s) (row ∷ rows) h = count_from n s rows h.1 ∙ sym (after_skips n row rows (not_following n row h.0))

  if_after : (n : List ℕ) (xs : List Binding) (o : Option Binding) → next_of xs n ≡ o → IfSome o (λ b. name_lt n b.name ≡ true)
  if_after n xs None e = tt
  if_after n xs (Some x) e = find_tests (λ b. name_lt n b.name) xs x e

  pub steps_from : (n : List ℕ) (s : ℕ) (rows : List ObjectRow) (w : World) (old new : ℕ) → IsStart (prefixes_of rows) n s →
      Walked (drop s rows) w n old new → new + passed_ahead passes rows (found_open rows w n) ≡ old + passed_after passes rows n
  steps_from n s rows w old new h work =
      let front : Starts n s rows = starts n s rows h in
      let found : passed_ahead passes (drop s rows) (found_open (drop s rows) w n) ≡ passed_ahead passes (drop s rows) (found_open rows w n) = ap (passed_ahead passes (drop s rows)) (found_from n s rows w front) in
      let ahead : passed_ahead passes (drop s rows) (found_open rows w n) ≡ passed_ahead passes rows (found_open rows w n) = ahead_from n s rows (found_open rows w n) (if_after n (open_instances passes rows w) (found_open rows w n) refl) front in
      let count : passed_count (drop s rows) ≡ passed_after passes rows n = count_from n s rows front in
      omega (arith, work, found, ahead, count)

-- ---- the objects that are not passed over make a registry too

ordered_faultless : (rows : List ObjectRow) → AreOrdered (prefixes_of rows) → first_fault rows ≡ None
ordered_faultless [] h = refl
ordered_faultless (row ∷ []) h = refl
ordered_faultless (row ∷ next ∷ rows) h =
    let lt : name_lt next.prefix row.prefix ≡ false = above_not_lt row.prefix next.prefix h.0.0 in
    let begun : is_prefix row.prefix next.prefix ≡ false = above_not_begun row.prefix next.prefix h.0.0 in
    rw (lt, begun) (ordered_faultless (next ∷ rows) h.1)

open_below : (passes : List ℕ → Bool) (p : List ℕ) (rows : List ObjectRow) → AllByRecursion (λ q. is_below p q ≡ true) (prefixes_of rows) → AllByRecursion (λ q. is_below p q ≡ true) (prefixes_of (open_rows passes rows))
open_below passes p [] h = tt
open_below passes p (row ∷ rows) h = pick (passes row.prefix) (open_below passes p rows h.1)
  where
    pick : (b : Bool) → AllByRecursion (λ q. is_below p q ≡ true) (prefixes_of (open_rows passes rows)) →
        AllByRecursion (λ q. is_below p q ≡ true) (prefixes_of (cond (not b) (row ∷ open_rows passes rows) (open_rows passes rows)))
    pick true more = more
    pick false more = (h.0, more)

open_ordered : (passes : List ℕ → Bool) (rows : List ObjectRow) → AreOrdered (prefixes_of rows) → AreOrdered (prefixes_of (open_rows passes rows))
open_ordered passes [] h = tt
open_ordered passes (row ∷ rows) h = pick (passes row.prefix) (open_ordered passes rows h.1)
  where
    pick : (b : Bool) → AreOrdered (prefixes_of (open_rows passes rows)) → AreOrdered (prefixes_of (cond (not b) (row ∷ open_rows passes rows) (open_rows passes rows)))
    pick true more = more
    pick false more = (open_below passes row.prefix rows h.0, more)

open_named : (passes : List ℕ → Bool) (rows : List ObjectRow) → AreNamed rows → AreNamed (open_rows passes rows)
open_named passes [] h = tt
open_named passes (row ∷ rows) h = pick (passes row.prefix) (open_named passes rows h.1)
  where
    pick : (b : Bool) → AreNamed (open_rows passes rows) → AreNamed (cond (not b) (row ∷ open_rows passes rows) (open_rows passes rows))
    pick true more = more
    pick false more = (h.0, more)

pub open_servable : (passes : List ℕ → Bool) (rows : List ObjectRow) (w : World) → first_fault rows ≡ None → AreNamed rows → IsKept w → IsServable (open_instances passes rows w)
open_servable passes rows w e h k =
    instances_servable (open_rows passes rows) w (ordered_faultless (open_rows passes rows) (open_ordered passes rows (ordered_from rows e))) (open_named passes rows h) k

-- ---- nothing that is shown is missed

hidden_under : (shows : List ℕ → Bool) (p : List ℕ) (shown : List IndexedValue) → ((name : List ℕ) → is_prefix p name ≡ true → shows name ≡ false) → filter (λ b. shows b.name) (map (under p) shown) ≡ []
hidden_under shows p [] h = refl
hidden_under shows p (s ∷ shown) h = rw (h (p ++ s.index) (prefix_of p s.index)) (hidden_under shows p shown h)

pub nothing_missed : (passes shows : List ℕ → Bool) (rows : List ObjectRow) (w : World) → PassesHidden passes shows →
    filter (λ b. shows b.name) (open_instances passes rows w) ≡ filter (λ b. shows b.name) (instances rows w)
nothing_missed passes shows [] w h = refl
nothing_missed passes shows (row ∷ rows) w h =
    pick (passes row.prefix) refl (nothing_missed passes shows rows w h)
    ∙ sym (ap (filter seen) (instances-cons row rows w) ∙ filter-append seen (instances_under row w) (instances rows w))
  where
    seen : Binding → Bool
    seen b = shows b.name

    pick : (b : Bool) → passes row.prefix ≡ b → filter seen (open_instances passes rows w) ≡ filter seen (instances rows w) →
        filter seen (instances (cond (not b) (row ∷ open_rows passes rows) (open_rows passes rows)) w) ≡ filter seen (instances_under row w) ++ filter seen (instances rows w)
    pick true e more = more ∙ ap (λ (xs : List Binding). xs ++ filter seen (instances rows w)) (sym (hidden_under shows row.prefix (shown_by row.column w) (λ name. h row.prefix name e)))
    pick false e more =
        ap (filter seen) (instances-cons row (open_rows passes rows) w)
        ∙ filter-append seen (instances_under row w) (open_instances passes rows w)
        ∙ ap (λ (xs : List Binding). filter seen (instances_under row w) ++ xs) more
