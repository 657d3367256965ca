-- The first instance behind a name, object by object.
use Rattle.std.proofs.Common.{◌≡◌, ℕ, ◌+◌, ◌≤◌, Bool, true, false, cond, nat_eq, nat_lt, List, [], ◌∷◌, ◌++◌, map, length, drop, find, refl, sym, ap, ◌∙◌, arith, Option, Some, None, option_map, inl, inr, length-append, IfSome}
use Rattle.std.specs.Option.{option_or}
use Rattle.std.proofs.lemmas.List.{append_cancel_left}
use Rattle.std.proofs.lemmas.List.Folds.{find-append}
use Rattle.std.proofs.lemmas.Bool.Decides.{eqb_tells, nat_tests}
use Rattle.oid_core.specs.Order.{name_lt, name_eq, is_prefix}
use Rattle.oid_core.proofs.OrderLaws.{eq_itself, eq_same}
use Rattle.message_core.specs.declared.binding.Binding.{Binding}
use Rattle.message_core.specs.declared.value.Value.{Value}
use Rattle.message_core.specs.Instances.{next_of}
use Rattle.setphase_core.specs.declared.world.World.{World}
use Rattle.setphase_core.specs.Values.{IndexedValue, value_at, first_after, index_after}
use Rattle.setphase_core.specs.Columns.{shown_by}
use Rattle.setphase_core.specs.Objects.{ObjectRow}
use Rattle.setphase_core.specs.Registry.{under, instances_under, instances}
use Rattle.setphase_core.proofs.Found.{instances-cons, instances-nil}

name_lt-prefix : (p e n : List ℕ) → name_lt n (p ++ e) ≡ cond (is_prefix p n) (name_lt (drop (length p) n) e) (name_lt n p)
name_lt-prefix [] e n = refl
name_lt-prefix (x ∷ p) e [] = refl
name_lt-prefix (x ∷ p) e (y ∷ n) = elim (eqb_tells x y) [
  | inl s ↦
      let low : nat_lt y x ≡ false = grind (arith, nat_tests, s.1) in
      let same : nat_eq y x ≡ true = grind (arith, nat_tests, s.1) in
      rw (s.0, low, same) (name_lt-prefix p e n)
  | inr s ↦
      let same : nat_eq y x ≡ false = grind (arith, nat_tests, s.1) in
      rw (s.0, same) refl
]

next-under : (p n : List ℕ) (shown : List IndexedValue) →
    next_of (map (under p) shown) n
    ≡ option_map (under p) (cond (is_prefix p n) (first_after shown (Some (drop (length p) n))) (cond (name_lt n p) (first_after shown None) None))
next-under p n [] = elim (is_prefix p n) as (λ b. ◌≡◌ {A = Option Binding} None (option_map (under p) (cond b None (cond (name_lt n p) None None)))) [
  | true ↦ refl
  | false ↦ elim (name_lt n p) as (λ b. ◌≡◌ {A = Option Binding} None (option_map (under p) (cond b None None))) [ true ↦ refl | false ↦ refl ]
]
next-under p n (s ∷ shown) =
    ap (λ b. cond b (Some (under p s)) (next_of (map (under p) shown) n)) (name_lt-prefix p s.index n)
    ∙ ap (λ r. cond (cond (is_prefix p n) (name_lt (drop (length p) n) s.index) (name_lt n p)) (Some (under p s)) r) (next-under p n shown)
    ∙ split (is_prefix p n) (name_lt n p) (name_lt (drop (length p) n) s.index) (find (λ t. name_lt (drop (length p) n) t.index) shown) (first_after shown None)
  where
    split : (a b c : Bool) (x y : Option IndexedValue) →
        cond (cond a c b) (Some (under p s)) (option_map (under p) (cond a x (cond b y None)))
        ≡ option_map (under p) (cond a (cond c (Some s) x) (cond b (Some s) None))
    split true b true x y = refl
    split true b false x y = refl
    split false true c x y = refl
    split false false c x y = refl

-- the first value of an object behind a name: behind what follows the object's name, where that
-- begins the name; the first of all, where the object's name is greater; and else none
abbrev first_behind : ObjectRow → World → List ℕ → Option IndexedValue
first_behind row w name =
    cond (is_prefix row.prefix name) (first_after (shown_by row.column w) (Some (drop (length row.prefix) name)))
    (cond (name_lt name row.prefix) (first_after (shown_by row.column w) None) None)

-- its index
abbrev index_behind : ObjectRow → World → List ℕ → Option (List ℕ)
index_behind row w name = option_map (λ s. s.index) (first_behind row w name)

next_behind : (row : ObjectRow) (w : World) (n : List ℕ) → next_of (instances_under row w) n ≡ option_map (under row.prefix) (first_behind row w n)
next_behind row w n = next-under row.prefix n (shown_by row.column w)

-- ---- the value of the instance that is found is the one under its index

found_passes : (t : IndexedValue → Bool) (shown : List IndexedValue) (s : IndexedValue) → find t shown ≡ Some s → t s ≡ true
found_passes t [] s e = absurd (cc)
found_passes t (x ∷ shown) s e = pick (t x) refl (found_passes t shown s) e
  where
    pick : (b : Bool) → t x ≡ b → (find t shown ≡ Some s → t s ≡ true) → cond b (Some x) (find t shown) ≡ Some s → t s ≡ true
    pick true h more f = let same : x ≡ s = cc in ap t (sym same) ∙ h
    pick false h more f = more f

first_of_index : (a : List ℕ) (shown : List IndexedValue) (s : IndexedValue) → find (λ t. name_lt a t.index) shown ≡ Some s → find (λ t. name_eq t.index s.index) shown ≡ Some s
first_of_index a [] s e = absurd (cc)
first_of_index a (x ∷ shown) s e = pick (name_lt a x.index) (name_eq x.index s.index) refl refl (first_of_index a shown s) e
  where
    pick : (b c : Bool) → name_lt a x.index ≡ b → name_eq x.index s.index ≡ c →
        (find (λ t. name_lt a t.index) shown ≡ Some s → find (λ t. name_eq t.index s.index) shown ≡ Some s) →
        cond b (Some x) (find (λ t. name_lt a t.index) shown) ≡ Some s →
        cond c (Some x) (find (λ t. name_eq t.index s.index) shown) ≡ Some s
    pick true true h k more f = f
    pick true false h k more f =
        let same : x ≡ s = cc in
        let yes : name_eq x.index s.index ≡ true = ap (λ (t : IndexedValue). name_eq x.index t.index) (sym same) ∙ eq_itself x.index in
        absurd (cc)
    pick false true h k more f =
        let same : x.index ≡ s.index = eq_same x.index s.index k in
        let passes : name_lt a s.index ≡ true = found_passes (λ t. name_lt a t.index) shown s f in
        let fails : name_lt a s.index ≡ false = ap (name_lt a) (sym same) ∙ h in
        absurd (cc)
    pick false false h k more f = more f

first_of_all : (shown : List IndexedValue) (s : IndexedValue) → first_after shown None ≡ Some s → find (λ t. name_eq t.index s.index) shown ≡ Some s
first_of_all [] s e = absurd (cc)
first_of_all (x ∷ shown) s e =
    let same : x ≡ s = cc in
    let yes : name_eq x.index s.index ≡ true = ap (λ (t : IndexedValue). name_eq x.index t.index) (sym same) ∙ eq_itself x.index in
    rw yes e

value_behind : (row : ObjectRow) (w : World) (n : List ℕ) (s : IndexedValue) → first_behind row w n ≡ Some s → value_at (shown_by row.column w) s.index ≡ Some s.value
value_behind row w n s e = ap (option_map (λ t. t.value)) (pick (is_prefix row.prefix n) (name_lt n row.prefix) e)
  where
    pick : (a b : Bool) → cond a (first_after (shown_by row.column w) (Some (drop (length row.prefix) n))) (cond b (first_after (shown_by row.column w) None) None) ≡ Some s →
        find (λ t. name_eq t.index s.index) (shown_by row.column w) ≡ Some s
    pick true b f = first_of_index (drop (length row.prefix) n) (shown_by row.column w) s f
    pick false true f = first_of_all (shown_by row.column w) s f
    pick false false f = absurd (cc)

-- the instance that is found
pub record IsBehind (row : ObjectRow) (w : World) (n index : List ℕ) : Type 0 where
  pub value : Value
  pub at : value_at (shown_by row.column w) index ≡ Some value
  pub next : next_of (instances_under row w) n ≡ Some (record { name = row.prefix ++ index; value = value })

some_behind : (row : ObjectRow) (w : World) (n index : List ℕ) → Some index ≡ index_behind row w n → IsBehind row w n index
some_behind row w n index e = pick (first_behind row w n) refl e
  where
    pick : (x : Option IndexedValue) → first_behind row w n ≡ x → Some index ≡ option_map (λ s. s.index) x → IsBehind row w n index
    pick None g f = absurd (cc)
    pick (Some s) g f =
        let same : s.index ≡ index = cc in
        record {
          value = s.value;
          at = ap (value_at (shown_by row.column w)) (sym same) ∙ value_behind row w n s g;
          next = next_behind row w n ∙ ap (option_map (under row.prefix)) g ∙ ap (λ (i : List ℕ). Some (record { name = row.prefix ++ i; value = s.value })) same;
        }

-- ---- an object's answer, by the whole name

whole_name : (row : ObjectRow) (w : World) (n index : List ℕ) (found : Bool) → cond found (Some index) None ≡ index_behind row w n →
    cond found (Some (row.prefix ++ index)) None ≡ option_map (λ b. b.name) (next_of (instances_under row w) n)
whole_name row w n index found e = whole found (first_behind row w n) e ∙ sym (ap (option_map (λ b. b.name)) (next_behind row w n))
  where
    whole : (x : Bool) (y : Option IndexedValue) → cond x (Some index) None ≡ option_map (λ s. s.index) y → cond x (Some (row.prefix ++ index)) None ≡ option_map (λ b. b.name) (option_map (under row.prefix) y)
    whole false None f = refl
    whole false (Some s) f = absurd (cc)
    whole true None f = absurd (cc)
    whole true (Some s) f = let same : index ≡ s.index = cc in ap (λ (i : List ℕ). Some (row.prefix ++ i)) same

pub name_begun : (row : ObjectRow) (w : World) (n index : List ℕ) (found : Bool) → is_prefix row.prefix n ≡ true →
    cond found (Some index) None ≡ index_after (shown_by row.column w) (Some (drop (length row.prefix) n)) →
    cond found (Some (row.prefix ++ index)) None ≡ option_map (λ b. b.name) (next_of (instances_under row w) n)
name_begun row w n index found h e = whole_name row w n index found (rw h e)

pub name_before : (row : ObjectRow) (w : World) (n index : List ℕ) (found : Bool) → is_prefix row.prefix n ≡ false → name_lt n row.prefix ≡ true →
    cond found (Some index) None ≡ index_after (shown_by row.column w) None →
    cond found (Some (row.prefix ++ index)) None ≡ option_map (λ b. b.name) (next_of (instances_under row w) n)
name_before row w n index found h k e = whole_name row w n index found (rw (h, k) e)

-- what that says of the instance
pub named_some : (row : ObjectRow) (w : World) (n index : List ℕ) → Some (row.prefix ++ index) ≡ option_map (λ b. b.name) (next_of (instances_under row w) n) → IsBehind row w n index
named_some row w n index e = some_behind row w n index (pick (first_behind row w n) (e ∙ ap (option_map (λ b. b.name)) (next_behind row w n)))
  where
    pick : (x : Option IndexedValue) → Some (row.prefix ++ index) ≡ option_map (λ b. b.name) (option_map (under row.prefix) x) → Some index ≡ option_map (λ s. s.index) x
    pick None f = absurd (cc)
    pick (Some s) f = let whole : row.prefix ++ index ≡ row.prefix ++ s.index = cc in ap Some (append_cancel_left row.prefix index s.index whole)

pub named_none : (row : ObjectRow) (w : World) (n : List ℕ) → None ≡ option_map (λ b. b.name) (next_of (instances_under row w) n) → None ≡ next_of (instances_under row w) n
named_none row w n e = pick (next_of (instances_under row w) n) e
  where
    pick : (x : Option Binding) → None ≡ option_map (λ b. b.name) x → None ≡ x
    pick None f = refl
    pick (Some b) f = absurd (cc)

-- ---- several objects

pub next-cons : (row : ObjectRow) (rows : List ObjectRow) (w : World) (n : List ℕ) → next_of (instances (row ∷ rows) w) n ≡ option_or (next_of (instances_under row w) n) (next_of (instances rows w) n)
next-cons row rows w n = ap (λ xs. next_of xs n) (instances-cons row rows w) ∙ find-append (λ x. name_lt n x.name) (instances_under row w) (instances rows w)

-- those whose names are not greater and begin nothing are passed over
pub next_past : (row : ObjectRow) (w : World) (n : List ℕ) → is_prefix row.prefix n ≡ false → name_lt n row.prefix ≡ false → next_of (instances_under row w) n ≡ None
next_past row w n h k = next_behind row w n ∙ ap (option_map (under row.prefix)) (neither (is_prefix row.prefix n) (name_lt n row.prefix) h k)
  where
    neither : (a b : Bool) → a ≡ false → b ≡ false →
        cond a (first_after (shown_by row.column w) (Some (drop (length row.prefix) n))) (cond b (first_after (shown_by row.column w) None) None) ≡ None
    neither true b e f = absurd (cc)
    neither false true e f = absurd (cc)
    neither false false e f = refl

-- ---- what a body that found an instance answers

pub made_is : (x : Binding) (name : List ℕ) (value : Value) → x.name ≡ name → Some x.value ≡ Some value → x ≡ record { name = name; value = value }
made_is x name value e f =
    let g : x.value ≡ value = cc in
    ap (λ (n : List ℕ). record { name = n; value = x.value }) e ∙ ap (λ (v : Value). record { name = name; value = v }) g

pub found_is : (row : ObjectRow) (w : World) (n index : List ℕ) (x : Binding) → IsBehind row w n index → x.name ≡ row.prefix ++ index → Some x.value ≡ value_at (shown_by row.column w) index →
    Some x ≡ next_of (instances_under row w) n
found_is row w n index x b e f = ap Some (made_is x (row.prefix ++ index) b.value e (f ∙ b.at)) ∙ sym b.next

-- a short name is that of the instance that is found
pub short_behind : (row : ObjectRow) (w : World) (n index : List ℕ) (most : ℕ) → IsBehind row w n index → IfSome (next_of (instances_under row w) n) (λ x. length x.name ≤ most) → length row.prefix + length index ≤ most
short_behind row w n index most b h =
    let short : length (row.prefix ++ index) ≤ most = rw b.next at h in
    omega (arith, short, length-append row.prefix index)

-- the first of several objects
pub first_here : (row : ObjectRow) (rows : List ObjectRow) (w : World) (n : List ℕ) (x : Binding) → Some x ≡ next_of (instances_under row w) n → Some x ≡ next_of (instances (row ∷ rows) w) n
first_here row rows w n x e = sym (next-cons row rows w n ∙ ap (λ o. option_or o (next_of (instances rows w) n)) (sym e))

pub first_later : (row : ObjectRow) (rows : List ObjectRow) (w : World) (n : List ℕ) → None ≡ next_of (instances_under row w) n → next_of (instances (row ∷ rows) w) n ≡ next_of (instances rows w) n
first_later row rows w n e = next-cons row rows w n ∙ ap (λ o. option_or o (next_of (instances rows w) n)) (sym e)

pub next-nil : (w : World) (n : List ℕ) → next_of (instances [] w) n ≡ None
next-nil w n = ap (λ xs. next_of xs n) (instances-nil w)
