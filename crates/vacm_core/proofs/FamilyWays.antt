-- The ways of family rows.
use Rattle.std.proofs.Common.{◌≡◌, ℕ, zero, suc, ◌+◌, ◌<◌, ◌≤◌, ◌==◌, Bool, true, false, not, ◌&&◌, ◌||◌, List, [], ◌∷◌, ◌++◌, map, length, get_or, take, Contains, refl, sym, ap, subst, ◌∙◌, arith, inl, inr, add-zero, zero-add, append_assoc, Result, Ok, Err}
use Rattle.std.specs.Result.{OnOk, IfOk}
use Rattle.std.proofs.lemmas.List.{get_or_default}
use Rattle.std.proofs.lemmas.Bool.{cases_Bool, cases_lt, cases_eq, both_ways, eqb-true, eq-eqb, and_from}
use Rattle.vacm_core.specs.declared.tree.Step.{Step}
use Rattle.vacm_core.specs.declared.tree.Tree.{Tree}
use Rattle.vacm_core.specs.declared.radix.Radix.{Radix}
use Rattle.vacm_core.specs.declared.tables.FamilyRow.{FamilyRow}
use Rattle.vacm_core.specs.Families.{mask_bit, agrees_from}
use Rattle.vacm_core.specs.Rows.{same_family}
use Rattle.vacm_core.specs.Tables.{KeysDiffer}
use Rattle.vacm_core.specs.Trees.{leads, fits, same_parts, counting, counting_part, view_way, subtree_way, way_of, reaches, IsPlaced, IsNumbered, IsTreeOf, AreNumbered}
use Rattle.vacm_core.proofs.Agrees.{and_true}
use Rattle.vacm_core.proofs.Ties.{bytes_same}

-- one step more of a subtree
pub subtree_way_more : (j : ℕ) (mask subtree : List ℕ) (k : ℕ) → k < length subtree
    → subtree_way j mask (take (k + 1) subtree) ≡ subtree_way j mask (take k subtree) ++ (record { part = get_or subtree k 0; counts = mask_bit mask (j + k) } ∷ [])
subtree_way_more j mask [] k h = absurd (omega arith)
subtree_way_more j mask (s ∷ subtree) zero h =
    ap (λ (i : ℕ). record { part = s; counts = mask_bit mask i } ∷ []) (sym (add-zero j))
subtree_way_more j mask (s ∷ subtree) (suc k) h =
    let shift : j + 1 + k ≡ j + suc k = omega arith in
    let more : suc k + 1 ≡ suc (k + 1) = omega arith in
    ap (λ (i : ℕ). subtree_way j mask (take i (s ∷ subtree))) more
    ∙ ap (λ (l : List Step). record { part = s; counts = mask_bit mask j } ∷ l)
    (subtree_way_more (j + 1) mask subtree k (omega arith)
    ∙ ap (λ (i : ℕ). subtree_way (j + 1) mask (take k subtree) ++ (record { part = get_or subtree k 0; counts = mask_bit mask i } ∷ [])) shift)

pub steps_more : (front : List Step) (mask subtree bits parts : List ℕ) (k : ℕ) (bit : Bool) (items after : List Step) → bits ≡ mask → parts ≡ subtree → bit ≡ mask_bit bits k → k < length parts
    → items ≡ front ++ subtree_way 0 mask (take k subtree) → after ≡ items ++ (record { part = get_or parts k 0; counts = bit } ∷ []) → after ≡ front ++ subtree_way 0 mask (take (k + 1) subtree)
steps_more front mask subtree bits parts k bit items after same_bits same_parts is lt so e =
    let counts : bit ≡ mask_bit mask (0 + k) = is ∙ (λ j. mask_bit (same_bits j) (sym (zero-add k) j)) in
    let within : k < length subtree = omega (arith, ap length same_parts) in
    e
    ∙ ap (λ (l : List Step). l ++ (record { part = get_or parts k 0; counts = bit } ∷ [])) so
    ∙ append_assoc front (subtree_way 0 mask (take k subtree)) (record { part = get_or parts k 0; counts = bit } ∷ [])
    ∙ ap (λ (l : List Step). front ++ l)
    ((λ j. subtree_way 0 mask (take k subtree) ++ (record { part = get_or (same_parts j) k 0; counts = counts j } ∷ []))
    ∙ sym (subtree_way_more 0 mask subtree k within))

-- a name fits the way of a subtree where the subtree agrees with it
pub fits_agrees : (k : ℕ) (mask subtree name : List ℕ) → fits (subtree_way k mask subtree) name ≡ agrees_from k mask subtree name
fits_agrees k mask [] name = refl
fits_agrees k mask (s ∷ subtree) [] = refl
fits_agrees k mask (s ∷ subtree) (n ∷ name) = ap (λ (b : Bool). (not (mask_bit mask k) || s == n) && b) (fits_agrees (k + 1) mask subtree name)

fits_view : (view : List ℕ) (way : List Step) (name : List ℕ) → fits (map counting_part view ++ way) (view ++ name) ≡ fits way name
fits_view [] way name = refl
fits_view (v ∷ view) way name = (λ i. eq-eqb v v refl i && fits_view view way name i)

-- a name, behind the numbers of a view, fits the way of a row of the view whose family has it
pub fits_way : (view mask subtree name : List ℕ) → agrees_from 0 mask subtree name ≡ true
    → fits (view_way view ++ subtree_way 0 mask subtree) (length view ∷ (view ++ name)) ≡ true
fits_way view mask subtree name e =
    (λ i. eq-eqb (length view) (length view) refl i && fits_view view (subtree_way 0 mask subtree) name i) ∙ fits_agrees 0 mask subtree name ∙ e

-- ---- ways of different rows have different numbers

numbers : List Step → List ℕ
numbers [] = []
numbers (s ∷ rest) = s.part ∷ numbers rest

same_numbers : (a b : List Step) → same_parts a b ≡ true → numbers a ≡ numbers b
unfolding numbers
same_numbers [] [] e = refl
same_numbers [] (b ∷ bs) e = absurd cc
same_numbers (a ∷ more) [] e = absurd cc
same_numbers (a ∷ more) (b ∷ bs) e =
    let parts = and_true (a.part == b.part) (same_parts more bs) e in
    (λ i. eqb-true a.part b.part parts.0 i ∷ same_numbers more bs parts.1 i)

numbers_subtree : (k : ℕ) (mask subtree : List ℕ) → numbers (subtree_way k mask subtree) ≡ subtree
unfolding numbers
numbers_subtree k mask [] = refl
numbers_subtree k mask (s ∷ subtree) = ap (λ (l : List ℕ). s ∷ l) (numbers_subtree (k + 1) mask subtree)

numbers_view : (view : List ℕ) (rest : List Step) → numbers (map counting_part view ++ rest) ≡ view ++ numbers rest
unfolding numbers
numbers_view [] rest = refl
numbers_view (v ∷ view) rest = ap (λ (l : List ℕ). v ∷ l) (numbers_view view rest)

numbers_of : (row : FamilyRow) → numbers (way_of row) ≡ length row.view ∷ (row.view ++ row.subtree)
unfolding numbers
numbers_of row =
    ap (λ (l : List ℕ). length row.view ∷ l)
    (numbers_view row.view (subtree_way 0 row.mask row.subtree) ∙ ap (λ (l : List ℕ). row.view ++ l) (numbers_subtree 0 row.mask row.subtree))

pub split_same : (v w s t : List ℕ) → length v ≡ length w → v ++ s ≡ w ++ t → (v ≡ w) × (s ≡ t)
split_same [] [] s t l e = (refl, e)
split_same [] (y ∷ w) s t l e = absurd (omega arith)
split_same (x ∷ v) [] s t l e = absurd (omega arith)
split_same (x ∷ v) (y ∷ w) s t l e =
    let head : x ≡ y = cc in
    let tail : v ++ s ≡ w ++ t = cc in
    let rest = split_same v w s t (omega arith) tail in
    ((λ i. head i ∷ rest.0 i), rest.1)

one_key : (a b : FamilyRow) → same_parts (way_of a) (way_of b) ≡ true → (a.view ≡ b.view) × (a.subtree ≡ b.subtree)
one_key a b e =
    let all : length a.view ∷ (a.view ++ a.subtree) ≡ length b.view ∷ (b.view ++ b.subtree) = sym (numbers_of a) ∙ same_numbers (way_of a) (way_of b) e ∙ numbers_of b in
    let long : length a.view ≡ length b.view = cc in
    let lists : a.view ++ a.subtree ≡ b.view ++ b.subtree = cc in
    split_same a.view b.view a.subtree b.subtree long lists

ways_differ : (a b : FamilyRow) → same_family a b ≡ false → same_parts (way_of a) (way_of b) ≡ false
ways_differ a b differ =
    elim (cases_Bool (same_parts (way_of a) (way_of b))) [
      | inl e ↦
          let key = one_key a b e in
          absurd (both_ways (same_family a b) differ (and_from _ _ (bytes_same a.view b.view key.0) (bytes_same a.subtree b.subtree key.1)))
      | inr e ↦ e
    ]

ways_differ_back : (a b : FamilyRow) → same_family b a ≡ false → same_parts (way_of a) (way_of b) ≡ false
ways_differ_back a b differ =
    elim (cases_Bool (same_parts (way_of a) (way_of b))) [
      | inl e ↦
          let key = one_key a b e in
          absurd (both_ways (same_family b a) differ (and_from _ _ (bytes_same b.view a.view (sym key.0)) (bytes_same b.subtree a.subtree (sym key.1))))
      | inr e ↦ e
    ]

-- rows at different places of a table
pub others_differ : (rows : List FamilyRow) → KeysDiffer same_family rows → (m n : ℕ) (d : FamilyRow) → m < length rows → n < length rows → (m ≡ n → ⊥)
    → same_parts (way_of (get_or rows m d)) (way_of (get_or rows n d)) ≡ false
others_differ rows differ m n d here there ne =
    elim (cases_lt m n) [
      | inl lt ↦ ways_differ (get_or rows m d) (get_or rows n d) (differ m n d lt there)
      | inr ge ↦ ways_differ_back (get_or rows m d) (get_or rows n d) (differ n m d (omega arith) here)
    ]

-- ---- placing a row

-- what a row's way leads to stays there when another row is placed
pub placed_still : (old new : Tree) (way : List Step) → ((other : List Step) (n : ℕ) → same_parts other way ≡ false → leads old other n ≡ true → leads new other n ≡ true)
    → (row : FamilyRow) (n : ℕ) → same_parts (way_of row) way ≡ false → IsPlaced (leads old) row n → IsPlaced (leads new) row n
placed_still old new way kept row n differ h = record { leads = kept (way_of row) n differ h.leads; some = h.some }

pub placed_or_kept : (old new : Tree) (rows : List FamilyRow) → KeysDiffer same_family rows → (n : ℕ) → n < length rows
    → ((d : FamilyRow) → IsPlaced (leads new) (get_or rows n d) n)
    → ((d : FamilyRow) (other : List Step) (m : ℕ) → same_parts other (way_of (get_or rows n d)) ≡ false → leads old other m ≡ true → leads new other m ≡ true)
    → (m : ℕ) (d : FamilyRow) → m < length rows → IsPlaced (leads old) (get_or rows m d) m → IsPlaced (leads new) (get_or rows m d) m
placed_or_kept old new rows differ n there placed kept m d here h =
    elim (cases_eq m n) [
      | inl e ↦ subst (λ (k : ℕ). IsPlaced (leads new) (get_or rows k d) k) (sym e) (placed d)
      | inr ne ↦ placed_still old new (way_of (get_or rows n d)) (kept d) (get_or rows m d) m (others_differ rows differ m n d here there ne) h
    ]

-- a row that is placed, by its own way
row_placed : (new : Tree) (rows : List FamilyRow) (n : ℕ) (row : FamilyRow) (way : List Step) → n < length rows → row ≡ get_or rows n row → way ≡ way_of row → 1 ≤ length row.subtree
    → (1 ≤ length way → leads new way n ≡ true) → (d : FamilyRow) → IsPlaced (leads new) (get_or rows n d) n
row_placed new rows n row way within is same some leads_there d =
    let long : length way ≡ length (way_of row) = ap length same in
    let there = leads_there (omega arith) in
    subst (λ (r : FamilyRow). IsPlaced (leads new) r n) (is ∙ get_or_default rows n row d within)
    (record { leads = subst (λ (l : List Step). leads new l n ≡ true) same there; some = some })

pub place_keeps : (old new : Tree) (rows : List FamilyRow) → KeysDiffer same_family rows → (n : ℕ) (row : FamilyRow) (way : List Step) → n < length rows → row ≡ get_or rows n row → way ≡ way_of row
    → 1 ≤ length row.subtree → {E : Type 0} (r : Result (Unit {0}) E) → OnOk r (1 ≤ length way → leads new way n ≡ true)
    → OnOk r ((other : List Step) (m : ℕ) → same_parts other way ≡ false → leads old other m ≡ true → leads new other m ≡ true)
    → OnOk r ((m : ℕ) (d : FamilyRow) → m < length rows → IsPlaced (leads old) (get_or rows m d) m → IsPlaced (leads new) (get_or rows m d) m)
place_keeps old new rows differ n row way within is same some (Err e) there kept = tt
place_keeps old new rows differ n row way within is same some (Ok u) there kept =
    placed_or_kept old new rows differ n within (row_placed new rows n row way within is same some there)
    (λ d other m apart. kept other m (subst (λ (l : List Step). same_parts other l ≡ false) (ap way_of (sym (is ∙ get_or_default rows n row d within)) ∙ sym same) apart))

-- where the row of each number is placed, and each row has a number, ways lead to all rows
pub all_placed : (tree : Tree) (rows : List FamilyRow) (numbers : List ℕ) → ((n : ℕ) → n < length rows → Contains numbers n)
    → ((k : ℕ) (d : FamilyRow) → 0 ≤ k → k < length numbers → IsPlaced (leads tree) (get_or rows (get_or numbers k 0) d) (get_or numbers k 0)) → IsTreeOf (leads tree) rows
all_placed tree rows numbers all placed =
    λ n d lt.
    let found = all n lt in
    let k = found.0 in
    let here : get_or numbers k 0 ≡ n = sym (get_or_default numbers k n 0 found.1) ∙ found.2 in
    subst (λ (m : ℕ). IsPlaced (leads tree) (get_or rows m d) m) here (placed k d (omega arith) found.1)

-- and so they do in the radix tree
pub packed_tree : (tree : Tree) (rows : List FamilyRow) {E : Type 0} (r : Result Radix E)
    → IfOk r (λ radix. (way : List Step) (n : ℕ) → leads tree way n ≡ true → reaches radix way n ≡ true)
    → IsTreeOf (leads tree) rows → IfOk r (λ radix. IsTreeOf (reaches radix) rows)
packed_tree tree rows (Err e) more placed = tt
packed_tree tree rows (Ok radix) more placed =
    λ n d lt.
    let p = placed n d lt in
    record { leads = more (way_of (get_or rows n d)) n p.leads; some = p.some }

-- ---- how long ways are

map_long : (view : List ℕ) (rest : List Step) → length (map counting_part view ++ rest) ≡ length view + length rest
map_long [] rest = omega arith
map_long (v ∷ view) rest = let more = map_long view rest in omega arith

subtree_long : (k : ℕ) (mask subtree : List ℕ) → length (subtree_way k mask subtree) ≡ length subtree
subtree_long k mask [] = refl
subtree_long k mask (s ∷ subtree) = let more = subtree_long (k + 1) mask subtree in omega arith

pub way_long : (view mask subtree : List ℕ) → length (view_way view ++ subtree_way 0 mask subtree) ≡ 1 + length view + length subtree
way_long view mask subtree = omega (arith, map_long view (subtree_way 0 mask subtree), subtree_long 0 mask subtree)

-- ---- marks of rows

same_itself : (way : List Step) → same_parts way way ≡ true
same_itself [] = refl
same_itself (s ∷ way) = and_from _ _ (eq-eqb s.part s.part refl) (same_itself way)

same_counting : (a b : List Step) → same_parts a b ≡ true → same_parts (counting a) b ≡ true
same_counting [] b e = e
same_counting (x ∷ a) [] e = e
same_counting (x ∷ a) (y ∷ b) e =
    let parts = and_true (x.part == y.part) (same_parts a b) e in
    and_from _ _ parts.0 (same_counting a b parts.1)

-- the numbers of a subtree's way are the same by any mask
same_subtree : (k : ℕ) (one other subtree : List ℕ) → same_parts (subtree_way k one subtree) (subtree_way k other subtree) ≡ true
same_subtree k one other [] = refl
same_subtree k one other (s ∷ subtree) = and_from _ _ (eq-eqb s s refl) (same_subtree (k + 1) one other subtree)

same_behind : (view a b : List Step) → same_parts a b ≡ true → same_parts (view ++ a) (view ++ b) ≡ true
same_behind [] a b e = e
same_behind (s ∷ view) a b e = and_from _ _ (eq-eqb s.part s.part refl) (same_behind view a b e)

same_ways : (a b : FamilyRow) → a.view ≡ b.view → a.subtree ≡ b.subtree → same_parts (way_of a) (way_of b) ≡ true
same_ways a b view subtree =
    subst (λ (l : List ℕ). same_parts (way_of a) (view_way l ++ subtree_way 0 b.mask b.subtree) ≡ true) view
    (subst (λ (l : List ℕ). same_parts (way_of a) (view_way a.view ++ subtree_way 0 b.mask l) ≡ true) subtree
    (same_behind (view_way a.view) (subtree_way 0 a.mask a.subtree) (subtree_way 0 b.mask a.subtree) (same_subtree 0 a.mask b.mask a.subtree)))

-- a row of the same key is led to by a way of its numbers
pub numbered_alike : (lead : List Step → ℕ → Bool) (a b : FamilyRow) (n : ℕ) → a.view ≡ b.view → a.subtree ≡ b.subtree → IsPlaced lead a n → IsNumbered lead b n
numbered_alike lead a b n view subtree h = record { way = way_of a; same = same_ways a b view subtree; leads = h.leads; some = subst (λ (l : List ℕ). 1 ≤ length l) subtree h.some }

pub numbered : (lead : List Step → ℕ → Bool) (row : FamilyRow) (n : ℕ) → IsPlaced lead row n → IsNumbered lead row n
numbered lead row n h = numbered_alike lead row row n refl refl h

pub numbered_still : (old new : List Step → ℕ → Bool) → ((way : List Step) (n : ℕ) → old way n ≡ true → new way n ≡ true) → (row : FamilyRow) (n : ℕ) → IsNumbered old row n → IsNumbered new row n
numbered_still old new kept row n h = record { way = h.way; same = h.same; leads = kept h.way n h.leads; some = h.some }

pub placed_yet : (old new : List Step → ℕ → Bool) → ((way : List Step) (n : ℕ) → old way n ≡ true → new way n ≡ true) → (row : FamilyRow) (n : ℕ) → IsPlaced old row n → IsPlaced new row n
placed_yet old new kept row n h = record { leads = kept (way_of row) n h.leads; some = h.some }

-- a tree without marks has a way of the same numbers
pub numbered_clear : (old new : List Step → ℕ → Bool) → ((way : List Step) (n : ℕ) → old way n ≡ true → new (counting way) n ≡ true) → (row : FamilyRow) (n : ℕ) → IsNumbered old row n → IsNumbered new row n
numbered_clear old new cleared row n h =
    record { way = counting h.way; same = same_counting h.way (way_of row) h.same; leads = cleared h.way n h.leads; some = h.some }

-- a row whose way is marked is placed
pub marked_placed : (old new : List Step → ℕ → Bool) (row : FamilyRow) (way : List Step) → way ≡ way_of row
    → ((other : List Step) (n : ℕ) → same_parts other way ≡ true → old other n ≡ true → new way n ≡ true) → (n : ℕ) → IsNumbered old row n → IsPlaced new row n
marked_placed old new row way is marked n h =
    record { leads = subst (λ (l : List Step). new l n ≡ true) is (marked h.way n (subst (λ (l : List Step). same_parts h.way l ≡ true) (sym is) h.same) h.leads); some = h.some }

-- the first rows are placed, and all are numbered
pub record MarkedSo (lead : List Step → ℕ → Bool) (rows : List FamilyRow) (i : ℕ) : Type 0 where
  pub all : AreNumbered lead rows
  pub first : (n : ℕ) (d : FamilyRow) → n < i → n < length rows → IsPlaced lead (get_or rows n d) n

pub marked_none : (lead : List Step → ℕ → Bool) (rows : List FamilyRow) → AreNumbered lead rows → MarkedSo lead rows 0
marked_none lead rows all = record { all = all; first = λ n d lt within. absurd (omega arith) }

pub marked_more : (old new : List Step → ℕ → Bool) (rows : List FamilyRow) (i : ℕ) (row : FamilyRow) → i < length rows → row ≡ get_or rows i row
    → ((way : List Step) (n : ℕ) → old way n ≡ true → new way n ≡ true) → ((n : ℕ) → IsNumbered old row n → IsPlaced new row n) → MarkedSo old rows i → MarkedSo new rows (i + 1)
marked_more old new rows i row within is kept marked so = record {
  all = λ n d lt. numbered_still old new kept (get_or rows n d) n (so.all n d lt);
  first = λ n d lt inside. elim (cases_lt n i) [
    | inl below ↦ placed_yet old new kept (get_or rows n d) n (so.first n d below inside)
    | inr not ↦
        let here : i ≡ n = omega arith in
        let at : row ≡ get_or rows i d = is ∙ get_or_default rows i row d within in
        subst (λ (k : ℕ). IsPlaced new (get_or rows k d) k) here
        (subst (λ (r : FamilyRow). IsPlaced new r i) at (marked i (subst (λ (r : FamilyRow). IsNumbered old r i) (sym at) (so.all i d within))))
  ];
}

pub marked_end : (lead : List Step → ℕ → Bool) (rows : List FamilyRow) (i : ℕ) → length rows ≤ i → MarkedSo lead rows i → IsTreeOf lead rows
marked_end lead rows i le so = λ n d lt. so.first n d (omega arith) lt
