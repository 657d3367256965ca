-- The rows of a table that are right so far.
use Rattle.std.proofs.Common.{◌≡◌, ℕ, zero, suc, ◌+◌, ◌<◌, ◌≤◌, Bool, true, false, ◌||◌, if◌then◌else◌, List, [], ◌∷◌, ◌++◌, length, map, take, All, option_map, Option, Some, None, Result, Ok, Err, refl, sym, ap, subst, ◌∙◌, arith, inl, inr, append_assoc}
use Rattle.std.specs.Prelude.{IfErr, OnErr, option_and_then}
use Rattle.std.specs.List.{list_any, slice_get}
use Rattle.std.proofs.lemmas.Bool.{cases_lt, both_ways}
use Rattle.std.proofs.lemmas.List.{append-nil, take-append-le, take-map, length-append, length-map, map-append}
use Rattle.std.proofs.lemmas.List.Elements.{All-push}
use Rattle.std.proofs.lemmas.Option.{slice_get_past, slice_get-map, get_or_from_slice_get}
use Rattle.std.proofs.Math.Seq.{take-append_seam}
use Rattle.vacm_core.specs.declared.fault.Wrong.{Wrong}
use Rattle.vacm_core.specs.declared.fault.Wrong.TheVariants.{Length, Field, Duplicate}
use Rattle.vacm_core.specs.declared.fault.TableFault.{TableFault}
use Rattle.vacm_core.specs.declared.fault.TableFault.TheVariants.{Memory, Row}
use Rattle.vacm_core.specs.declared.fault.VacmTable.{VacmTable}
use Rattle.vacm_core.specs.declared.fault.VacmTable.TheVariants.{Groups, Access, Families}
use Rattle.vacm_core.specs.declared.tables.AccessRow.{AccessRow}
use Rattle.vacm_core.specs.declared.tables.FamilyRow.{FamilyRow}
use Rattle.vacm_core.specs.declared.tables.GroupRow.{GroupRow}
use Rattle.vacm_core.specs.declared.written.VacmRows.{VacmRows}
use Rattle.vacm_core.specs.Faults.{AreRightBefore, IsFirstIn, IsFault, TakesMemory}
use Rattle.vacm_core.specs.Rows.{group_rules, access_rules, family_rules, group_row, access_row, family_row}
use Rattle.vacm_core.specs.Rules.{Rules, has_earlier, wrong_of, wrong_at, by_itself, StopsAt, AreRead, AreRight, IsFirstWrong, IsFirstFault, BeginsRight}
use Rattle.vacm_core.specs.Repeats.{repeats, repeats_at, IsFirstRepeat}
use Rattle.vacm_core.proofs.Sound.{placed}

get_front : {W : Type 0} (xs ys : List W) (k : ℕ) → k < length xs → slice_get (xs ++ ys) k ≡ slice_get xs k
get_front [] ys k h = absurd (omega arith)
get_front (x ∷ xs) ys zero h = refl
get_front (x ∷ xs) ys (suc k) h = get_front xs ys k (omega arith)

get_seam : {W : Type 0} (xs : List W) (w : W) (ys : List W) → slice_get (xs ++ w ∷ ys) (length xs) ≡ Some w
get_seam [] w ys = refl
get_seam (x ∷ xs) w ys = get_seam xs w ys

any-map : {W R : Type 0} (f : W → R) (p : R → Bool) (ws : List W) → list_any p (map f ws) ≡ list_any (λ w. p (f w)) ws
any-map f p [] = refl
any-map f p (w ∷ ws) = ap (λ (b : Bool). p (f w) || b) (any-map f p ws)

module _ {W R : Type 0} (rules : Rules W R) where
  wrong_front : (xs ys : List W) (k : ℕ) → k < length xs → wrong_at rules (xs ++ ys) k ≡ wrong_at rules xs k
  wrong_front xs ys k h = rw (take-append-le k xs ys (omega arith), get_front xs ys k h) refl

  wrong_seam : (xs : List W) (w : W) (ys : List W) → wrong_at rules (xs ++ w ∷ ys) (length xs) ≡ wrong_of rules xs w
  wrong_seam xs w ys = rw (take-append_seam xs (w ∷ ys), get_seam xs w ys) refl

  wrong_past : (xs : List W) (k : ℕ) → length xs ≤ k → wrong_at rules xs k ≡ None
  wrong_past xs k h = rw (slice_get_past xs k h) refl

no_more : {W : Type 0} (rest : List W) → length rest ≡ 0 → rest ≡ []
no_more [] e = refl
no_more (w ∷ ws) e = absurd (omega (arith, e))

all_of_front : {W : Type 0} {written front rest : List W} → written ≡ front ++ rest → rest ≡ [] → written ≡ front
all_of_front {W} {written} {front} {rest} e none = e ∙ ap (λ (l : List W). front ++ l) none ∙ append-nil front

-- ---- rows that are read

alone_parts : {R : Type 0} (l f : Bool) (r row : R) → (if l then (if f then Ok r else Err Field) else Err Length) ≡ Ok row → (l ≡ true) × (f ≡ true) × (row ≡ r)
alone_parts true true r row e = (refl, refl, cc)
alone_parts true false r row e = absurd cc
alone_parts false f r row e = absurd cc

wrong_parts : {R : Type 0} (l f e : Bool) (r : R) (wrong : Wrong) → (if l then (if f then Ok r else Err Field) else Err Length) ≡ Err wrong
    → (if l then (if f then (if e then Some Duplicate else None) else Some Field) else Some Length) ≡ Some wrong
wrong_parts true true e r wrong h = absurd cc
wrong_parts true false e r wrong h = cc
wrong_parts false f e r wrong h = cc

-- what is wrong with a row with which nothing is wrong by itself, where it repeats an earlier one or not
abbrev pub as_duplicate : Bool → Option Wrong
as_duplicate b = if b then Some Duplicate else None

module _ {W R : Type 0} (rules : Rules W R) where
  -- a row that is right by itself
  abbrev pub IsAlone : W → Type 0
  IsAlone w = by_itself rules w ≡ Ok (rules.row_of w)

  alone : (w : W) (row : R) → by_itself rules w ≡ Ok row → IsAlone w × (row ≡ rules.row_of w)
  alone w row e =
      let parts = alone_parts (rules.lengths w) (rules.fields w) (rules.row_of w) row e in
      (e ∙ ap (λ (r : R). Ok r) parts.2, parts.2)

  -- what is wrong with it is its key alone
  behind_alone : (earlier : List W) (w : W) → IsAlone w → wrong_of rules earlier w ≡ as_duplicate (has_earlier rules earlier w)
  behind_alone earlier w e =
      let parts = alone_parts (rules.lengths w) (rules.fields w) (rules.row_of w) (rules.row_of w) e in
      rw (parts.0, parts.1) refl

  behind_wrong : (earlier : List W) (w : W) (wrong : Wrong) → by_itself rules w ≡ Err wrong → wrong_of rules earlier w ≡ Some wrong
  behind_wrong earlier w wrong e = wrong_parts (rules.lengths w) (rules.fields w) (has_earlier rules earlier w) (rules.row_of w) wrong e

  -- the first of some rows that are each right by themselves
  begins : (front rest : List W) → All IsAlone front → 0 < length front → BeginsRight rules (front ++ rest)
  begins [] rest right some = absurd (omega arith)
  begins (w ∷ ws) rest right some = behind_alone [] w (right 0 w (omega arith))

  module _ (written : List W) (rows : List R) (wrong : Option Wrong) (read : AreRead rules written rows wrong) where
    long : length rows ≡ length read.front
    long = ap length read.rows_are ∙ length-map read.front rules.row_of

    wrong_there : (k : ℕ) → k < length rows → wrong_at rules written k ≡ as_duplicate (repeats_at rules.same_key rows k)
    wrong_there k lt =
        let in_front : k < length read.front = omega (arith, lt, long) in
        let p = placed read.front k in_front in
        let alone_here : IsAlone p.w = subst IsAlone (get_or_from_slice_get read.front k p.w p.w p.is) (read.right k p.w in_front) in
        let here : slice_get rows k ≡ Some (rules.row_of p.w) = ap (λ (l : List R). slice_get l k) read.rows_are ∙ slice_get-map rules.row_of read.front k ∙ ap (option_map rules.row_of) p.is in
        let earlier : take k rows ≡ map rules.row_of (take k read.front) = ap (take k) read.rows_are ∙ take-map rules.row_of k read.front in
        let test : R → Bool = λ r. rules.same_key r (rules.row_of p.w) in
        ap (λ (l : List W). wrong_at rules l k) read.all
        ∙ wrong_front rules read.front read.rest k in_front
        ∙ ap (option_and_then (wrong_of rules (take k read.front))) p.is
        ∙ behind_alone (take k read.front) p.w alone_here
        ∙ ap as_duplicate
        (sym (any-map rules.row_of test (take k read.front)) ∙ ap (list_any test) (sym earlier) ∙ ap (repeats rules.same_key (take k rows)) (sym here))

    repeat_within : (n : ℕ) → repeats_at rules.same_key rows n ≡ true → n < length rows
    repeat_within n e =
        elim (cases_lt n (length rows)) [
          | inl lt ↦ lt
          | inr past ↦ absurd (both_ways (repeats_at rules.same_key rows n) (ap (repeats rules.same_key (take n rows)) (slice_get_past rows n past)) e)
        ]

    -- the first row that has the key of an earlier one is the first at fault
    pub repeat_is_first : (n : ℕ) → IsFirstRepeat rules.same_key rows (Some n) → IsFirstWrong rules written n Duplicate
    repeat_is_first n is =
        let within = repeat_within n is.0 in
        record {
          here = wrong_there n within ∙ ap as_duplicate is.0;
          before = λ k lt. wrong_there k (omega (arith, lt, within)) ∙ ap as_duplicate (is.1 k lt);
        }

    none_before : IsFirstRepeat rules.same_key rows None → (k : ℕ) → k < length rows → wrong_at rules written k ≡ None
    none_before none k lt = wrong_there k lt ∙ ap as_duplicate (none k)

  -- where no row has the key of an earlier one, the row that is wrong by itself is the first at fault
  stop_there : (written front rest : List W) (wrong : Wrong) → written ≡ front ++ rest → StopsAt rules (Some wrong) rest → wrong_at rules written (length front) ≡ Some wrong
  stop_there written front [] wrong e stop = absurd stop
  stop_there written front (w ∷ ws) wrong e stop = ap (λ (l : List W). wrong_at rules l (length front)) e ∙ wrong_seam rules front w ws ∙ behind_wrong front w wrong stop

  pub stop_is_first : (written : List W) (rows : List R) (wrong : Wrong) → AreRead rules written rows (Some wrong) → IsFirstRepeat rules.same_key rows None → IsFirstWrong rules written (length rows) wrong
  stop_is_first written rows wrong read none =
      record {
        here = ap (wrong_at rules written) (long written rows (Some wrong) read) ∙ stop_there written read.front read.rest wrong read.all read.stops;
        before = none_before written rows (Some wrong) read none;
      }

  -- the faults that name them
  pub repeat_fault : {T : Type 0} (table : T) (written : List W) (rows : List R) (wrong : Option Wrong) → AreRead rules written rows wrong → (n : ℕ) → IsFirstRepeat rules.same_key rows (Some n)
      → IsFirstFault rules table written (Row table n Duplicate)
  repeat_fault table written rows wrong read n is = record { place = n; wrong = Duplicate; is = refl; first = repeat_is_first written rows wrong read n is }

  pub stop_fault : {T : Type 0} (table : T) (written : List W) (rows : List R) (wrong : Wrong) → AreRead rules written rows (Some wrong) → IsFirstRepeat rules.same_key rows None
      → (n : ℕ) → n ≡ length rows → IsFirstFault rules table written (Row table n wrong)
  stop_fault table written rows wrong read none n is =
      record { place = length rows; wrong = wrong; is = ap (λ (k : ℕ). Row table k wrong) is; first = stop_is_first written rows wrong read none }

  -- where there is no such row either, nothing is wrong
  pub all_are_right : (written : List W) (rows : List R) → AreRead rules written rows None → IsFirstRepeat rules.same_key rows None → AreRight rules written
  all_are_right written rows read none k =
      elim (cases_lt k (length rows)) [
        | inl lt ↦ none_before written rows None read none k lt
        | inr ge ↦
            let whole : written ≡ read.front = all_of_front read.all read.stops in
            wrong_past rules written k (omega (arith, ge, long written rows None read, ap length whole))
      ]

  pub all_are_kept : (written : List W) (rows : List R) → AreRead rules written rows None → rows ≡ map rules.row_of written
  all_are_kept written rows read = read.rows_are ∙ ap (map rules.row_of) (sym (all_of_front read.all read.stops))

  -- where a row is read, the first is right
  pub begins_where_read : (written : List W) (rows : List R) (wrong : Option Wrong) → AreRead rules written rows wrong → 0 < length rows → BeginsRight rules written
  begins_where_read written rows wrong read some = subst (BeginsRight rules) (sym read.all) (begins read.front read.rest read.right (omega (arith, some, long written rows wrong read)))

pub if_memory : {X T : Type 0} (result : Result X (TableFault T)) (P : Type 0) → P → IfErr result (λ e. e ≡ Memory → P)
if_memory (Ok x) P p = tt
if_memory (Err e) P p = λ _. p

pub on_err : {X E : Type 0} (result : Result X E) (P : Type 0) → P → OnErr result P
on_err (Ok x) P p = tt
on_err (Err e) P p = p

-- the rows that were read so far, and those that are left
pub record Reading {W R : Type 0} (rules : Rules W R) (written yielded rest : List W) (left : ℕ) (rows : List R) : Type 0 where
  pub all : written ≡ yielded ++ rest
  pub left_is : left ≡ length rest
  pub rows_are : rows ≡ map rules.row_of yielded
  pub right : All (IsAlone rules) yielded

module _ {W R : Type 0} (rules : Rules W R) (written yielded rest : List W) (left : ℕ) (rows : List R) (so : Reading rules written yielded rest left rows) where
  -- one row more
  pub reading_more : (after : List W) (w : W) (left' : ℕ) (rows' : List R) (row : R) → rest ≡ w ∷ after → left' + 1 ≡ left → Ok row ≡ by_itself rules w → rows' ≡ rows ++ row ∷ []
      → Reading rules written (yielded ++ w ∷ []) after left' rows'
  reading_more after w left' rows' row next one read pushed =
      let parts = alone rules w row (sym read) in
      let left_is = so.left_is in
      record {
        all = so.all ∙ ap (λ (l : List W). yielded ++ l) next ∙ sym (append_assoc yielded (w ∷ []) after);
        left_is = omega (arith, ap length next, left_is, one);
        rows_are = pushed ∙ (λ j. so.rows_are j ++ parts.1 j ∷ []) ∙ sym (map-append rules.row_of yielded (w ∷ []));
        right = All-push (IsAlone rules) yielded w so.right parts.0;
      }

  -- a row that is wrong by itself
  pub reading_stops : (after : List W) (w : W) (wrong : Wrong) → rest ≡ w ∷ after → Err wrong ≡ by_itself rules w → AreRead rules written rows (Some wrong)
  reading_stops after w wrong next read = record {
    front = yielded;
    rest = w ∷ after;
    all = so.all ∙ ap (λ (l : List W). yielded ++ l) next;
    rows_are = so.rows_are;
    right = so.right;
    stops = sym read;
  }

  -- no row is left
  pub reading_ends : left ≡ 0 → AreRead rules written rows None
  reading_ends none = record {
    front = yielded;
    rest = rest;
    all = so.all;
    rows_are = so.rows_are;
    right = so.right;
    stops = no_more rest (omega (arith, none, so.left_is));
  }

  -- memory is wanted for a row that is right by itself
  pub reading_begins : (after : List W) (w : W) (row : R) → rest ≡ w ∷ after → Ok row ≡ by_itself rules w → BeginsRight rules written
  reading_begins after w row next read =
      let parts = alone rules w row (sym read) in
      let all = so.all ∙ ap (λ (l : List W). yielded ++ l) next ∙ sym (append_assoc yielded (w ∷ []) after) in
      subst (BeginsRight rules) (sym all) (begins rules (yielded ++ w ∷ []) after (All-push (IsAlone rules) yielded w so.right parts.0) (omega (arith, length-append yielded (w ∷ []))))

-- where nothing is wrong with any row, nothing is wrong with the first
begins_where_right : {W R : Type 0} (rules : Rules W R) (ws : List W) → AreRight rules ws → 0 < length ws → BeginsRight rules ws
begins_where_right rules [] right some = absurd (omega arith)
begins_where_right rules (w ∷ ws) right some = right 0

-- the first row at fault of a table, where nothing is wrong with those before, is the first fault
pub first_fault : (rows : VacmRows) (table : VacmTable) (fault : TableFault VacmTable) (place : ℕ) (wrong : Wrong)
    → fault ≡ Row table place wrong → AreRightBefore table rows → IsFirstIn table rows place wrong → IsFault rows fault
first_fault rows table fault place wrong is before first = subst (IsFault rows) (sym is) (before, first)

-- where there is a group row, and nothing is wrong with them, memory may be lacking
pub group_memory : {X : Type 0} (rows : VacmRows) (result : Result X (TableFault VacmTable)) (kept : List GroupRow)
    → AreRight group_rules rows.groups → kept ≡ map group_row rows.groups → 0 < length kept → IfErr result (λ e. e ≡ Memory → TakesMemory rows)
group_memory rows result kept groups is some =
    if_memory result (TakesMemory rows) (record {
      table = Groups;
      before = tt;
      begins = begins_where_right group_rules rows.groups groups (omega (arith, ap length is, length-map rows.groups group_row));
    })

-- where there is an access row, and nothing is wrong up to the last of them
pub access_memory : {X : Type 0} (rows : VacmRows) (result : Result X (TableFault VacmTable)) (kept : List AccessRow)
    → AreRight group_rules rows.groups → AreRight access_rules rows.access → kept ≡ map access_row rows.access → 0 < length kept → IfErr result (λ e. e ≡ Memory → TakesMemory rows)
access_memory rows result kept groups access is some =
    if_memory result (TakesMemory rows) (record {
      table = Access;
      before = groups;
      begins = begins_where_right access_rules rows.access access (omega (arith, ap length is, length-map rows.access access_row));
    })

-- where there is a family row, and nothing is wrong up to the last of them, memory may be lacking
pub tree_memory : {X : Type 0} (rows : VacmRows) (result : Result X (TableFault VacmTable)) (kept : List FamilyRow)
    → AreRight group_rules rows.groups → AreRight access_rules rows.access → AreRight family_rules rows.families
    → kept ≡ map family_row rows.families → 0 < length kept → IfErr result (λ e. e ≡ Memory → TakesMemory rows)
tree_memory rows result kept groups access families is some =
    if_memory result (TakesMemory rows) (record {
      table = Families;
      before = (groups, access);
      begins = begins_where_right family_rules rows.families families (omega (arith, ap length is, length-map rows.families family_row));
    })
