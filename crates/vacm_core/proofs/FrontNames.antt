-- The front by the rows is the shortest under which the answer on a name holds for every name.
use Rattle.std.proofs.Common.{◌≡◌, ◌==◌, ◌||◌, not, if◌then◌else◌, Bool, true, false, ◌&&◌, ℕ, zero, suc, ◌+◌, ◌<◌, ◌≤◌, max, List, [], ◌∷◌, ◌++◌, length, take, get_or, bytes_eq, Option, Some, None, IfSome, option_map, refl, sym, ap, subst, ◌∙◌, arith, inl, inr}
use Rattle.std.specs.List.{list_any, slice_get}
use Rattle.std.proofs.Math.Seq.{take-length}
use Rattle.std.proofs.lemmas.Bool.{cases_Bool, cases_lt, both_ways, and_from, not-true, not_from_false, or_left, or_right, or_from}
use Rattle.std.proofs.lemmas.List.{append-nil, length-take}
use Rattle.std.proofs.lemmas.List.Folds.{list_any_at, list_any_none, Any-from_list_any}
use Rattle.std.proofs.lemmas.Option.{get_or_from_slice_get, slice_get_within}
use Rattle.oid_core.specs.Order.{is_prefix}
use Rattle.oid_core.proofs.OrderLaws.{prefix_of, prefix_only}
use Rattle.vacm_core.specs.declared.tables.FamilyRow.{FamilyRow}
use Rattle.vacm_core.specs.declared.verdict.FamilyAnswer.{FamilyAnswer}
use Rattle.vacm_core.specs.declared.verdict.FamilyAnswer.TheVariants.{Included, Excluded, NoRow}
use Rattle.vacm_core.specs.Best.{takes_over, IsUnbeatenAt}
use Rattle.vacm_core.specs.Families.{mask_bit, agrees_from, matches, family_beats, deciding_family, by_type, by_family, family_answer, is_included, in_view}
use Rattle.vacm_core.specs.Fronts.{HoldsUnder, IsLeastFront, IsShortestFront, front_apart, is_rival, front_past, subtree_length, front_of_row}
use Rattle.vacm_core.specs.Orders.{family_order}
use Rattle.vacm_core.specs.Rows.{same_family}
use Rattle.vacm_core.specs.Tables.{KeysDiffer}
use Rattle.vacm_core.proofs.Agrees.{and_true, agrees_found}
use Rattle.vacm_core.proofs.Apart.{given_up}
use Rattle.vacm_core.proofs.Decided.{none_where_none_passes, some_is_unbeaten}
use Rattle.vacm_core.proofs.HiddenNames.{front_agrees, longer_agrees, some_below}
use Rattle.vacm_core.proofs.Ties.{one_only, family_ties}

-- the value, where there is one
value_or : {X : Type 0} → X → Option X → X
value_or d (Some x) = x
value_or d None = d

same_value : {X : Type 0} (a b : X) → Some a ≡ Some b → a ≡ b
unfolding value_or
same_value a b e = ap (value_or a) e

-- ---- one row

-- the subtree agrees with the first numbers of the name, as far as both reach
abbrev may_agree : ℕ → List ℕ → List ℕ → List ℕ → Bool
may_agree k mask subtree front = agrees_from k mask (take (length front) subtree) front

-- a front that shows that the subtree does not have the name is longer than what came before, and no longer than the name
apart_within : (k : ℕ) (mask subtree name : List ℕ) (m : ℕ) → front_apart k mask subtree name ≡ Some m → (k < m) × (m ≤ k + length name)
apart_within k mask [] name m e = absurd cc
apart_within k mask (s ∷ subtree) [] m e = absurd cc
apart_within k mask (s ∷ subtree) (n ∷ name) m e = elim (cases_Bool (not (mask_bit mask k) || s == n)) [
  | inl same ↦
      let rest = apart_within (k + 1) mask subtree name m (rw same at e) in
      let more = rest.0 in
      let most = rest.1 in
      (omega arith, omega arith)
  | inr other ↦
      let here : k + 1 ≡ m = same_value (k + 1) m (rw other at e) in
      (omega arith, omega arith)
]

-- where no number differs, they agree as far as both reach
never_apart : (k : ℕ) (mask subtree name : List ℕ) → front_apart k mask subtree name ≡ None → may_agree k mask subtree name ≡ true
never_apart k mask subtree [] e = refl
never_apart k mask [] (n ∷ name) e = refl
never_apart k mask (s ∷ subtree) (n ∷ name) e = elim (cases_Bool (not (mask_bit mask k) || s == n)) [
  | inl same ↦ and_from _ _ same (never_apart (k + 1) mask subtree name (rw same at e))
  | inr other ↦ let none : Some (k + 1) ≡ None = rw other at e in absurd cc
]

-- under fewer numbers they agree as far as both reach
apart_before : (k : ℕ) (mask subtree name : List ℕ) (m : ℕ) → front_apart k mask subtree name ≡ Some m → (j : ℕ) → k + j < m → may_agree k mask subtree (take j name) ≡ true
apart_before k mask subtree name m e zero lt = refl
apart_before k mask [] name m e (suc j) lt = absurd cc
apart_before k mask (s ∷ subtree) [] m e (suc j) lt = absurd cc
apart_before k mask (s ∷ subtree) (n ∷ name) m e (suc j) lt = elim (cases_Bool (not (mask_bit mask k) || s == n)) [
  | inl same ↦ and_from _ _ same (apart_before (k + 1) mask subtree name m (rw same at e) j (omega arith))
  | inr other ↦
      let here : k + 1 ≡ m = same_value (k + 1) m (rw other at e) in
      absurd (omega arith)
]

and_second : (x y : Bool) → y ≡ false → (x && y) ≡ false
and_second true y e = e
and_second false y e = refl

-- under so many and more they do not
apart_from : (k : ℕ) (mask subtree name : List ℕ) (m : ℕ) → front_apart k mask subtree name ≡ Some m → (j : ℕ) → m ≤ k + j → may_agree k mask subtree (take j name) ≡ false
apart_from k mask [] name m e j le = absurd cc
apart_from k mask (s ∷ subtree) [] m e j le = absurd cc
apart_from k mask (s ∷ subtree) (n ∷ name) m e zero le = let more = (apart_within k mask (s ∷ subtree) (n ∷ name) m e).0 in absurd (omega arith)
apart_from k mask (s ∷ subtree) (n ∷ name) m e (suc j) le = elim (cases_Bool (not (mask_bit mask k) || s == n)) [
  | inl same ↦ and_second _ _ (apart_from (k + 1) mask subtree name m (rw same at e) j (omega arith))
  | inr other ↦ rw other refl
]

-- a subtree that agrees with a name agrees with each front of it that is as long
agrees_front : (i : ℕ) (mask subtree name : List ℕ) (k : ℕ) → length subtree ≤ k → agrees_from i mask subtree name ≡ true → agrees_from i mask subtree (take k name) ≡ true
agrees_front i mask [] name k long e = refl
agrees_front i mask (s ∷ subtree) name zero long e = absurd (omega arith)
agrees_front i mask (s ∷ subtree) [] (suc k) long e = absurd cc
agrees_front i mask (s ∷ subtree) (n ∷ name) (suc k) long e =
    let parts = and_true (not (mask_bit mask i) || s == n) (agrees_from (i + 1) mask subtree name) e in
    and_from _ _ parts.0 (agrees_front (i + 1) mask subtree name k (omega arith) parts.1)

-- ---- all rows

-- a rival may have a name below the first j numbers
abbrev pub is_open : (FamilyRow → Bool) → List ℕ → ℕ → FamilyRow → Bool
is_open rival name j row = rival row && may_agree 0 row.mask row.subtree (take j name)

-- the front is one from the least on, under which no rival may have a name, as one may under each that is shorter
record IsPast (rival : FamilyRow → Bool) (name : List ℕ) (least front : ℕ) (rows : List FamilyRow) : Type 0 where
  from : least ≤ front
  within : least ≤ length name → front ≤ length name
  shut : list_any (is_open rival name front) rows ≡ false
  before : (j : ℕ) → least ≤ j → j < front → list_any (is_open rival name j) rows ≡ true

module _ (rival : FamilyRow → Bool) (name : List ℕ) where
  past_none : (least front : ℕ) → Some least ≡ Some front → IsPast rival name least front []
  past_none least front e =
      let same : least ≡ front = same_value least front e in
      record {
        from = omega arith;
        within = λ h. omega arith;
        shut = refl;
        before = λ j a b. absurd (omega arith);
      }

  -- a row that is no rival
  past_other : (least front : ℕ) (row : FamilyRow) (rows : List FamilyRow) → rival row ≡ false → IsPast rival name least front rows → IsPast rival name least front (row ∷ rows)
  past_other least front row rows fails p = record {
    from = p.from;
    within = p.within;
    shut = rw fails p.shut;
    before = λ j a b. or_right _ _ (p.before j a b);
  }

  -- a rival, which these first numbers show not to have the name
  past_rival : (least front m : ℕ) (row : FamilyRow) (rows : List FamilyRow) → rival row ≡ true → front_apart 0 row.mask row.subtree name ≡ Some m → IsPast rival name (max least m) front rows → IsPast rival name least front (row ∷ rows)
  past_rival least front m row rows holds apart p =
      let from = p.from in
      let most = (apart_within 0 row.mask row.subtree name m apart).1 in
      record {
        from = omega arith;
        within = λ h. p.within (omega arith);
        shut = or_from _ _ (and_second _ _ (apart_from 0 row.mask row.subtree name m apart front (omega arith))) p.shut;
        before = λ j a b. elim (cases_lt j m) [
          | inl lt ↦ or_left _ _ (and_from _ _ holds (apart_before 0 row.mask row.subtree name m apart j (omega arith)))
          | inr ge ↦ or_right _ _ (p.before j (omega arith) b)
        ];
      }

  past_apart : (row : FamilyRow) (rows : List FamilyRow) (least front : ℕ)
      → ((l f : ℕ) → front_past rival name (Some l) rows ≡ Some f → IsPast rival name l f rows)
      → rival row ≡ true → (apart : Option ℕ) → front_apart 0 row.mask row.subtree name ≡ apart
      → front_past rival name (option_map (max least) apart) rows ≡ Some front → IsPast rival name least front (row ∷ rows)
  past_apart row rows least front rest holds None is e = let none : None ≡ Some front = sym (given_up rival name rows) ∙ e in absurd cc
  past_apart row rows least front rest holds (Some m) is e = past_rival least front m row rows holds is (rest (max least m) front e)

  -- the front past a row, by whether it is a rival
  by_rival : (row : FamilyRow) (rows : List FamilyRow) (least : ℕ) (found : Option ℕ) (b : Bool) → rival row ≡ b → front_past rival name (Some least) (row ∷ rows) ≡ found
      → front_past rival name (if b then option_map (max least) (front_apart 0 row.mask row.subtree name) else Some least) rows ≡ found
  by_rival row rows least found b is e =
      subst (λ (t : Bool). front_past rival name (if t then option_map (max least) (front_apart 0 row.mask row.subtree name) else Some least) rows ≡ found) is e

  past : (rows : List FamilyRow) (least front : ℕ) → front_past rival name (Some least) rows ≡ Some front → IsPast rival name least front rows
  past [] least front e = past_none least front e
  past (row ∷ rows) least front e = elim (cases_Bool (rival row)) [
    | inr fails ↦ past_other least front row rows fails (past rows least front (by_rival row rows least (Some front) false fails e))
    | inl holds ↦ past_apart row rows least front (λ l f h. past rows l f h) holds (front_apart 0 row.mask row.subtree name) refl (by_rival row rows least (Some front) true holds e)
  ]

  none_apart : (row : FamilyRow) (rows : List FamilyRow) (least : ℕ)
      → ((l : ℕ) → front_past rival name (Some l) rows ≡ None → list_any (is_open rival name (length name)) rows ≡ true)
      → rival row ≡ true → (apart : Option ℕ) → front_apart 0 row.mask row.subtree name ≡ apart
      → front_past rival name (option_map (max least) apart) rows ≡ None → list_any (is_open rival name (length name)) (row ∷ rows) ≡ true
  none_apart row rows least rest holds None is e =
      or_left _ _ (and_from _ _ holds (ap (may_agree 0 row.mask row.subtree) (take-length name) ∙ never_apart 0 row.mask row.subtree name is))
  none_apart row rows least rest holds (Some m) is e = or_right _ _ (rest (max least m) e)

  -- where there is no front, a rival may have a name below the whole name
  past_all : (rows : List FamilyRow) (least : ℕ) → front_past rival name (Some least) rows ≡ None → list_any (is_open rival name (length name)) rows ≡ true
  past_all [] least e = absurd cc
  past_all (row ∷ rows) least e = elim (cases_Bool (rival row)) [
    | inr fails ↦ or_right _ _ (past_all rows least (by_rival row rows least None false fails e))
    | inl holds ↦ none_apart row rows least (λ l h. past_all rows l h) holds (front_apart 0 row.mask row.subtree name) refl (by_rival row rows least None true holds e)
  ]

-- ---- the answer names the row that decides

abbrev row_named : FamilyAnswer → Option ℕ
row_named (Included n) = Some n
row_named (Excluded n) = Some n
row_named NoRow = None

type_named : (n : ℕ) (row : FamilyRow) → row_named (by_type n (Some row)) ≡ Some n
type_named n row = elim (cases_Bool row.included) [
  | inl holds ↦ rw holds refl
  | inr fails ↦ rw fails refl
]

module _ (rows : List FamilyRow) (view : List ℕ) where
  decided_named : (name : List ℕ) (decides : Option ℕ) → deciding_family rows view name ≡ decides → row_named (by_family rows decides) ≡ decides
  decided_named name None e = refl
  decided_named name (Some n) e =
      let best = some_is_unbeaten family_order (matches view name) rows n e in
      ap (λ (r : Option FamilyRow). row_named (by_type n r)) best.here ∙ type_named n best.row

  -- where the answer is the same, so is the row
  same_row : (name other : List ℕ) → family_answer rows view other ≡ family_answer rows view name → deciding_family rows view other ≡ deciding_family rows view name
  same_row name other e =
      sym (decided_named other (deciding_family rows view other) refl) ∙ ap row_named e ∙ decided_named name (deciding_family rows view name) refl

-- ---- where the answer does not hold

module _ (rows : List FamilyRow) (view name : List ℕ) where
  -- a rival that has another name takes the decision on it
  rival_decides : (decides : Option ℕ) (k : ℕ) (row : FamilyRow) (other : List ℕ) → k < length rows → get_or rows k row ≡ row
      → takes_over family_beats rows decides row ≡ true → matches view other row ≡ true → deciding_family rows view other ≡ decides → ⊥
  rival_decides None k row other lt is over has e =
      both_ways (list_any (matches view other) rows) ((none_where_none_passes family_order (matches view other) rows).0 e)
      (list_any_at (matches view other) rows k row lt (ap (matches view other) is ∙ has))
  rival_decides (Some n) k row other lt is over has e =
      let best = some_is_unbeaten family_order (matches view other) rows n e in
      let parts = and_true (matches view other best.row) (not (list_any (λ x. matches view other x && family_beats x best.row) rows)) best.unbeaten in
      let over_best : family_beats row best.row ≡ true = ap (family_beats row) (sym (get_or_from_slice_get rows n best.row row best.here)) ∙ over in
      both_ways (list_any (λ x. matches view other x && family_beats x best.row) rows) (not-true _ parts.1)
      (list_any_at (λ x. matches view other x && family_beats x best.row) rows k row lt
      (ap (λ (x : FamilyRow). matches view other x && family_beats x best.row) is ∙ and_from _ _ has over_best))

  module _ (decides : Option ℕ) (decided : deciding_family rows view name ≡ decides) where
    -- under a front where a rival is open
    open_fails : (j : ℕ) → list_any (is_open (is_rival rows view decides) name j) rows ≡ true → HoldsUnder rows view name j → ⊥
    open_fails j some holds =
        let any = Any-from_list_any (is_open (is_rival rows view decides) name j) rows some in
        let row = any.1 in
        let parts = and_true (is_rival rows view decides row) (may_agree 0 row.mask row.subtree (take j name)) any.4 in
        let both = and_true (takes_over family_beats rows decides row) (bytes_eq row.view view) parts.0 in
        let below = (some_below view (take j name) row).0 (and_from _ _ both.1 parts.1) in
        let other = take j name ++ below.0 in
        let same = same_row rows view name other (holds other (prefix_of (take j name) below.0)) in
        rival_decides decides any.0 row other any.2 any.3 both.0 below.1 (same ∙ decided)

    -- under a front shorter than the subtree of the row that decides
    short_fails : (n : ℕ) (row : FamilyRow) → decides ≡ Some n → slice_get rows n ≡ Some row → (j : ℕ) → j < length row.subtree → HoldsUnder rows view name j → ⊥
    short_fails n row is here j lt holds =
        let same = same_row rows view name (take j name) (holds (take j name) (prefix_only (take j name) (take j name) (record { rest = []; parts = sym (append-nil (take j name)) }))) in
        let best = some_is_unbeaten family_order (matches view (take j name)) rows n (same ∙ decided ∙ is) in
        let parts = and_true (matches view (take j name) best.row) (not (list_any (λ x. matches view (take j name) x && family_beats x best.row) rows)) best.unbeaten in
        let fits = and_true (bytes_eq best.row.view view) (agrees_from 0 best.row.mask best.row.subtree (take j name)) parts.0 in
        let long = (agrees_found 0 best.row.mask best.row.subtree (take j name) fits.1).0 in
        let own : row ≡ best.row = same_value row best.row (sym here ∙ best.here) in
        let own_long : length row.subtree ≡ length best.row.subtree = ap (λ (r : FamilyRow). length r.subtree) own in
        let short = length-take j name in
        absurd (omega arith)

-- ---- where it holds

module _ (rows : List FamilyRow) (differ : KeysDiffer same_family rows) (view name : List ℕ) (k : ℕ) (other : List ℕ) (begins : is_prefix (take k name) other ≡ true) where
  -- a row of the view that has the other name agrees with the front as far as both reach
  agrees_so_far : (row : FamilyRow) → matches view other row ≡ true → (bytes_eq row.view view ≡ true) × (may_agree 0 row.mask row.subtree (take k name) ≡ true)
  agrees_so_far row has =
      let parts = and_true (bytes_eq row.view view) (agrees_from 0 row.mask row.subtree other) has in
      (parts.0, front_agrees 0 row.mask row.subtree (take k name) other begins parts.1)

  -- where no row is open, none has the other name
  none_decides : list_any (is_open (is_rival rows view None) name k) rows ≡ false → deciding_family rows view other ≡ None
  none_decides shut = (none_where_none_passes family_order (matches view other) rows).1 (list_any_none (matches view other) rows (λ i d lt.
      elim (cases_Bool (matches view other (get_or rows i d))) [
        | inr fails ↦ fails
        | inl holds ↦
            let parts = agrees_so_far (get_or rows i d) holds in
            absurd (both_ways (list_any (is_open (is_rival rows view None) name k) rows) shut
            (list_any_at (is_open (is_rival rows view None) name k) rows i d lt (and_from _ _ parts.0 parts.1)))
      ]))

  module _ (n : ℕ) (row : FamilyRow) (here : slice_get rows n ≡ Some row) where
    -- where no row that beats it is open, none that has the other name beats it
    none_beats : list_any (is_open (is_rival rows view (Some n)) name k) rows ≡ false → list_any (λ x. matches view other x && family_beats x row) rows ≡ false
    none_beats shut = list_any_none (λ x. matches view other x && family_beats x row) rows (λ i d lt.
        elim (cases_Bool (matches view other (get_or rows i d) && family_beats (get_or rows i d) row)) [
          | inr fails ↦ fails
          | inl holds ↦
              let rival = get_or rows i d in
              let both = and_true (matches view other rival) (family_beats rival row) holds in
              let parts = agrees_so_far rival both.0 in
              let over : takes_over family_beats rows (Some n) rival ≡ true = ap (family_beats rival) (get_or_from_slice_get rows n row rival here) ∙ both.1 in
              absurd (both_ways (list_any (is_open (is_rival rows view (Some n)) name k) rows) shut
              (list_any_at (is_open (is_rival rows view (Some n)) name k) rows i d lt (and_from _ _ (and_from _ _ over parts.0) parts.1)))
        ])

    -- it has the other name too
    has_other : matches view name row ≡ true → length row.subtree ≤ k → matches view other row ≡ true
    has_other has long =
        let parts = and_true (bytes_eq row.view view) (agrees_from 0 row.mask row.subtree name) has in
        and_from _ _ parts.0
        (longer_agrees 0 row.mask row.subtree (take k name) other begins (agrees_front 0 row.mask row.subtree name k long parts.1))

    only_this : IsUnbeatenAt (matches view other) family_beats rows n → (found : Option ℕ) → deciding_family rows view other ≡ found → found ≡ Some n
    only_this here None e =
        absurd (both_ways (list_any (matches view other) rows) ((none_where_none_passes family_order (matches view other) rows).0 e)
        (list_any_at (matches view other) rows n here.row (slice_get_within rows n here.row here.here)
        (ap (matches view other) (get_or_from_slice_get rows n here.row here.row here.here)
        ∙ (and_true (matches view other here.row) (not (list_any (λ x. matches view other x && family_beats x here.row) rows)) here.unbeaten).0)))
    only_this here (Some m) e =
        ap (λ (i : ℕ). Some i)
        (one_only (matches view other) family_beats same_family rows differ (family_ties view other) m n (some_is_unbeaten family_order (matches view other) rows m e) here)

    still_decides : matches view name row ≡ true → length row.subtree ≤ k → list_any (is_open (is_rival rows view (Some n)) name k) rows ≡ false → deciding_family rows view other ≡ Some n
    still_decides has long shut =
        only_this (record { row = row; here = here; unbeaten = and_from _ _ (has_other has long) (not_from_false _ (none_beats shut)) }) (deciding_family rows view other) refl

-- ---- the front

module _ (rows : List FamilyRow) (differ : KeysDiffer same_family rows) (view name : List ℕ) where
  least_by_none : deciding_family rows view name ≡ None → (k : ℕ) → IsPast (is_rival rows view None) name 0 k rows → IsLeastFront rows view name k
  least_by_none decided k p = record {
    within = p.within (omega arith);
    holds = λ other begins. ap (by_family rows) (none_decides rows differ view name k other begins p.shut ∙ sym decided);
    least = λ j lt holds. open_fails rows view name None decided j (p.before j (omega arith) lt) holds;
  }

  least_by_row : (n : ℕ) (row : FamilyRow) → slice_get rows n ≡ Some row → deciding_family rows view name ≡ Some n → matches view name row ≡ true
      → (k : ℕ) → IsPast (is_rival rows view (Some n)) name (length row.subtree) k rows → IsLeastFront rows view name k
  least_by_row n row here decided has k p =
      let parts = and_true (bytes_eq row.view view) (agrees_from 0 row.mask row.subtree name) has in
      record {
        within = p.within ((agrees_found 0 row.mask row.subtree name parts.1).0);
        holds = λ other begins. ap (by_family rows) (still_decides rows differ view name k other begins n row here has p.from p.shut ∙ sym decided);
        least = λ j lt holds. elim (cases_lt j (length row.subtree)) [
          | inl short ↦ short_fails rows view name (Some n) decided n row refl here j short holds
          | inr long ↦ open_fails rows view name (Some n) decided j (p.before j long lt) holds
        ];
      }

  -- the front past each rival is the shortest
  pub shortest : (decides : Option ℕ) → deciding_family rows view name ≡ decides → (found : Option ℕ)
      → front_past (is_rival rows view decides) name (Some (front_of_row rows decides)) rows ≡ found → IsShortestFront rows view name found
  shortest decides decided None e =
      open_fails rows view name decides decided (length name) (past_all (is_rival rows view decides) name rows (front_of_row rows decides) e)
  shortest None decided (Some k) e = least_by_none decided k (past (is_rival rows view None) name rows 0 k e)
  shortest (Some n) decided (Some k) e =
      let best = some_is_unbeaten family_order (matches view name) rows n decided in
      let row = best.row in
      let has = (and_true (matches view name row) (not (list_any (λ x. matches view name x && family_beats x row) rows)) best.unbeaten).0 in
      let length_is : subtree_length (slice_get rows n) ≡ length row.subtree = ap subtree_length best.here in
      let from = ap (λ (l : ℕ). front_past (is_rival rows view (Some n)) name (Some l) rows) (sym length_is) ∙ e in
      least_by_row n row best.here decided has k (past (is_rival rows view (Some n)) name rows (length row.subtree) k from)

-- ---- what is shown of the names below a front

pub shown_under : (rows : List FamilyRow) (view name : List ℕ) (answer : FamilyAnswer) (front : Option ℕ) → answer ≡ family_answer rows view name → IsShortestFront rows view name front
    → IfSome front (λ k. (k ≤ length name)
    × (is_included answer ≡ true → (other : List ℕ) → is_prefix (take k name) other ≡ true → in_view rows view other ≡ true))
shown_under rows view name answer None is p = tt
shown_under rows view name answer (Some k) is p = (p.within, λ included other begins. ap is_included (p.holds other begins ∙ sym is) ∙ included)
