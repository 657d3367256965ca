-- The function of a table that gives its policy, beside the relations of a policy and its faults.
use Rattle.std.proofs.Common.{◌≡◌, ℕ, zero, suc, ◌<◌, ◌≤◌, Bool, true, false, ◌&&◌, leb, List, [], ◌∷◌, length, take, get_or, Option, Some, None, option_map, option_and_then, Result, Ok, Err, refl, sym, ap, subst, ◌∙◌, arith, inl, inr, ◌⊎◌, zero-add}
use Rattle.std.specs.Prelude.{IfOk, IfErr, is_none, ◌≢◌}
use Rattle.std.specs.List.{list_all, range_with_len, slice_get}
use Rattle.std.proofs.lemmas.Bool.{cases_Bool, cases_lt, le-leb, lt-leb, leb-true, and_parts, both_ways}
use Rattle.std.proofs.lemmas.List.Folds.{list_all_at}
use Rattle.std.proofs.lemmas.List.FromFn.{length-range_with_len, get_or-range_with_len}
use Rattle.std.proofs.lemmas.Option.{slice_get_within}
use Rattle.oid_core.specs.declared.limits.TheConstants.{MAX_NUMBERS}
use Rattle.oid_core.specs.TextValue.{name_of_text, all_of}
use Rattle.oid_core.proofs.TextValues.{dotted_read, read_dotted, none_dotted}
use Rattle.toml.specs.Data.{Data, Members, as_table, as_str}
use Rattle.community_core.specs.declared.fault.PolicyFault.{PolicyFault}
use Rattle.community_core.specs.declared.fault.PolicyFault.TheVariants.{Memory}
use Rattle.community_core.specs.declared.fault.PolicyTable.{PolicyTable}
use Rattle.community_core.specs.declared.fault.PolicyTable.TheVariants.{Groups, Access, Families, Contexts, Communities}
use Rattle.vacm_core.specs.declared.fault.VacmTable.{VacmTable}
use Rattle.vacm_core.specs.declared.fault.VacmTable.TheVariants as vacm
use Rattle.vacm_core.specs.declared.fault.Wrong.{Wrong}
use Rattle.vacm_core.specs.declared.written.WrittenFamily.{WrittenFamily}
use Rattle.vacm_core.specs.Rules.{Rules, wrong_of, wrong_at, IsFirstWrong, AreRight}
use Rattle.vacm_core.specs.Faults.{IsFirstIn}
use Rattle.vacm_core.specs.Rows.{group_rules, access_rules, family_rules, context_rules}
use Rattle.community_core.specs.declared.policy.PolicyRows.{PolicyRows}
use Rattle.policy_text.specs.declared.rows.FamilyTexts.{FamilyTexts}
use Rattle.community_core.specs.Communities.{PolicyTables, community_rules}
use Rattle.policy_text.specs.Reading.{AreRows, IsFirstUnread, group_says, group_of, access_says, access_of, family_says, family_members, texts_say, parts_say, subtree_says, mask_of, context_says, community_says, community_of}
use Rattle.policy_text.specs.Policies.{Arrays, arrays_of, AreRowsOf, IsUnreadOf, IsUnread, IsPolicyFault, ArePolicyRowsRight, IsPolicy, IsWrongPolicy, policy_tables}
use Rattle.policy_text.specs.Stated.{subtree_of, family_with, family_of_texts, family_of, rows_of, is_right, are_rows_right, if_right, policy_of_members}

-- ---- what a step found

bound : {A B : Type 0} (f : A → Option B) (o : Option A) (y : B) → option_and_then f o ≡ Some y → (x : A) × (o ≡ Some x) × (f x ≡ Some y)
bound f None y e = absurd cc
bound f (Some x) y e = (x, refl, e)

mapped : {A B : Type 0} (f : A → B) (o : Option A) (y : B) → option_map f o ≡ Some y → (x : A) × (o ≡ Some x) × (f x ≡ y)
mapped f None y e = absurd cc
mapped f (Some x) y e = (x, refl, cc)

abbrev nothing : {A B : Type 0} → A → Option B
nothing x = None

no_more : {A B : Type 0} (o : Option A) → option_and_then (nothing {A = A} {B = B}) o ≡ None
no_more None = refl
no_more (Some x) = refl

-- ---- rows of values

-- what a function says is what a relation says
record Decides {R : Type 0} (says : Data → Option R → Type 0) (f : Data → Option R) : Type 0 where
  row : (d : Data) (r : R) → says d (Some r) → f d ≡ Some r
  none : (d : Data) → says d None → f d ≡ None
  stated : (d : Data) (r : R) → f d ≡ Some r → says d (Some r)

module _ {R : Type 0} (says : Data → Option R → Type 0) (f : Data → Option R) (decides : Decides says f) where
  reported : (ds : List Data) (rows : List R) → AreRows says ds rows → all_of f ds ≡ Some rows
  reported [] [] h = refl
  reported [] (r ∷ rows) h = absurd h
  reported (d ∷ ds) [] h = absurd h
  reported (d ∷ ds) (r ∷ rows) h = rw (decides.row d r h.0, reported ds rows h.1)

  unreported : (ds : List Data) (place : ℕ) (value : Data) → slice_get ds place ≡ Some value → says value None → all_of f ds ≡ None
  unreported [] place value e none = absurd cc
  unreported (d ∷ ds) zero value e none =
      let same : d ≡ value = cc in
      rw (same, decides.none value none)
  unreported (d ∷ ds) (suc place) value e none = rw (unreported ds place value e none) (no_more (f d))

  stated_rows : (ds : List Data) (rows : List R) → all_of f ds ≡ Some rows → AreRows says ds rows
  stated_rows [] [] e = tt
  stated_rows [] (r ∷ rows) e = absurd cc
  stated_rows (d ∷ ds) rows e =
      let b = bound (λ y. option_map (λ ys. y ∷ ys) (all_of f ds)) (f d) rows e in
      let m = mapped (λ ys. b.0 ∷ ys) (all_of f ds) rows b.2 in
      subst (λ (l : List R). AreRows says (d ∷ ds) l) m.2 (decides.stated d b.0 b.1, stated_rows ds m.0 m.1)

  unread : (table : PolicyTable) (ds : List Data) (e : PolicyFault) → IsFirstUnread says table ds e → all_of f ds ≡ None
  unread table ds e h = unreported ds h.place h.value h.here h.none

-- a relation that is the function
by_function : {R : Type 0} (f : Data → Option R) → Decides (λ d o. o ≡ f d) f
by_function f = record { row = λ d r e. sym e; none = λ d e. sym e; stated = λ d r e. sym e }

-- ---- families

subtree_reported : (text name : List ℕ) → subtree_says text (Some name) → subtree_of text ≡ Some name
subtree_reported text name h = rw (dotted_read text name h.0, le-leb (length name) MAX_NUMBERS h.1)

subtree_none : (text : List ℕ) → subtree_says text None → subtree_of text ≡ None
subtree_none text (inl none) = rw (none_dotted text none (name_of_text text) refl)
subtree_none text (inr long) = rw (dotted_read text long.0 long.1, lt-leb (length long.0) MAX_NUMBERS long.2)

subtree_stated : (text name : List ℕ) → subtree_of text ≡ Some name → subtree_says text (Some name)
subtree_stated text name e =
    let b = bound _ (name_of_text text) name e in
    elim (cases_Bool (leb (length b.0) MAX_NUMBERS)) [
      | inl few ↦
          let h = rw few at b.2 in
          let same : b.0 ≡ name = cc in
          rw (← same) (read_dotted text b.0 b.1, leb-true (length b.0) MAX_NUMBERS few)
      | inr many ↦ absurd (let h = rw many at b.2 in cc)
    ]

parts_reported : (t : FamilyTexts) (mask : Option (List ℕ)) (row : WrittenFamily) → parts_say t mask (Some row) → option_and_then (family_with t) mask ≡ Some row
parts_reported t None row e = absurd cc
parts_reported t (Some mask) row h = rw (subtree_reported t.subtree row.subtree h.0) (ap (λ r. Some r) (sym h.1))

parts_none : (t : FamilyTexts) (mask : Option (List ℕ)) → parts_say t mask None → option_and_then (family_with t) mask ≡ None
parts_none t None e = refl
parts_none t (Some mask) h = rw (subtree_none t.subtree h)

parts_stated : (t : FamilyTexts) (mask : Option (List ℕ)) (row : WrittenFamily) → option_and_then (family_with t) mask ≡ Some row → parts_say t mask (Some row)
parts_stated t None row e = absurd cc
parts_stated t (Some mask) row e =
    let b = bound _ (subtree_of t.subtree) row e in
    let made : record { view = t.view; subtree = b.0; mask = mask; included = t.included } ≡ row = cc in
    subst (λ (r : WrittenFamily). parts_say t (Some mask) (Some r)) made (subtree_stated t.subtree b.0 b.1, refl)

texts_reported : (t : Option FamilyTexts) (row : WrittenFamily) → texts_say t (Some row) → option_and_then family_of_texts t ≡ Some row
texts_reported None row e = absurd cc
texts_reported (Some t) row h = parts_reported t (mask_of t.mask) row h

texts_none : (t : Option FamilyTexts) → texts_say t None → option_and_then family_of_texts t ≡ None
texts_none None e = refl
texts_none (Some t) h = parts_none t (mask_of t.mask) h

texts_stated : (t : Option FamilyTexts) (row : WrittenFamily) → option_and_then family_of_texts t ≡ Some row → texts_say t (Some row)
texts_stated None row e = absurd cc
texts_stated (Some t) row e = parts_stated t (mask_of t.mask) row e

by_family : Decides family_says family_of
by_family = record {
  row = λ d r h. texts_reported (option_and_then family_members (as_table d)) r h;
  none = λ d h. texts_none (option_and_then family_members (as_table d)) h;
  stated = λ d r e. texts_stated (option_and_then family_members (as_table d)) r e;
}

-- ---- the rows of all arrays

rows_reported : (a : Arrays) (rows : PolicyRows) → AreRowsOf a rows → rows_of a ≡ Some rows
rows_reported a rows h =
    rw (
      reported group_says group_of (by_function group_of) a.groups rows.vacm.groups h.groups,
      reported access_says access_of (by_function access_of) a.access rows.vacm.access h.access,
      reported family_says family_of by_family a.families rows.vacm.families h.families,
      reported context_says as_str (by_function as_str) a.contexts rows.vacm.contexts h.contexts,
      reported community_says community_of (by_function community_of) a.communities rows.communities h.communities,
    )

rows_none : (a : Arrays) (e : PolicyFault) → IsUnreadOf a e → rows_of a ≡ None
rows_none a e (inl h) = rw (unread group_says group_of (by_function group_of) Groups a.groups e h)
rows_none a e (inr (inl h)) =
    rw (
      reported group_says group_of (by_function group_of) a.groups h.0.0 h.0.1,
      unread access_says access_of (by_function access_of) Access a.access e h.1,
    )
rows_none a e (inr (inr (inl h))) =
    rw (
      reported group_says group_of (by_function group_of) a.groups h.0.0 h.0.1,
      reported access_says access_of (by_function access_of) a.access h.1.0 h.1.1,
      unread family_says family_of by_family Families a.families e h.2,
    )
rows_none a e (inr (inr (inr (inl h)))) =
    rw (
      reported group_says group_of (by_function group_of) a.groups h.0.0 h.0.1,
      reported access_says access_of (by_function access_of) a.access h.1.0 h.1.1,
      reported family_says family_of by_family a.families h.2.0 h.2.1,
      unread context_says as_str (by_function as_str) Contexts a.contexts e h.3,
    )
rows_none a e (inr (inr (inr (inr h)))) =
    rw (
      reported group_says group_of (by_function group_of) a.groups h.0.0 h.0.1,
      reported access_says access_of (by_function access_of) a.access h.1.0 h.1.1,
      reported family_says family_of by_family a.families h.2.0 h.2.1,
      reported context_says as_str (by_function as_str) a.contexts h.3.0 h.3.1,
      unread community_says community_of (by_function community_of) Communities a.communities e h.4,
    )

rows_stated : (a : Arrays) (rows : PolicyRows) → rows_of a ≡ Some rows → AreRowsOf a rows
rows_stated a rows e =
    let g = bound _ (all_of group_of a.groups) rows e in
    let s = bound _ (all_of access_of a.access) rows g.2 in
    let f = bound _ (all_of family_of a.families) rows s.2 in
    let t = bound _ (all_of as_str a.contexts) rows f.2 in
    let c = bound _ (all_of community_of a.communities) rows t.2 in
    let made : record { communities = c.0; vacm = record { groups = g.0; access = s.0; families = f.0; contexts = t.0 } } ≡ rows = cc in
    subst (AreRowsOf a) made (record {
      groups = stated_rows group_says group_of (by_function group_of) a.groups g.0 g.1;
      access = stated_rows access_says access_of (by_function access_of) a.access s.0 s.1;
      families = stated_rows family_says family_of by_family a.families f.0 f.1;
      contexts = stated_rows context_says as_str (by_function as_str) a.contexts t.0 t.1;
      communities = stated_rows community_says community_of (by_function community_of) a.communities c.0 c.1;
    })

-- ---- nothing is wrong

all_true : (p : ℕ → Bool) (ns : List ℕ) → ((n : ℕ) → p n ≡ true) → list_all p ns ≡ true
all_true p [] h = refl
all_true p (n ∷ ns) h = rw (h n, all_true p ns h)

is_none_from : {A : Type 0} (o : Option A) → is_none o ≡ true → o ≡ None
is_none_from None e = refl
is_none_from (Some x) e = absurd cc

module _ {W R : Type 0} (rules : Rules W R) (rows : List W) where
  right_reported : AreRight rules rows → is_right rules rows ≡ true
  right_reported right = all_true (λ n. is_none (wrong_at rules rows n)) (range_with_len 0 (length rows)) (λ n. ap is_none (right n))

  wrong_reported : (n : ℕ) → n < length rows → is_none (wrong_at rules rows n) ≡ false → is_right rules rows ≡ false
  wrong_reported n within wrong =
      let place : get_or (range_with_len 0 (length rows)) n 0 ≡ n = get_or-range_with_len 0 (length rows) n 0 within ∙ zero-add n in
      list_all_at (λ k. is_none (wrong_at rules rows k)) (range_with_len 0 (length rows)) n 0 (omega (arith, length-range_with_len 0 (length rows)))
      (ap (λ k. is_none (wrong_at rules rows k)) place ∙ wrong)

  first_reported : (n : ℕ) (wrong : Wrong) → IsFirstWrong rules rows n wrong → is_right rules rows ≡ false
  first_reported n wrong h =
      let b = bound (wrong_of rules (take n rows)) (slice_get rows n) wrong h.here in
      wrong_reported n (slice_get_within rows n b.0 b.1) (ap is_none h.here)

  right_stated : is_right rules rows ≡ true → AreRight rules rows
  right_stated right n =
      elim (cases_lt n (length rows)) [
        | inl within ↦
            elim (cases_Bool (is_none (wrong_at rules rows n))) [
              | inl none ↦ is_none_from (wrong_at rules rows n) none
              | inr some ↦ absurd (both_ways (is_right rules rows) (wrong_reported n within some) right)
            ]
        | inr past ↦ ap (option_and_then (wrong_of rules (take n rows))) (past_end rows n past)
      ]
    where
      past_end : (ws : List W) (k : ℕ) → length ws ≤ k → slice_get ws k ≡ None
      past_end [] k h = refl
      past_end (w ∷ ws) zero h = absurd (omega arith)
      past_end (w ∷ ws) (suc k) h = past_end ws k (omega arith)

-- ---- five tests in a row

one_false : (a b c d e : Bool) → (a ≡ false) ⊎ (b ≡ false) ⊎ (c ≡ false) ⊎ (d ≡ false) ⊎ (e ≡ false) → (a && b && c && d && e) ≡ false
one_false a b c d e h = grind (arith)

rows_right : (rows : PolicyRows) → ArePolicyRowsRight rows → are_rows_right rows ≡ true
rows_right rows h =
    rw (
      right_reported group_rules rows.vacm.groups h.0.0,
      right_reported access_rules rows.vacm.access h.0.1,
      right_reported family_rules rows.vacm.families h.0.2,
      right_reported context_rules rows.vacm.contexts h.0.3,
      right_reported community_rules rows.communities h.1,
    )

rows_false : (rows : PolicyRows)
    → (is_right group_rules rows.vacm.groups ≡ false) ⊎ (is_right access_rules rows.vacm.access ≡ false) ⊎ (is_right family_rules rows.vacm.families ≡ false)
    ⊎ (is_right context_rules rows.vacm.contexts ≡ false) ⊎ (is_right community_rules rows.communities ≡ false)
    → are_rows_right rows ≡ false
rows_false rows h =
    one_false (is_right group_rules rows.vacm.groups) (is_right access_rules rows.vacm.access) (is_right family_rules rows.vacm.families)
    (is_right context_rules rows.vacm.contexts) (is_right community_rules rows.communities) h

first_in : (table : VacmTable) (rows : PolicyRows) (n : ℕ) (wrong : Wrong) → IsFirstIn table rows.vacm n wrong → are_rows_right rows ≡ false
first_in vacm.Groups rows n wrong h = rows_false rows (inl (first_reported group_rules rows.vacm.groups n wrong h))
first_in vacm.Access rows n wrong h = rows_false rows (inr (inl (first_reported access_rules rows.vacm.access n wrong h)))
first_in vacm.Families rows n wrong h = rows_false rows (inr (inr (inl (first_reported family_rules rows.vacm.families n wrong h))))
first_in vacm.Contexts rows n wrong h = rows_false rows (inr (inr (inr (inl (first_reported context_rules rows.vacm.contexts n wrong h)))))

rows_wrong : (rows : PolicyRows) (e : PolicyFault) → IsPolicyFault rows e → are_rows_right rows ≡ false
rows_wrong rows e (inl h) = first_in h.table rows h.place h.wrong h.first
rows_wrong rows e (inr h) = rows_false rows (inr (inr (inr (inr (first_reported community_rules rows.communities h.1.place h.1.wrong h.1.first)))))

all_right : (rows : PolicyRows) → are_rows_right rows ≡ true → ArePolicyRowsRight rows
all_right rows h =
    let e = and_parts (is_right group_rules rows.vacm.groups && is_right access_rules rows.vacm.access && is_right family_rules rows.vacm.families && is_right context_rules rows.vacm.contexts) (is_right community_rules rows.communities) h in
    let d = and_parts (is_right group_rules rows.vacm.groups && is_right access_rules rows.vacm.access && is_right family_rules rows.vacm.families) (is_right context_rules rows.vacm.contexts) e.0 in
    let c = and_parts (is_right group_rules rows.vacm.groups && is_right access_rules rows.vacm.access) (is_right family_rules rows.vacm.families) d.0 in
    let b = and_parts (is_right group_rules rows.vacm.groups) (is_right access_rules rows.vacm.access) c.0 in (
      (
        right_stated group_rules rows.vacm.groups b.0,
        right_stated access_rules rows.vacm.access b.1,
        right_stated family_rules rows.vacm.families c.1,
        right_stated context_rules rows.vacm.contexts d.1,
      ),
      right_stated community_rules rows.communities e.1,
    )

-- ---- the policy

pub policy_reported : (ms : Members) (policy : PolicyTables) → IsPolicy ms policy → policy_of_members ms ≡ Some policy
unfolding policy_of_members
policy_reported ms policy h =
    rw (h.stated.are, rows_reported h.stated.arrays h.rows h.stated.say, rows_right h.rows h.right) (ap (λ p. Some p) (sym h.is))

pub unread_reported : (ms : Members) (e : PolicyFault) → IsUnread ms e → policy_of_members ms ≡ None
unfolding policy_of_members
unread_reported ms e (inl h) = rw h.0
unread_reported ms e (inr h) = rw (h.1, rows_none h.0 e h.2)

pub wrong_policy_reported : (ms : Members) (e : PolicyFault) → IsWrongPolicy ms e → policy_of_members ms ≡ None
unfolding policy_of_members
wrong_policy_reported ms e h = rw (h.stated.are, rows_reported h.stated.arrays h.rows h.stated.say, rows_wrong h.rows e h.fault)

pub refused_reported : (ms : Members) (e : PolicyFault) → IsUnread ms e ⊎ IsWrongPolicy ms e → policy_of_members ms ≡ None
refused_reported ms e (inl h) = unread_reported ms e h
refused_reported ms e (inr h) = wrong_policy_reported ms e h

right_only : (rows : PolicyRows) (policy : PolicyTables) → if_right rows ≡ Some policy → (are_rows_right rows ≡ true) × (policy ≡ policy_tables rows)
right_only rows policy e =
    elim (cases_Bool (are_rows_right rows)) [
      | inl right ↦ (right, (let h = rw right at e in let same : policy ≡ policy_tables rows = cc in same))
      | inr wrong ↦ absurd (let h = rw wrong at e in cc)
    ]

pub stated_policy : (ms : Members) (policy : PolicyTables) → policy_of_members ms ≡ Some policy → IsPolicy ms policy
unfolding policy_of_members
stated_policy ms policy e =
    let r = bound if_right (option_and_then rows_of (arrays_of ms)) policy e in
    let a = bound rows_of (arrays_of ms) r.0 r.1 in
    let k = right_only r.0 policy r.2 in
    record {
      rows = r.0;
      stated = record { arrays = a.0; are = a.1; say = rows_stated a.0 r.0 a.2 };
      right = all_right r.0 k.0;
      is = k.1;
    }

-- what a call that gives the policy, or refuses the table, says
pub stated_if : (ms : Members) (r : Result PolicyTables PolicyFault) → IfOk r (λ p. IsPolicy ms p) → IfOk r (λ p. policy_of_members ms ≡ Some p)
stated_if ms (Ok p) h = policy_reported ms p h
stated_if ms (Err e) h = tt

pub refused_if : (ms : Members) (r : Result PolicyTables PolicyFault) → IfErr r (λ e. e ≢ Memory → IsUnread ms e ⊎ IsWrongPolicy ms e) → IfErr r (λ e. e ≢ Memory → policy_of_members ms ≡ None)
refused_if ms (Ok p) h = tt
refused_if ms (Err e) h = λ other. refused_reported ms e (h other)
