-- The calls of the devices of objects, one after the other: by the places of the objects, and by the
-- names of the variables.
use Rattle.std.proofs.Common.{◌≡◌, ℕ, zero, suc, ◌+◌, ◌<◌, ◌∙◌, sym, ap, subst, refl, Bool, true, false, ◌||◌, cond, List, [], ◌∷◌, ◌++◌, length, map, take, reverse, slice_set, Some, arith}
use Rattle.std.specs.List.{AllByRecursion}
use Rattle.std.proofs.lemmas.List.{map-append, map-set, map_more, reverse-append}
use Rattle.oid_core.specs.Order.{is_prefix}
use Rattle.setting_keys.specs.declared.SettingKey.{SettingKey}
use Rattle.setphase_core.specs.declared.staging.Staged.{Staged}
use Rattle.setphase_core.specs.Calls.{Call, undo_call, object_after_call, object_after_calls, object_after_set, AreByPlan, FollowPlans}
use Rattle.setphase_core.specs.Objects.{ObjectRow, ObjectState, object_after_release, object_called, IsByPlan}
use Rattle.setphase_core.specs.Outcomes.{has_key}
use Rattle.setphase_core.specs.Registry.{rows_of, prefixes_of}
use Rattle.setphase_core.specs.Searching.{prefix_at, IsOwnerPlace}
use Rattle.setphase_core.specs.Staging.{CallAt, object_at, entry_at, no_entry, assignments_of, Without, after_call_at, after_calls_at, AreByPlanAt, AreCalled, commit_at, undo_at, undos_at}
use Rattle.setphase_core.specs.Variables.{NamedAssignment}
use Rattle.setphase_core.proofs.Assigns.{different}
use Rattle.setphase_core.proofs.Holding.{object_at-released}

-- ---- by places

pub called_none : (os : List ObjectState) → AreCalled [] os os
called_none os = record { objects = refl; by_plan = tt }

after_calls-append : (cs ds : List CallAt) (os : List ObjectState) →
    after_calls_at (cs ++ ds) os ≡ after_calls_at ds (after_calls_at cs os)
after_calls-append [] ds os = refl
after_calls-append (c ∷ cs) ds os = after_calls-append cs ds (after_call_at c os)

by_plan-append : (cs ds : List CallAt) (os : List ObjectState) → AreByPlanAt cs os →
    AreByPlanAt ds (after_calls_at cs os) → AreByPlanAt (cs ++ ds) os
by_plan-append [] ds os h k = k
by_plan-append (c ∷ cs) ds os h k = (h.0, by_plan-append cs ds (after_call_at c os) h.1 k)

pub called-append : (cs ds : List CallAt) (os ns ms : List ObjectState) → AreCalled cs os ns →
    AreCalled ds ns ms → AreCalled (cs ++ ds) os ms
called-append cs ds os ns ms h k = record {
  objects = k.objects ∙ ap (after_calls_at ds) h.objects ∙ sym (after_calls-append cs ds os);
  by_plan = by_plan-append cs ds os h.by_plan (subst (AreByPlanAt ds) h.objects k.by_plan);
}

pub called_since : (cs : List CallAt) (ys zs ns : List ObjectState) → ys ≡ zs →
    AreCalled cs ys ns → AreCalled cs zs ns
called_since cs ys zs ns e h = subst (λ xs. AreCalled cs xs ns) e h

-- One call more, of objects that are seen once all is dropped.
pub called_more : (cs : List CallAt) (zs os ns : List ObjectState) (p : ℕ) (fails : Bool)
    (n : ObjectState) → ns ≡ slice_set os p n →
    object_after_release n ≡ object_called fails (object_after_release (object_at os p)) →
    IsByPlan (object_at os p) fails → AreCalled cs zs (map object_after_release os) →
    AreCalled (cs ++ (record { place = p; fails = fails }) ∷ []) zs (map object_after_release ns)
called_more cs zs os ns p fails n set is planned h =
    let at : object_at (map object_after_release os) p ≡ object_after_release (object_at os p) = object_at-released os p in
    called-append cs ((record { place = p; fails = fails }) ∷ []) zs (map object_after_release os) (map object_after_release ns) h (record {
      objects = ap (map object_after_release) set
          ∙ map-set object_after_release os p n
          ∙ ap (λ (z : ObjectState). slice_set (map object_after_release os) p z) (is ∙ ap (object_called fails) (sym at));
      by_plan = (subst (λ (z : ObjectState). IsByPlan z fails) (sym at) planned, tt);
    })

-- ---- the calls of entries

-- One more commit.
pub commits_more : (es : List Staged) (i : ℕ) → i < length es →
    map (commit_at false) (take (i + 1) es)
    ≡ map (commit_at false) (take i es) ++ commit_at false (entry_at es i) ∷ []
commits_more es i h = map_more (commit_at false) es i no_entry h

-- The undo of the first of some entries comes last.
pub undos-cons : (keys : List SettingKey) (e : Staged) (es : List Staged) →
    undos_at keys (e ∷ es) ≡ undos_at keys es ++ undo_at keys e ∷ []
undos-cons keys e es =
    ap (map (undo_at keys)) (reverse-append (e ∷ []) es)
    ∙ map-append (undo_at keys) (reverse es) (e ∷ [])

pub undo_calls-cons : (keys : List SettingKey) (x : NamedAssignment) (xs : List NamedAssignment) →
    map (undo_call keys) (reverse (x ∷ xs))
    ≡ map (undo_call keys) (reverse xs) ++ undo_call keys x ∷ []
undo_calls-cons keys x xs =
    ap (map (undo_call keys)) (reverse-append (x ∷ []) xs)
    ∙ map-append (undo_call keys) (reverse xs) (x ∷ [])

-- A setting that no entry has fails none of their undos.
pub undos-more : (keys : List SettingKey) (key : SettingKey) (es : List Staged) →
    Without key (assignments_of es) → undos_at (key ∷ keys) es ≡ undos_at keys es
undos-more keys key [] h = refl
undos-more keys key (e ∷ es) h =
    undos-cons (key ∷ keys) e es
    ∙ ap (λ (cs : List CallAt). cs ++ undo_at (key ∷ keys) e ∷ []) (undos-more keys key es h.1)
    ∙ ap (λ b. undos_at keys es ++ (record { place = e.object; fails = b || has_key keys e.slot.key }) ∷ []) (different key e.slot.key (λ q. h.0 (sym q)))
    ∙ sym (undos-cons keys e es)

-- ---- by names

abbrev pub names_in : List ObjectState → List (List ℕ)
names_in os = prefixes_of (rows_of os)

row_called : (own fails : Bool) (o : ObjectState) → (cond own (object_called fails o) o).row ≡ o.row
row_called true true o = refl
row_called true false o = refl
row_called false fails o = refl

reserved_called : (own fails : Bool) (o : ObjectState) →
    (cond own (object_called fails o) o).reserved ≡ o.reserved
reserved_called true true o = refl
reserved_called true false o = refl
reserved_called false fails o = refl

released_called : (own fails : Bool) (o : ObjectState) →
    cond own (object_called fails (object_after_release o)) (object_after_release o)
    ≡ object_after_release (cond own (object_called fails o) o)
released_called true true o = refl
released_called true false o = refl
released_called false fails o = refl

rows_of-called : (c : Call) (os : List ObjectState) →
    rows_of (map (object_after_call c) os) ≡ rows_of os
rows_of-called c [] = refl
rows_of-called c (o ∷ os) =
    ap (λ row. row ∷ rows_of (map (object_after_call c) os)) (row_called (is_prefix o.row.prefix c.name) c.fails o)
    ∙ ap (λ rows. o.row ∷ rows) (rows_of-called c os)

pub row_after_calls : (cs : List Call) (o : ObjectState) → (object_after_calls cs o).row ≡ o.row
row_after_calls [] o = refl
row_after_calls (c ∷ cs) o =
    row_after_calls cs (object_after_call c o)
    ∙ row_called (is_prefix o.row.prefix c.name) c.fails o

pub reserved_after_calls : (cs : List Call) (o : ObjectState) →
    (object_after_calls cs o).reserved ≡ o.reserved
reserved_after_calls [] o = refl
reserved_after_calls (c ∷ cs) o =
    reserved_after_calls cs (object_after_call c o)
    ∙ reserved_called (is_prefix o.row.prefix c.name) c.fails o

-- A call of a name that no object has.
not_called : (os : List ObjectState) (c : Call) →
    ((k : ℕ) → k < length (names_in os) → is_prefix (prefix_at (names_in os) k) c.name ≡ false) →
    os ≡ map (object_after_call c) os
not_called [] c none = refl
not_called (o ∷ os) c none =
    ap (λ zs. o ∷ zs) (not_called os c (λ k low. none (suc k) (omega arith)))
    ∙ ap (λ b. cond b (object_called c.fails o) o ∷ map (object_after_call c) os) (sym (none 0 (omega arith)))

not_planned : (os : List ObjectState) (c : Call) →
    ((k : ℕ) → k < length (names_in os) → is_prefix (prefix_at (names_in os) k) c.name ≡ false) →
    AllByRecursion (λ o. is_prefix o.row.prefix c.name ≡ true → IsByPlan o c.fails) os
not_planned [] c none = tt
not_planned (o ∷ os) c none = (
  (λ own. let no : false ≡ true = sym (none 0 (omega arith)) ∙ own in absurd (cc)),
  not_planned os c (λ k low. none (suc k) (omega arith)),
)

-- A call of the object at a place, whose name begins the call's.
called_at : (os : List ObjectState) (p : ℕ) (c : Call) → IsOwnerPlace (names_in os) c.name (Some p) →
    slice_set os p (object_called c.fails (object_at os p)) ≡ map (object_after_call c) os
called_at [] p c h = absurd (omega (arith, h.0))
called_at (o ∷ os) zero c h =
    ap (λ b. cond b (object_called c.fails o) o ∷ os) (sym h.1)
    ∙ ap (λ zs. object_after_call c o ∷ zs) (not_called os c (λ k low. h.2 (suc k) (omega arith) (omega arith)))
called_at (o ∷ os) (suc p) c h =
    ap (λ zs. o ∷ zs) (called_at os p c (omega (arith, h.0), h.1, λ k low ne. h.2 (suc k) (omega arith) (omega arith)))
    ∙ ap (λ b. cond b (object_called c.fails o) o ∷ map (object_after_call c) os) (sym (h.2 0 (omega arith) (omega arith)))

planned_at : (os : List ObjectState) (p : ℕ) (c : Call) → IsOwnerPlace (names_in os) c.name (Some p) →
    IsByPlan (object_at os p) c.fails →
    AllByRecursion (λ o. is_prefix o.row.prefix c.name ≡ true → IsByPlan o c.fails) os
planned_at [] p c h is = absurd (omega (arith, h.0))
planned_at (o ∷ os) zero c h is = (
  (λ own. is),
  not_planned os c (λ k low. h.2 (suc k) (omega arith) (omega arith)),
)
planned_at (o ∷ os) (suc p) c h is = (
  (λ own. let no : false ≡ true = sym (h.2 0 (omega arith) (omega arith)) ∙ own in absurd (cc)),
  planned_at os p c (omega (arith, h.0), h.1, λ k low ne. h.2 (suc k) (omega arith) (omega arith)) is,
)

-- Calls by places are those by names.
abbrev pub CallsFor : List ObjectRow → List CallAt → List Call → Type 0
CallsFor rows [] [] = Unit {0}
CallsFor rows (p ∷ ps) (c ∷ cs) =
    (p.fails ≡ c.fails) × IsOwnerPlace (prefixes_of rows) c.name (Some p.place)
    × CallsFor rows ps cs
CallsFor rows ps cs = ⊥

pub calls_for-append : (rows : List ObjectRow) (ps qs : List CallAt) (cs ds : List Call) →
    CallsFor rows ps cs → CallsFor rows qs ds → CallsFor rows (ps ++ qs) (cs ++ ds)
calls_for-append rows [] qs [] ds h k = k
calls_for-append rows [] qs (c ∷ cs) ds h k = absurd h
calls_for-append rows (p ∷ ps) qs [] ds h k = absurd h
calls_for-append rows (p ∷ ps) qs (c ∷ cs) ds h k =
    (h.0, h.1, calls_for-append rows ps qs cs ds h.2 k)

no_calls : (os : List ObjectState) → os ≡ map (object_after_calls []) os
no_calls [] = refl
no_calls (o ∷ os) = ap (λ zs. o ∷ zs) (no_calls os)

pub no_plans : (os : List ObjectState) → FollowPlans [] os
no_plans [] = tt
no_plans (o ∷ os) = (tt, no_plans os)

calls_more : (c : Call) (cs : List Call) (os : List ObjectState) →
    map (object_after_calls cs) (map (object_after_call c) os) ≡ map (object_after_calls (c ∷ cs)) os
calls_more c cs [] = refl
calls_more c cs (o ∷ os) = ap (λ zs. object_after_calls (c ∷ cs) o ∷ zs) (calls_more c cs os)

plans_more : (c : Call) (cs : List Call) (os : List ObjectState) →
    AllByRecursion (λ o. is_prefix o.row.prefix c.name ≡ true → IsByPlan o c.fails) os →
    FollowPlans cs (map (object_after_call c) os) → FollowPlans (c ∷ cs) os
plans_more c cs [] h k = tt
plans_more c cs (o ∷ os) h k = ((h.0, k.0), plans_more c cs os h.1 k.1)

-- What calls leave, and that they follow the plans, by names.
pub called_for : (os ns : List ObjectState) (ps : List CallAt) (cs : List Call) →
    CallsFor (rows_of os) ps cs → AreCalled ps os ns →
    (ns ≡ map (object_after_calls cs) os) × FollowPlans cs os
called_for os ns [] [] h called = (called.objects ∙ no_calls os, no_plans os)
called_for os ns [] (c ∷ cs) h called = absurd h
called_for os ns (p ∷ ps) [] h called = absurd h
called_for os ns (p ∷ ps) (c ∷ cs) h called =
    let stepped : after_call_at p os ≡ map (object_after_call c) os
    = ap (λ b. slice_set os p.place (object_called b (object_at os p.place))) h.0 ∙ called_at os p.place c h.1 in
    let planned : IsByPlan (object_at os p.place) c.fails = subst (IsByPlan (object_at os p.place)) h.0 called.by_plan.0 in
    let rest : (ns ≡ map (object_after_calls cs) (map (object_after_call c) os)) × FollowPlans cs (map (object_after_call c) os)
    = called_for (map (object_after_call c) os) ns ps cs (subst (λ rows. CallsFor rows ps cs) (sym (rows_of-called c os)) h.2) (record {
      objects = called.objects ∙ ap (after_calls_at ps) stepped;
      by_plan = subst (AreByPlanAt ps) stepped called.by_plan.1;
    }) in
    (rest.0 ∙ calls_more c cs os, plans_more c cs os (planned_at os p.place c h.1 planned) rest.1)

-- ---- objects of which all is dropped first

pub set_released : (cs : List Call) (os : List ObjectState) →
    map (object_after_calls cs) (map object_after_release os) ≡ map (object_after_set cs) os
set_released cs [] = refl
set_released cs (o ∷ os) = ap (λ zs. object_after_set cs o ∷ zs) (set_released cs os)

by_plan_released : (cs : List Call) (o : ObjectState) → AreByPlan cs (object_after_release o) →
    AreByPlan cs o
by_plan_released [] o h = tt
by_plan_released (c ∷ cs) o h = (
  h.0,
  by_plan_released cs (object_after_call c o) (subst (AreByPlan cs) (released_called (is_prefix o.row.prefix c.name) c.fails o) h.1),
)

pub plans_released : (cs : List Call) (os : List ObjectState) →
    FollowPlans cs (map object_after_release os) → FollowPlans cs os
plans_released cs [] h = tt
plans_released cs (o ∷ os) h = (by_plan_released cs o h.0, plans_released cs os h.1)

by_plan_since : (cs : List Call) (o : ObjectState) → AreByPlan cs o →
    AreByPlan cs (object_after_release o)
by_plan_since [] o h = tt
by_plan_since (c ∷ cs) o h = (
  h.0,
  subst (AreByPlan cs) (sym (released_called (is_prefix o.row.prefix c.name) c.fails o)) (by_plan_since cs (object_after_call c o) h.1),
)

-- What objects have reserved is nothing to their plans.
pub plans_since : (cs : List Call) (os ns : List ObjectState) →
    map object_after_release os ≡ map object_after_release ns → FollowPlans cs os → FollowPlans cs ns
plans_since cs os ns same h =
    plans_released cs ns (subst (FollowPlans cs) same (all_since os h))
  where
    all_since : (os : List ObjectState) → FollowPlans cs os → FollowPlans cs (map object_after_release os)
    all_since [] h = tt
    all_since (o ∷ os) h = (by_plan_since cs o h.0, all_since os h.1)
