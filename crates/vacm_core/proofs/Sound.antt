-- Where nothing is wrong with the written rows, the rows that they stand for are sound.
use Rattle.std.proofs.Common.{◌≡◌, ℕ, zero, suc, ◌<◌, ℤ, pos, negsuc, Bool, true, false, ◌&&◌, if◌then◌else◌, List, [], ◌∷◌, length, map, take, get_or, All, Some, None, refl, sym, ap, subst, ◌∙◌, arith, inl, inr}
use Rattle.std.specs.List.{list_any, slice_get}
use Rattle.std.proofs.lemmas.Bool.{cases_Bool, both_ways}
use Rattle.std.proofs.lemmas.List.{get_or-take, get_or-map, length-take-le, length-map}
use Rattle.std.proofs.lemmas.List.Folds.{list_any_at}
use Rattle.std.proofs.lemmas.Option.{get_or_from_slice_get}
use Rattle.vacm_core.specs.declared.fault.Wrong.TheVariants.{Length, Field, Duplicate}
use Rattle.vacm_core.specs.declared.limits.TheConstants.{MAX_MODEL}
use Rattle.vacm_core.specs.declared.tables.AccessRow.{AccessRow}
use Rattle.vacm_core.specs.declared.tables.FamilyRow.{FamilyRow}
use Rattle.vacm_core.specs.declared.tables.GroupRow.{GroupRow}
use Rattle.vacm_core.specs.declared.tables.Level.{Level}
use Rattle.vacm_core.specs.declared.tables.Level.TheVariants.{NoAuthNoPriv, AuthNoPriv, AuthPriv}
use Rattle.vacm_core.specs.declared.written.WrittenAccess.{WrittenAccess}
use Rattle.vacm_core.specs.declared.written.WrittenGroup.{WrittenGroup}
use Rattle.vacm_core.specs.declared.written.WrittenFamily.{WrittenFamily}
use Rattle.vacm_core.specs.declared.written.VacmRows.{VacmRows}
use Rattle.vacm_core.specs.Rules.{Rules, has_earlier, wrong_of, AreRight}
use Rattle.vacm_core.specs.Levels.{level_number}
use Rattle.vacm_core.specs.Rows.{natural, is_between, level_of, group_rules, access_rules, family_rules, context_rules, group_lengths, group_fields, access_lengths, access_fields, family_lengths, family_fields, context_lengths, group_row, access_row, family_row}
use Rattle.vacm_core.specs.Tables.{Tables, KeysDiffer, AreWellFormed, is_well_formed, IsSound, written_group, written_access, written_family}
use Rattle.vacm_core.specs.Texts.{is_plain}

pub and_true : (x y : Bool) → (x && y) ≡ true → (x ≡ true) × (y ≡ true)
and_true true y e = (refl, e)
and_true false y e = absurd cc

pub record Placed {W : Type 0} (ws : List W) (j : ℕ) : Type 0 where
  pub w : W
  pub is : slice_get ws j ≡ Some w

pub placed : {W : Type 0} (ws : List W) (j : ℕ) → j < length ws → Placed ws j
placed [] j h = absurd (omega arith)
placed (w ∷ ws) zero h = record { w = w; is = refl }
placed (w ∷ ws) (suc j) h = let p = placed ws j (omega arith) in record { w = p.w; is = p.is }

nothing : (l f e : Bool) → (if l then (if f then (if e then Some Duplicate else None) else Some Field) else Some Length) ≡ None → (l ≡ true) × (f ≡ true) × (e ≡ false)
nothing true true true h = absurd cc
nothing true true false h = (refl, refl, refl)
nothing true false e h = absurd cc
nothing false f e h = absurd cc

module _ {W R : Type 0} (rules : Rules W R) (ws : List W) (right : AreRight rules ws) (j : ℕ) (p : Placed ws j) where
  here : wrong_of rules (take j ws) p.w ≡ None
  here = rw p.is at (right j)

  lengths_here : rules.lengths p.w ≡ true
  lengths_here = (nothing (rules.lengths p.w) (rules.fields p.w) (has_earlier rules (take j ws) p.w) here).0

  fields_here : rules.fields p.w ≡ true
  fields_here = (nothing (rules.lengths p.w) (rules.fields p.w) (has_earlier rules (take j ws) p.w) here).1

  none_earlier : has_earlier rules (take j ws) p.w ≡ false
  none_earlier = (nothing (rules.lengths p.w) (rules.fields p.w) (has_earlier rules (take j ws) p.w) here).2

  not_same : (i : ℕ) → i < j → j < length ws → rules.same_key (rules.row_of (get_or ws i p.w)) (rules.row_of p.w) ≡ false
  not_same i lt within =
      let test : W → Bool = λ e. rules.same_key (rules.row_of e) (rules.row_of p.w) in
      elim (cases_Bool (test (get_or ws i p.w))) [
        | inr h ↦ h
        | inl h ↦ absurd (both_ways (list_any test (take j ws)) none_earlier
            (list_any_at test (take j ws) i p.w (omega (arith, length-take-le j ws (omega arith))) (ap test (get_or-take j ws i p.w lt) ∙ h)))
      ]

pub keys_differ : {W R : Type 0} (rules : Rules W R) (ws : List W) → AreRight rules ws → KeysDiffer rules.same_key (map rules.row_of ws)
keys_differ rules ws right i j d lt within =
    let within_ws : j < length ws = omega (arith, length-map ws rules.row_of) in
    let p = placed ws j within_ws in
    let w = p.w in
    let first = get_or-map rules.row_of ws i w d (omega arith) in
    let second = get_or-map rules.row_of ws j w d within_ws ∙ ap rules.row_of (get_or_from_slice_get ws j w w p.is) in
    (λ k. rules.same_key (first k) (second k)) ∙ not_same rules ws right j p i lt within_ws

-- what right lengths and fields give holds of all rows
pub all_of : {W R : Type 0} (rules : Rules W R) (P : R → Type 0) → ((w : W) → rules.lengths w ≡ true → rules.fields w ≡ true → P (rules.row_of w)) → (ws : List W) → AreRight rules ws → All P (map rules.row_of ws)
all_of rules P gives ws right k d lt =
    let within_ws : k < length ws = omega (arith, length-map ws rules.row_of) in
    let p = placed ws k within_ws in
    let is = get_or-map rules.row_of ws k p.w d within_ws ∙ ap rules.row_of (get_or_from_slice_get ws k p.w p.w p.is) in
    subst P (sym is) (gives p.w (lengths_here rules ws right k p) (fields_here rules ws right k p))

pub and_both : (x y : Bool) → x ≡ true → y ≡ true → (x && y) ≡ true
and_both x y p q = rw (p, q) refl

-- a number that is in a range that begins above negative ones stays in it as it is kept
between_kept : (least most : ℕ) (z : ℤ) → is_between least most z ≡ true → is_between least most (pos (natural z)) ≡ true
between_kept least most (pos n) h = h
between_kept least most (negsuc n) h = absurd cc

-- the level of any number has a number of 1 to 3
level_kept : (l : Level) → is_between 1 3 (pos (level_number l)) ≡ true
level_kept NoAuthNoPriv = refl
level_kept AuthNoPriv = refl
level_kept AuthPriv = refl

group_kept : (w : WrittenGroup) → group_lengths w ≡ true → group_fields w ≡ true → is_well_formed group_rules (written_group (group_row w)) ≡ true
group_kept w l f =
    let second = and_true (is_between 1 MAX_MODEL w.model && is_plain w.name) (is_plain w.group) f in
    let first = and_true (is_between 1 MAX_MODEL w.model) (is_plain w.name) second.0 in
    rw (l, between_kept 1 MAX_MODEL w.model first.0, first.1, second.1) refl

access_kept : (w : WrittenAccess) → access_lengths w ≡ true → access_fields w ≡ true → is_well_formed access_rules (written_access (access_row w)) ≡ true
access_kept w l f =
    let g = and_true (is_between 0 MAX_MODEL w.model && is_between 1 3 w.level && is_plain w.group && is_plain w.prefix && is_plain w.read && is_plain w.write) (is_plain w.notify) f in
    let e = and_true (is_between 0 MAX_MODEL w.model && is_between 1 3 w.level && is_plain w.group && is_plain w.prefix && is_plain w.read) (is_plain w.write) g.0 in
    let d = and_true (is_between 0 MAX_MODEL w.model && is_between 1 3 w.level && is_plain w.group && is_plain w.prefix) (is_plain w.read) e.0 in
    let b = and_true (is_between 0 MAX_MODEL w.model && is_between 1 3 w.level && is_plain w.group) (is_plain w.prefix) d.0 in
    let a = and_true (is_between 0 MAX_MODEL w.model && is_between 1 3 w.level) (is_plain w.group) b.0 in
    let m = and_true (is_between 0 MAX_MODEL w.model) (is_between 1 3 w.level) a.0 in
    rw (l, between_kept 0 MAX_MODEL w.model m.0, level_kept (level_of (natural w.level)), a.1, b.1, d.1, e.1, g.1) refl

family_kept : (w : WrittenFamily) → family_lengths w ≡ true → family_fields w ≡ true → is_well_formed family_rules (written_family (family_row w)) ≡ true
family_kept w l f = rw (l, f) refl

context_kept : (w : List ℕ) → context_lengths w ≡ true → is_plain w ≡ true → is_well_formed context_rules w ≡ true
context_kept w l f = rw (l, f) refl

pub sound : (rows : VacmRows) (t : Tables) → t.groups ≡ map group_row rows.groups → t.access ≡ map access_row rows.access → t.families ≡ map family_row rows.families
    → t.contexts ≡ map context_rules.row_of rows.contexts
    → AreRight group_rules rows.groups → AreRight access_rules rows.access → AreRight family_rules rows.families → AreRight context_rules rows.contexts → IsSound t
sound rows t g a f x rg ra rf rx = record {
  groups = subst (KeysDiffer group_rules.same_key) (sym g) (keys_differ group_rules rows.groups rg);
  access = subst (KeysDiffer access_rules.same_key) (sym a) (keys_differ access_rules rows.access ra);
  families = subst (KeysDiffer family_rules.same_key) (sym f) (keys_differ family_rules rows.families rf);
  group_rows = subst (AreWellFormed group_rules written_group) (sym g) (all_of group_rules (λ (r : GroupRow). is_well_formed group_rules (written_group r) ≡ true) group_kept rows.groups rg);
  access_rows = subst (AreWellFormed access_rules written_access) (sym a) (all_of access_rules (λ (r : AccessRow). is_well_formed access_rules (written_access r) ≡ true) access_kept rows.access ra);
  family_rows = subst (AreWellFormed family_rules written_family) (sym f) (all_of family_rules (λ (r : FamilyRow). is_well_formed family_rules (written_family r) ≡ true) family_kept rows.families rf);
  context_rows = subst (AreWellFormed context_rules (λ w. w)) (sym x) (all_of context_rules (λ (r : List ℕ). is_well_formed context_rules r ≡ true) context_kept rows.contexts rx);
}
