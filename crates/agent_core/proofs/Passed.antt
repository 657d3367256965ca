-- Objects that are passed over as a whole: the value under a name among the others' instances, and the reply over them.
use Rattle.std.proofs.Common.{◌≡◌, ◌∙◌, ℕ, sym, ap, subst, refl, Bool, true, false, cond, not, List, [], ◌∷◌, ◌++◌, Contains, Option, Some, None, IsTrue, inl, inr}
use Rattle.std.proofs.lemmas.List.Elements.{Contains-append_left, Contains-append_right, Contains-append_cases}
use Rattle.std.specs.Option.{option_or}
use Rattle.oid_core.specs.Order.{name_eq, is_prefix}
use Rattle.message_core.specs.declared.binding.Binding.{Binding}
use Rattle.message_core.specs.declared.request.Kind.{Kind}
use Rattle.message_core.specs.declared.request.Kind.TheVariants.{Get, GetNext, GetBulk, Set}
use Rattle.message_core.specs.declared.request.Request.{Request}
use Rattle.message_core.specs.declared.value.Value.{Value}
use Rattle.message_core.specs.Instances.{value_of}
use Rattle.vacm_core.specs.declared.tables.FamilyRow.{FamilyRow}
use Rattle.vacm_core.specs.Families.{in_view}
use Rattle.vacm_core.specs.Hiding.{hides_all}
use Rattle.vacm_core.proofs.HiddenNames.{hidden}
use Rattle.setphase_core.specs.declared.world.World.{World}
use Rattle.setphase_core.specs.Objects.{ObjectRow}
use Rattle.setphase_core.specs.Registry.{prefixes_of, is_apart, AreApart, owner_of, instances_under, instances}
use Rattle.setphase_core.specs.Passing.{open_rows, open_instances}
use Rattle.setphase_core.proofs.Found.{instances-cons, instances-nil, value_not_under}
use Rattle.setphase_core.proofs.Passed.{nothing_missed}
use Rattle.agent_core.specs.Replies.{kind_reply}
use Rattle.agent_core.specs.Reading.{visible, next_answer}
use Rattle.agent_core.specs.Bulk.{asked_list}
use Rattle.agent_core.specs.Lacking.{LacksNameOf}
use Rattle.agent_core.proofs.Lacks.{lacks_more, passes_more}
use Rattle.agent_core.proofs.Apart.{no_other}
use Rattle.agent_core.proofs.LawProofs.{kind_same}
use Rattle.agent_core.proofs.Pairs.{pairs_head, pairs_tail}

-- ---- the value under a name

or_cond : (b : Bool) (v : Value) (r s : Option Value) → cond b (Some v) (option_or r s) ≡ option_or (cond b (Some v) r) s
or_cond true v r s = refl
or_cond false v r s = refl

value_append : (n : List ℕ) (xs ys : List Binding) → value_of (xs ++ ys) n ≡ option_or (value_of xs n) (value_of ys n)
value_append n [] ys = refl
value_append n (x ∷ xs) ys = ap (λ r. cond (name_eq x.name n) (Some x.value) r) (value_append n xs ys) ∙ or_cond (name_eq x.name n) x.value (value_of xs n) (value_of ys n)

-- under the first object or under a later one
value_first : (row : ObjectRow) (rows : List ObjectRow) (w : World) (n : List ℕ) → value_of (instances (row ∷ rows) w) n ≡ option_or (value_of (instances_under row w) n) (value_of (instances rows w) n)
value_first row rows w n = ap (λ xs. value_of xs n) (instances-cons row rows w) ∙ value_append n (instances_under row w) (instances rows w)

value_past : (row : ObjectRow) (rows : List ObjectRow) (w : World) (n : List ℕ) → is_prefix row.prefix n ≡ false → value_of (instances (row ∷ rows) w) n ≡ value_of (instances rows w) n
value_past row rows w n h = value_first row rows w n ∙ ap (λ v. option_or v (value_of (instances rows w) n)) (value_not_under row w n h)

-- where no object begins a name, there is none
value_elsewhere : (rows : List ObjectRow) (w : World) (n : List ℕ) → owner_of rows n ≡ None → value_of (instances rows w) n ≡ None
value_elsewhere [] w n e = ap (λ xs. value_of xs n) (instances-nil w)
value_elsewhere (row ∷ rows) w n e = pick (is_prefix row.prefix n) refl (λ f. value_elsewhere rows w n f) e
  where
    pick : (b : Bool) → is_prefix row.prefix n ≡ b → (owner_of rows n ≡ None → value_of (instances rows w) n ≡ None) → cond b (Some row.prefix) (owner_of rows n) ≡ None → value_of (instances (row ∷ rows) w) n ≡ None
    pick true h more f = absurd (cc)
    pick false h more f = value_past row rows w n h ∙ more f

module _ (passes : List ℕ → Bool) where
  owner_open : (rows : List ObjectRow) (n : List ℕ) → owner_of rows n ≡ None → owner_of (open_rows passes rows) n ≡ None
  owner_open [] n e = refl
  owner_open (row ∷ rows) n e = both (is_prefix row.prefix n) (passes row.prefix) refl e (owner_open rows n)
    where
      both : (b c : Bool) → is_prefix row.prefix n ≡ b → cond b (Some row.prefix) (owner_of rows n) ≡ None → (owner_of rows n ≡ None → owner_of (open_rows passes rows) n ≡ None) →
          owner_of (cond (not c) (row ∷ open_rows passes rows) (open_rows passes rows)) n ≡ None
      both true c h f more = absurd (cc)
      both false true h f more = more f
      both false false h f more = rw h (more f)

  -- the value, where the object that begins the name is not passed over
  abbrev by_owner : Option (List ℕ) → Option Value → Option Value
  by_owner None v = None
  by_owner (Some prefix) v = cond (passes prefix) None v

  value_open : (rows : List ObjectRow) (w : World) (n : List ℕ) → AreApart (prefixes_of rows) → value_of (open_instances passes rows w) n ≡ by_owner (owner_of rows n) (value_of (instances rows w) n)
  value_open [] w n apart = ap (λ xs. value_of xs n) (instances-nil w)
  value_open (row ∷ rows) w n apart =
      both (is_prefix row.prefix n) (passes row.prefix) refl refl (value_open rows w n (pairs_tail (λ (a b : List ℕ). IsTrue (is_apart a b)) row.prefix (prefixes_of rows) apart))
    where
      none : is_prefix row.prefix n ≡ true → owner_of rows n ≡ None
      none h = no_other row.prefix (prefixes_of rows) n (pairs_head (λ (a b : List ℕ). IsTrue (is_apart a b)) row.prefix (prefixes_of rows) apart) h

      both : (b c : Bool) → is_prefix row.prefix n ≡ b → passes row.prefix ≡ c → value_of (open_instances passes rows w) n ≡ by_owner (owner_of rows n) (value_of (instances rows w) n) →
          value_of (instances (cond (not c) (row ∷ open_rows passes rows) (open_rows passes rows)) w) n ≡ by_owner (cond b (Some row.prefix) (owner_of rows n)) (value_of (instances (row ∷ rows) w) n)
      both true true h k more =
          value_elsewhere (open_rows passes rows) w n (owner_open rows n (none h))
          ∙ ap (λ b. cond b None (value_of (instances (row ∷ rows) w) n)) (sym k)
      both true false h k more =
          let others : value_of (instances (open_rows passes rows) w) n ≡ value_of (instances rows w) n =
          value_elsewhere (open_rows passes rows) w n (owner_open rows n (none h)) ∙ sym (value_elsewhere rows w n (none h)) in
          value_first row (open_rows passes rows) w n
          ∙ ap (option_or (value_of (instances_under row w) n)) others
          ∙ sym (value_first row rows w n)
          ∙ ap (λ b. cond b None (value_of (instances (row ∷ rows) w) n)) (sym k)
      both false true h k more = more ∙ ap (by_owner (owner_of rows n)) (sym (value_past row rows w n h))
      both false false h k more =
          value_past row (open_rows passes rows) w n h
          ∙ more
          ∙ ap (by_owner (owner_of rows n)) (sym (value_past row rows w n h))

  pub value_unowned : (rows : List ObjectRow) (w : World) (n : List ℕ) → AreApart (prefixes_of rows) → owner_of rows n ≡ None → None ≡ value_of (open_instances passes rows w) n
  value_unowned rows w n apart e = sym (value_open rows w n apart ∙ ap (λ o. by_owner o (value_of (instances rows w) n)) e)

  pub value_passed : (rows : List ObjectRow) (w : World) (n prefix : List ℕ) → AreApart (prefixes_of rows) → owner_of rows n ≡ Some prefix → passes prefix ≡ true → None ≡ value_of (open_instances passes rows w) n
  value_passed rows w n prefix apart e h =
      sym (value_open rows w n apart ∙ ap (λ o. by_owner o (value_of (instances rows w) n)) e ∙ ap (λ b. cond b None (value_of (instances rows w) n)) h)

  pub value_kept : (rows : List ObjectRow) (w : World) (n prefix : List ℕ) → AreApart (prefixes_of rows) → owner_of rows n ≡ Some prefix → passes prefix ≡ false → value_of (instances rows w) n ≡ value_of (open_instances passes rows w) n
  value_kept rows w n prefix apart e h =
      sym (value_open rows w n apart ∙ ap (λ o. by_owner o (value_of (instances rows w) n)) e ∙ ap (λ b. cond b None (value_of (instances rows w) n)) h)

-- ---- the names for which there may be no memory

open_by : (passes : List ℕ → Bool) (row : ObjectRow) (rows : List ObjectRow) (w : World) (b : Binding) (c : Bool) → (Contains (open_instances passes rows w) b → Contains (instances rows w) b) →
    Contains (instances (cond (not c) (row ∷ open_rows passes rows) (open_rows passes rows)) w) b → Contains (instances (row ∷ rows) w) b
open_by passes row rows w b true more k =
    subst (λ (xs : List Binding). Contains xs b) (sym (instances-cons row rows w)) (Contains-append_right (instances_under row w) (instances rows w) b (more k))
open_by passes row rows w b false more k =
    elim (Contains-append_cases (instances_under row w) (instances (open_rows passes rows) w) b (subst (λ (xs : List Binding). Contains xs b) (instances-cons row (open_rows passes rows) w) k)) [
      | inl here ↦ subst (λ (xs : List Binding). Contains xs b) (sym (instances-cons row rows w)) (Contains-append_left (instances_under row w) (instances rows w) b here)
      | inr there ↦ subst (λ (xs : List Binding). Contains xs b) (sym (instances-cons row rows w)) (Contains-append_right (instances_under row w) (instances rows w) b (more there))
    ]

open_contained : (passes : List ℕ → Bool) (rows : List ObjectRow) (w : World) (b : Binding) → Contains (open_instances passes rows w) b → Contains (instances rows w) b
open_contained passes [] w b h = h
open_contained passes (row ∷ rows) w b h = open_by passes row rows w b (passes row.prefix) (λ k. open_contained passes rows w b k) h

lacks_by : (shows : List ℕ → Bool) (few all : List Binding) (request : Request) (kind : Kind) (i : ℕ) → visible shows few ≡ visible shows all → ((b : Binding) → Contains few b → Contains all b) →
    LacksNameOf shows few request kind i → LacksNameOf shows all request kind i
lacks_by shows few all request Get i same more h = h
lacks_by shows few all request GetNext i same more h = record {
  before = h.before;
  number = h.number;
  name = h.name;
  asked = h.asked;
  lacks = lacks_more shows few all h.name same more h.lacks;
}
lacks_by shows few all request GetBulk i same more h = record {
  found = h.found;
  name = h.name;
  rest = h.rest;
  list = subst (λ (rows : List Binding). h.found ++ next_answer rows h.name ∷ h.rest ≡ asked_list rows request) same h.list;
  fits = h.fits;
  asked = h.asked;
  lacks = passes_more shows few all h.name same more h.lacks;
  number = h.number;
}
lacks_by shows few all request Set i same more h = h

pub lacks_open : (families : List FamilyRow) (view : List ℕ) (rows : List ObjectRow) (w : World) (request : Request) (kind : Kind) (i : ℕ) →
    LacksNameOf (in_view families view) (open_instances (hides_all families view) rows w) request kind i → LacksNameOf (in_view families view) (instances rows w) request kind i
lacks_open families view rows w request kind i =
    lacks_by (in_view families view) (open_instances (hides_all families view) rows w) (instances rows w) request kind i
    (nothing_missed (hides_all families view) (in_view families view) rows w (λ prefix name hides begins. hidden families view prefix name begins hides))
    (open_contained (hides_all families view) rows w)

-- ---- the reply

-- where each object that is passed over is hidden, the reply is as over all instances
pub reply_open : (families : List FamilyRow) (view : List ℕ) (rows : List ObjectRow) (w : World) (request : Request) (kind : Kind) →
    kind_reply (prefixes_of rows) (in_view families view) (open_instances (hides_all families view) rows w) request kind ≡ kind_reply (prefixes_of rows) (in_view families view) (instances rows w) request kind
reply_open families view rows w request kind =
    kind_same (prefixes_of rows) (prefixes_of rows) (in_view families view) (in_view families view) (open_instances (hides_all families view) rows w) (instances rows w) request kind
    (nothing_missed (hides_all families view) (in_view families view) rows w (λ prefix name hides begins. hidden families view prefix name begins hides))
    (λ _. (refl, λ i d within. refl))
