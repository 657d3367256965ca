-- For which binding of a request a name above 24 numbers is made, for which there may be no memory.
use Rattle.std.specs.Prelude.{◌≡◌, ◌≢◌, ℕ, suc, ◌+◌, ◌-◌, ◌%◌, ◌≤◌, Bool, if◌then◌else◌, nat_lt, List, ◌∷◌, ◌++◌, length, drop, slice_get, min, Some}
use Rattle.message_core.specs.declared.binding.Binding.{Binding}
use Rattle.message_core.specs.declared.limits.TheConstants.{MAX_REPLY}
use Rattle.message_core.specs.declared.request.Kind.{Kind}
use Rattle.message_core.specs.declared.request.Kind.TheVariants.{Get, GetNext, GetBulk, Set}
use Rattle.message_core.specs.declared.request.Request.{Request}
use Rattle.message_core.specs.Instances.{names_of}
use Rattle.agent_core.specs.Reading.{visible, next_answer}
use Rattle.agent_core.specs.Lookups.{LacksName, PassesLong}
use Rattle.agent_core.specs.Bulk.{asked_list, count_of}
use Rattle.agent_core.specs.Fitting.{reply_size}
use Rattle.agent_core.specs.Sets.{greatest_index}
use Rattle.agent_core.specs.declared.shortage.Shortage.{Shortage}
use Rattle.agent_core.specs.declared.shortage.Shortage.TheVariants as shortage

-- Where there was no memory for a name, its binding's number is one of these.
abbrev pub IfName : (ℕ → Type 0) → Shortage → Type 0
IfName lacks (shortage.Name i) = lacks i
IfName lacks shortage.Other = Unit {0}

-- A GetNext of these names: i is the number of one under which a long name is made (RFC 3416, 4.2.2).
pub record LacksNextName (shows : List ℕ → Bool) (rows : List Binding) (names : List (List ℕ))
    (i : ℕ) : Type 0 where
  pub before : ℕ
  pub number : i ≡ suc before
  pub name : List ℕ
  pub asked : slice_get names before ≡ Some name
  pub lacks : LacksName shows rows name

-- The number of the binding of which a member of a GetBulk's list is asked, by how many members stand
-- before it: so many bindings are asked once, and then so many columns in each repetition (RFC 3416,
-- 4.2.3).
abbrev pub binding_number : ℕ → ℕ → ℕ → ℕ
binding_number once columns before =
    if nat_lt before once then before + 1 else once + (before - once) % columns + 1

-- The names under which a list is asked whose first members were found: those that the request has,
-- and, behind the ones that are asked once, those of the members themselves.
abbrev pub bulk_names : List (List ℕ) → ℕ → List Binding → List (List ℕ)
bulk_names names once found = names ++ drop once (names_of found)

-- A list was sent as far as `found`, which stands behind `old`: its next member answers a name from
-- which a walk passes an instance with a long name, or ends at it.
pub record IsLacking (shows : List ℕ → Bool) (rows : List Binding)
    (names : List Binding → List (List ℕ)) (old all sent : List Binding) : Type 0 where
  pub found : List Binding
  pub sent_is : sent ≡ old ++ found
  pub name : List ℕ
  pub asked : slice_get (names found) (length found) ≡ Some name
  pub rest : List Binding
  pub list : sent ++ next_answer (visible shows rows) name ∷ rest ≡ all
  pub lacks : PassesLong shows rows name

-- how many bindings of a request are asked once
abbrev pub non_repeaters : Request → ℕ
non_repeaters request = min (count_of request.first) (length request.bindings)

-- A GetBulk: first members of the list that is asked for, which fit into the reply, and a next one,
-- sent or not, from whose name a walk passes an instance with a long name, or ends at it; i is the number
-- of its binding, in whichever repetition (RFC 3416, 4.2.3).
pub record LacksBulkName (shows : List ℕ → Bool) (rows : List Binding) (request : Request)
    (i : ℕ) : Type 0 where
  pub found : List Binding
  pub name : List ℕ
  pub rest : List Binding
  pub list : found ++ next_answer (visible shows rows) name ∷ rest
      ≡ asked_list (visible shows rows) request
  pub fits : reply_size request found ≤ MAX_REPLY
  pub asked : slice_get
      (bulk_names (names_of request.bindings) (non_repeaters request) found) (length found)
      ≡ Some name
  pub lacks : PassesLong shows rows name
  pub number : i ≡ binding_number (non_repeaters request)
      (length request.bindings - non_repeaters request) (length found)

-- A GetNext or a GetBulk made no lookup, where an error-index has the number of each of its bindings.
abbrev pub HasNoLookup : Request → ℕ → ℕ → Type 0
HasNoLookup request before after =
    request.kind ≢ Get → length request.bindings ≤ greatest_index → after ≡ before

-- By the kind of a request: only a GetNext and a GetBulk are answered genErr for a name.
abbrev pub LacksNameOf : (List ℕ → Bool) → List Binding → Request → Kind → ℕ → Type 0
LacksNameOf shows rows request Get i = ⊥
LacksNameOf shows rows request GetNext i = LacksNextName shows rows (names_of request.bindings) i
LacksNameOf shows rows request GetBulk i = LacksBulkName shows rows request i
LacksNameOf shows rows request Set i = ⊥
