-- What the values of a TOML document say as rows.
use Rattle.std.specs.Prelude.{◌≡◌, ◌⊎◌, ℕ, ◌≤◌, ◌==◌, if◌then◌else◌, codes, List, [], ◌∷◌, length, take, Option, Some, None, IsSome, option_and_then, slice_get}
use Rattle.std.specs.Result.{result_ok}
use Rattle.std.specs.List.{AllZip}
use Rattle.hex.specs.Hex.{decode_of}
use Rattle.oid_core.specs.declared.limits.TheConstants.{MAX_NUMBERS}
use Rattle.oid_core.specs.Text.{IsDotted, IsTextFault}
use Rattle.oid_core.specs.declared.fault.OidFault.TheVariants.{BadText, TooLong}
use Rattle.toml.specs.Data.{Data, Members, as_table, as_str}
use Rattle.community_core.specs.declared.fault.PolicyFault.{PolicyFault}
use Rattle.community_core.specs.declared.fault.PolicyFault.TheVariants.{BadField}
use Rattle.community_core.specs.declared.fault.PolicyTable.{PolicyTable}
use Rattle.vacm_core.specs.declared.written.WrittenGroup.{WrittenGroup}
use Rattle.vacm_core.specs.declared.written.WrittenAccess.{WrittenAccess}
use Rattle.vacm_core.specs.declared.written.WrittenFamily.{WrittenFamily}
use Rattle.community_core.specs.declared.community.WrittenCommunity.{WrittenCommunity}
use Rattle.policy_text.specs.declared.rows.FamilyTexts.{FamilyTexts}
use Rattle.policy_text.specs.Keys.{key_count, string_at, integer_at, bool_at}

-- each value says its row
abbrev pub AreRows : {R : Type 0} → (Data → Option R → Type 0) → List Data → List R → Type 0
AreRows says ds rows = AllZip (λ d row. says d (Some row)) ds rows

-- this fault names the first value that says no row
pub record IsFirstUnread {R : Type 0} (says : Data → Option R → Type 0) (table : PolicyTable) (ds : List Data) (fault : PolicyFault) : Type 0 where
  pub place : ℕ
  pub is : fault ≡ BadField table place
  pub value : Data
  pub here : slice_get ds place ≡ Some value
  pub none : says value None
  pub rows : List R
  pub before : AreRows says (take place ds) rows

-- There is a first value, and it is typed as a row. Only of values that are, texts are copied and
-- rows kept, so only then does reading the values take memory.
abbrev pub BeginsTyped : (Data → Type 0) → List Data → Type 0
BeginsTyped IsTyped [] = ⊥
BeginsTyped IsTyped (d ∷ ds) = IsTyped d

-- the next step, where there is a value
infixl 10 ◌>=>◌
abbrev pub ◌>=>◌ : {A B : Type 0} → Option A → (A → Option B) → Option B
o >=> f = option_and_then f o

-- a context is a string
abbrev pub context_says : Data → Option (List ℕ) → Type 0
context_says d row = row ≡ as_str d

abbrev pub IsContext : Data → Type 0
IsContext d = IsSome (as_str d)

-- ---- groups: a table of exactly the keys `model`, `name` and `group`

abbrev pub group_keys : Members → Option WrittenGroup
group_keys ms =
    integer_at (codes "model") ms >=> (λ model. string_at (codes "name") ms >=> (λ name. string_at (codes "group") ms >=> (λ group.
    Some (record { model = model; name = name; group = group }))))

abbrev pub group_members : Members → Option WrittenGroup
group_members ms = if key_count ms == 3 then group_keys ms else None

abbrev pub group_of : Data → Option WrittenGroup
group_of d = option_and_then group_members (as_table d)

abbrev pub group_says : Data → Option WrittenGroup → Type 0
group_says d row = row ≡ group_of d

-- the value is typed as a group row
abbrev pub IsGroup : Data → Type 0
IsGroup d = IsSome (group_of d)

-- ---- access rows: a table of exactly these eight keys

abbrev pub access_keys : Members → Option WrittenAccess
access_keys ms =
    string_at (codes "group") ms >=> (λ group. string_at (codes "prefix") ms >=> (λ prefix. integer_at (codes "model") ms >=> (λ model.
    integer_at (codes "level") ms >=> (λ level. bool_at (codes "exact") ms >=> (λ exact. string_at (codes "read") ms >=> (λ read.
    string_at (codes "write") ms >=> (λ write. string_at (codes "notify") ms >=> (λ notify.
    Some (record { group = group; prefix = prefix; model = model; level = level; exact = exact; read = read; write = write; notify = notify })))))))))

abbrev pub access_members : Members → Option WrittenAccess
access_members ms = if key_count ms == 8 then access_keys ms else None

abbrev pub access_of : Data → Option WrittenAccess
access_of d = option_and_then access_members (as_table d)

abbrev pub access_says : Data → Option WrittenAccess → Type 0
access_says d row = row ≡ access_of d

-- the value is typed as an access row
abbrev pub IsAccess : Data → Type 0
IsAccess d = IsSome (access_of d)

-- ---- families: a table of exactly the keys `view`, `subtree`, `mask` and `included`

abbrev pub family_keys : Members → Option FamilyTexts
family_keys ms =
    string_at (codes "view") ms >=> (λ view. string_at (codes "subtree") ms >=> (λ subtree. string_at (codes "mask") ms >=> (λ mask.
    bool_at (codes "included") ms >=> (λ included. Some (record { view = view; subtree = subtree; mask = mask; included = included })))))

abbrev pub family_members : Members → Option FamilyTexts
family_members ms = if key_count ms == 4 then family_keys ms else None

-- the octets that a mask's hexadecimal text is, in either case
abbrev pub mask_of : List ℕ → Option (List ℕ)
mask_of text = result_ok (decode_of text)

-- the name of at most MAX_NUMBERS sub-identifiers that a dotted text is
abbrev pub subtree_says : List ℕ → Option (List ℕ) → Type 0
subtree_says text (Some name) = IsDotted text name × (length name ≤ MAX_NUMBERS)
subtree_says text None = IsTextFault text BadText ⊎ IsTextFault text TooLong

abbrev pub parts_say : FamilyTexts → Option (List ℕ) → Option WrittenFamily → Type 0
parts_say t (Some mask) (Some row) =
    subtree_says t.subtree (Some row.subtree) × (row ≡ record { view = t.view; subtree = row.subtree; mask = mask; included = t.included })
parts_say t (Some mask) None = subtree_says t.subtree None
parts_say t None row = row ≡ None

abbrev pub texts_say : Option FamilyTexts → Option WrittenFamily → Type 0
texts_say (Some t) row = parts_say t (mask_of t.mask) row
texts_say None row = row ≡ None

abbrev pub family_says : Data → Option WrittenFamily → Type 0
family_says d row = texts_say (option_and_then family_members (as_table d)) row

-- the value is typed as a family row, whatever its mask and its subtree are
abbrev pub IsFamily : Data → Type 0
IsFamily d = IsSome (option_and_then family_members (as_table d))

-- ---- communities: a table of exactly the keys `index`, `name`, `security` and `context`

abbrev pub community_keys : Members → Option WrittenCommunity
community_keys ms =
    string_at (codes "index") ms >=> (λ index. string_at (codes "name") ms >=> (λ name. string_at (codes "security") ms >=> (λ security.
    string_at (codes "context") ms >=> (λ context. Some (record { index = index; name = name; security = security; context = context })))))

abbrev pub community_members : Members → Option WrittenCommunity
community_members ms = if key_count ms == 4 then community_keys ms else None

abbrev pub community_of : Data → Option WrittenCommunity
community_of d = option_and_then community_members (as_table d)

abbrev pub community_says : Data → Option WrittenCommunity → Type 0
community_says d row = row ≡ community_of d

-- the value is typed as a community
abbrev pub IsCommunity : Data → Type 0
IsCommunity d = IsSome (community_of d)
