-- Which key of a row of a policy is wrong.
use Rattle.std.specs.Prelude.{ℕ, ◌*◌, Bool, false, not, is_some, is_none, codes, if◌then◌else◌, List, Option, Some, None}
use Rattle.toml.specs.Data.{Members}
use Rattle.vacm_core.specs.declared.limits.TheConstants.{MAX_NAME, MAX_MASK, MAX_MODEL}
use Rattle.vacm_core.specs.Texts.{is_plain, has_length}
use Rattle.community_core.specs.declared.fault.PolicyTable.{PolicyTable}
use Rattle.community_core.specs.declared.fault.PolicyTable.TheVariants.{Groups, Access, Families, Contexts, Communities}
use Rattle.policy_text.specs.Keys.{string_at, bool_at}
use Rattle.policy_text.specs.Reading.{mask_of}
use Rattle.policy_text.specs.Stated.{subtree_of}
use Rattle.configuration.specs.Numbers.{number_at}
use Rattle.configuration.specs.declared.rows.RowKey.{RowKey}
use Rattle.configuration.specs.declared.rows.RowKey.TheVariants as key

-- the text is there, and this holds of it
abbrev pub has_text : (List ℕ → Bool) → Option (List ℕ) → Bool
has_text test None = false
has_text test (Some text) = test text

-- the key holds a string of ASCII letters, digits, `-`, `_` and `.` alone
abbrev pub is_plain_at : List ℕ → Members → Bool
is_plain_at name ms = has_text is_plain (string_at name ms)

-- the key holds a string of at least and at most so many octets
abbrev pub has_length_at : List ℕ → ℕ → ℕ → Members → Bool
has_length_at name least most ms = has_text (has_length least most) (string_at name ms)

-- the key holds the text of a mask
abbrev pub is_mask_at : List ℕ → Members → Bool
is_mask_at name ms = has_text (λ text. is_some (mask_of text)) (string_at name ms)

-- the key holds the text of a name
abbrev pub is_subtree_at : List ℕ → Members → Bool
is_subtree_at name ms = has_text (λ text. is_some (subtree_of text)) (string_at name ms)

-- ---- the first key, in the order of docs/CONFIGURATION.md, that is missing or holds what it may not
-- hold, whatever lengths its texts have

abbrev pub group_fault : Members → Option RowKey
group_fault ms =
    if is_none (number_at (codes "model") 1 MAX_MODEL ms) then Some key.Model
    else if not (is_plain_at (codes "name") ms) then Some key.Name
    else if not (is_plain_at (codes "group") ms) then Some key.Group
    else None

abbrev pub access_views_fault : Members → Option RowKey
access_views_fault ms =
    if not (is_plain_at (codes "read") ms) then Some key.Read
    else if not (is_plain_at (codes "write") ms) then Some key.Write
    else if not (is_plain_at (codes "notify") ms) then Some key.Notify
    else None

abbrev pub access_fault : Members → Option RowKey
access_fault ms =
    if not (is_plain_at (codes "group") ms) then Some key.Group
    else if not (is_plain_at (codes "prefix") ms) then Some key.Prefix
    else if is_none (number_at (codes "model") 0 MAX_MODEL ms) then Some key.Model
    else if is_none (number_at (codes "level") 1 3 ms) then Some key.Level
    else if is_none (bool_at (codes "exact") ms) then Some key.Exact
    else access_views_fault ms

abbrev pub family_fault : Members → Option RowKey
family_fault ms =
    if not (is_plain_at (codes "view") ms) then Some key.View
    else if not (is_subtree_at (codes "subtree") ms) then Some key.Subtree
    else if not (is_mask_at (codes "mask") ms) then Some key.Mask
    else if is_none (bool_at (codes "included") ms) then Some key.Included
    else None

abbrev pub community_fault : Members → Option RowKey
community_fault ms =
    if not (is_plain_at (codes "index") ms) then Some key.Index
    else if is_none (string_at (codes "name") ms) then Some key.Name
    else if not (is_plain_at (codes "security") ms) then Some key.Security
    else if not (is_plain_at (codes "context") ms) then Some key.Context
    else None

abbrev pub row_fault : PolicyTable → Members → Option RowKey
row_fault Groups ms = group_fault ms
row_fault Access ms = access_fault ms
row_fault Families ms = family_fault ms
row_fault Contexts ms = None
row_fault Communities ms = community_fault ms

-- ---- the first key whose text has a length that it may not have, or the last that may have one

abbrev pub group_length : Members → RowKey
group_length ms = if has_length_at (codes "name") 1 MAX_NAME ms then key.Group else key.Name

abbrev pub access_length : Members → RowKey
access_length ms =
    if not (has_length_at (codes "group") 1 MAX_NAME ms) then key.Group
    else if not (has_length_at (codes "prefix") 0 MAX_NAME ms) then key.Prefix
    else if not (has_length_at (codes "read") 0 MAX_NAME ms) then key.Read
    else if not (has_length_at (codes "write") 0 MAX_NAME ms) then key.Write
    else key.Notify

abbrev pub family_length : Members → RowKey
family_length ms =
    if not (has_length_at (codes "view") 1 MAX_NAME ms) then key.View
    else if not (has_length_at (codes "mask") 0 (2 * MAX_MASK) ms) then key.Mask
    else key.Subtree

abbrev pub community_length : Members → RowKey
community_length ms =
    if not (has_length_at (codes "index") 1 MAX_NAME ms) then key.Index
    else if not (has_length_at (codes "name") 1 255 ms) then key.Name
    else if not (has_length_at (codes "security") 1 MAX_NAME ms) then key.Security
    else key.Context

abbrev pub row_length : PolicyTable → Members → Option RowKey
row_length Groups ms = Some (group_length ms)
row_length Access ms = Some (access_length ms)
row_length Families ms = Some (family_length ms)
row_length Contexts ms = None
row_length Communities ms = Some (community_length ms)
