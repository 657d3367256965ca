-- The rows of the tables of RFC 3415 (section 4): the lengths and fields that a written row may
-- have, the row that it stands for, and its key.
use Rattle.std.specs.Prelude.{ℕ, ℤ, pos, negsuc, ◌+◌, ◌==◌, Bool, false, ◌&&◌, if◌then◌else◌, List, length, nat_le, nat_eq, bytes_eq}
use Rattle.std.specs.Cmp.Lexicographic.{pointwise, slice_cmp}
use Rattle.std.specs.Ordering.{nat_cmp, ordering_then}
use Rattle.std.specs.declared.cmp.Ordering.{Ordering}
use Rattle.vacm_core.specs.declared.limits.TheConstants.{MAX_NAME, MAX_MASK, MAX_FAMILY, MAX_MODEL}
use Rattle.vacm_core.specs.declared.tables.GroupRow.{GroupRow}
use Rattle.vacm_core.specs.declared.tables.AccessRow.{AccessRow}
use Rattle.vacm_core.specs.declared.tables.FamilyRow.{FamilyRow}
use Rattle.vacm_core.specs.declared.tables.Level.{Level}
use Rattle.vacm_core.specs.declared.tables.Level.TheVariants.{NoAuthNoPriv, AuthNoPriv, AuthPriv}
use Rattle.vacm_core.specs.declared.written.WrittenGroup.{WrittenGroup}
use Rattle.vacm_core.specs.declared.written.WrittenAccess.{WrittenAccess}
use Rattle.vacm_core.specs.declared.written.WrittenFamily.{WrittenFamily}
use Rattle.vacm_core.specs.Texts.{has_length, is_plain}
use Rattle.vacm_core.specs.Levels.{level_number}
use Rattle.vacm_core.specs.Rules.{Rules, rules_of}

-- a number that is not negative
abbrev pub natural : ℤ → ℕ
natural (pos n) = n
natural (negsuc n) = 0

abbrev pub is_between : ℕ → ℕ → ℤ → Bool
is_between least most (pos n) = nat_le least n && nat_le n most
is_between least most (negsuc n) = false

abbrev pub level_of : ℕ → Level
level_of n = if n == 1 then NoAuthNoPriv else (if n == 2 then AuthNoPriv else AuthPriv)

-- ---- vacmSecurityToGroupTable, under (model, security name)

abbrev pub group_lengths : WrittenGroup → Bool
group_lengths w = has_length 1 MAX_NAME w.name && has_length 1 MAX_NAME w.group

abbrev pub group_fields : WrittenGroup → Bool
group_fields w = is_between 1 MAX_MODEL w.model && is_plain w.name && is_plain w.group

abbrev pub group_row : WrittenGroup → GroupRow
group_row w = record { model = natural w.model; name = w.name; group = w.group }

abbrev pub same_group : GroupRow → GroupRow → Bool
same_group a b = (a.model == b.model) && bytes_eq a.name b.name

abbrev pub group_key_cmp : GroupRow → GroupRow → Ordering
group_key_cmp a b = ordering_then (nat_cmp a.model b.model) (slice_cmp nat_cmp a.name b.name)

-- ---- vacmAccessTable, under (group, context prefix, model, level)

abbrev pub access_lengths : WrittenAccess → Bool
access_lengths w =
    has_length 1 MAX_NAME w.group && has_length 0 MAX_NAME w.prefix && has_length 0 MAX_NAME w.read
    && has_length 0 MAX_NAME w.write && has_length 0 MAX_NAME w.notify

abbrev pub access_fields : WrittenAccess → Bool
access_fields w =
    is_between 0 MAX_MODEL w.model && is_between 1 3 w.level && is_plain w.group && is_plain w.prefix
    && is_plain w.read && is_plain w.write && is_plain w.notify

abbrev pub access_row : WrittenAccess → AccessRow
access_row w = record {
  group = w.group;
  prefix = w.prefix;
  model = natural w.model;
  level = level_of (natural w.level);
  exact = w.exact;
  read = w.read;
  write = w.write;
  notify = w.notify;
}

abbrev pub same_access : AccessRow → AccessRow → Bool
same_access a b =
    bytes_eq a.group b.group && bytes_eq a.prefix b.prefix && (a.model == b.model)
    && (level_number a.level == level_number b.level)

abbrev pub access_key_cmp : AccessRow → AccessRow → Ordering
access_key_cmp a b =
    let group = slice_cmp nat_cmp a.group b.group in
    let prefix = slice_cmp nat_cmp a.prefix b.prefix in
    let model = nat_cmp a.model b.model in
    let level = nat_cmp (level_number a.level) (level_number b.level) in
    ordering_then (ordering_then (ordering_then group prefix) model) level

-- ---- vacmViewTreeFamilyTable, under (view, subtree)

abbrev pub family_lengths : WrittenFamily → Bool
family_lengths w =
    has_length 1 MAX_NAME w.view && nat_le (length w.mask) MAX_MASK
    && nat_le (length w.view + length w.subtree) MAX_FAMILY

abbrev pub family_fields : WrittenFamily → Bool
family_fields w = is_plain w.view

abbrev pub family_row : WrittenFamily → FamilyRow
family_row w = record { view = w.view; subtree = w.subtree; mask = w.mask; included = w.included }

abbrev pub same_family : FamilyRow → FamilyRow → Bool
same_family a b = bytes_eq a.view b.view && pointwise nat_eq a.subtree b.subtree

-- in the order of the tree: how many octets the view has, those, and the subtree
abbrev pub family_key_cmp : FamilyRow → FamilyRow → Ordering
family_key_cmp a b =
    let long = nat_cmp (length a.view) (length b.view) in
    let view = slice_cmp nat_cmp a.view b.view in
    let subtree = slice_cmp nat_cmp a.subtree b.subtree in
    ordering_then (ordering_then long view) subtree

-- ---- vacmContextTable; contexts may be equal

abbrev pub context_lengths : List ℕ → Bool
context_lengths w = has_length 0 MAX_NAME w

-- ---- the rules of each table

abbrev pub group_rules : Rules WrittenGroup GroupRow
group_rules = rules_of group_lengths group_fields group_row same_group

abbrev pub access_rules : Rules WrittenAccess AccessRow
access_rules = rules_of access_lengths access_fields access_row same_access

abbrev pub family_rules : Rules WrittenFamily FamilyRow
family_rules = rules_of family_lengths family_fields family_row same_family

abbrev pub context_rules : Rules (List ℕ) (List ℕ)
context_rules = rules_of context_lengths is_plain (λ w. w) (λ a b. false)
