-- Communities (RFC 3584, section 5): the rules of their rows, and whom a community name stands for.
use Rattle.std.specs.Prelude.{ℕ, Bool, ◌&&◌, List, slice_get, bytes_eq, Option, Some, None}
use Rattle.std.specs.Cmp.Lexicographic.{slice_cmp}
use Rattle.std.specs.Ordering.{nat_cmp, is_lt}
use Rattle.std.specs.declared.cmp.Ordering.{Ordering}
use Rattle.vacm_core.specs.declared.limits.TheConstants.{MAX_NAME}
use Rattle.vacm_core.specs.declared.tables.FamilyRow.{FamilyRow}
use Rattle.vacm_core.specs.Best.{unbeaten}
use Rattle.vacm_core.specs.Rules.{Rules, rules_of}
use Rattle.vacm_core.specs.Tables.{Tables, KeysDiffer, AreWellFormed}
use Rattle.vacm_core.specs.Texts.{has_length, is_plain}
use Rattle.community_core.specs.declared.community.Caller.{Caller}
use Rattle.community_core.specs.declared.community.CommunityRow.{CommunityRow}
use Rattle.community_core.specs.declared.community.TheConstants.{MAX_COMMUNITY_NAME}
use Rattle.community_core.specs.declared.community.WrittenCommunity.{WrittenCommunity}

abbrev pub community_lengths : WrittenCommunity → Bool
community_lengths w =
    has_length 1 MAX_NAME w.index && has_length 1 MAX_COMMUNITY_NAME w.name && has_length 1 MAX_NAME w.security
    && has_length 0 MAX_NAME w.context

abbrev pub community_fields : WrittenCommunity → Bool
community_fields w = is_plain w.index && is_plain w.security && is_plain w.context

abbrev pub community_row : WrittenCommunity → CommunityRow
community_row w =
    record { index = w.index; name = w.name; security = w.security; context = w.context }

abbrev pub same_index : CommunityRow → CommunityRow → Bool
same_index a b = bytes_eq a.index b.index

-- by the octets of the indexes, a proper prefix first
abbrev pub index_cmp : CommunityRow → CommunityRow → Ordering
index_cmp a b = slice_cmp nat_cmp a.index b.index

abbrev pub community_rules : Rules WrittenCommunity CommunityRow
community_rules = rules_of community_lengths community_fields community_row same_index

-- a kept row as it is written
abbrev pub written_community : CommunityRow → WrittenCommunity
written_community row =
    record { index = row.index; name = row.name; security = row.security; context = row.context }

-- what holds of the communities that are kept: no two have one index, and each row is well formed
pub record AreSound (rows : List CommunityRow) : Type 0 where
  pub indexes : KeysDiffer same_index rows
  pub well_formed : AreWellFormed community_rules written_community rows

-- a policy as it is kept: the communities and the tables of access control
pub record PolicyTables : Type 0 where
  pub communities : List CommunityRow
  pub vacm : Tables

-- the policy with these families
abbrev pub with_families : PolicyTables → List FamilyRow → PolicyTables
with_families p rows = record p { vacm = record (p.vacm) { families = rows } }

abbrev pub has_name : List ℕ → CommunityRow → Bool
has_name name row = bytes_eq row.name name

abbrev pub index_before : CommunityRow → CommunityRow → Bool
index_before a b = is_lt (index_cmp a b)

-- the place of the row of the name before which no other of the name comes
abbrev pub deciding_community : List CommunityRow → List ℕ → Option ℕ
deciding_community rows name = unbeaten (has_name name) index_before rows

abbrev pub caller_of_row : Option CommunityRow → Option Caller
caller_of_row (Some row) = Some (record { security = row.security; context = row.context })
caller_of_row None = None

abbrev pub caller_at : List CommunityRow → Option ℕ → Option Caller
caller_at rows (Some n) = caller_of_row (slice_get rows n)
caller_at rows None = None

-- whom a community name stands for: the row of that name that comes first by index
abbrev pub caller_of : List CommunityRow → List ℕ → Option Caller
caller_of rows name = caller_at rows (deciding_community rows name)
