-- The policy that a TOML table says, as a function: each value read as its row, and nothing wrong
-- with any row.
use Rattle.std.specs.Prelude.{ℕ, ◌&&◌, Bool, nat_le, is_none, length, if◌then◌else◌, List, Option, Some, None}
use Rattle.std.specs.List.{list_all, range_with_len}
use Rattle.oid_core.specs.declared.limits.TheConstants.{MAX_NUMBERS}
use Rattle.oid_core.specs.TextValue.{name_of_text, all_of}
use Rattle.toml.specs.Data.{Data, Members, as_table, as_str}
use Rattle.vacm_core.specs.declared.written.WrittenFamily.{WrittenFamily}
use Rattle.vacm_core.specs.Rules.{Rules, wrong_at}
use Rattle.vacm_core.specs.Rows.{group_rules, access_rules, family_rules, context_rules}
use Rattle.community_core.specs.declared.policy.PolicyRows.{PolicyRows}
use Rattle.policy_text.specs.declared.rows.FamilyTexts.{FamilyTexts}
use Rattle.community_core.specs.Communities.{PolicyTables, community_rules}
use Rattle.policy_text.specs.Reading.{◌>=>◌, group_of, access_of, community_of, family_members, mask_of}
use Rattle.policy_text.specs.Policies.{Arrays, arrays_of, policy_tables}

-- the name of at most MAX_NUMBERS sub-identifiers that a dotted text is
abbrev pub subtree_of : List ℕ → Option (List ℕ)
subtree_of text =
    name_of_text text >=> (λ name. if nat_le (length name) MAX_NUMBERS then Some name else None)

abbrev pub family_with : FamilyTexts → List ℕ → Option WrittenFamily
family_with t mask =
    subtree_of t.subtree >=> (λ subtree. Some (record { view = t.view; subtree = subtree; mask = mask; included = t.included }))

abbrev pub family_of_texts : FamilyTexts → Option WrittenFamily
family_of_texts t = mask_of t.mask >=> family_with t

abbrev pub family_of : Data → Option WrittenFamily
family_of d = as_table d >=> family_members >=> family_of_texts

-- the rows of the arrays, where each value says one
abbrev pub rows_of : Arrays → Option PolicyRows
rows_of a =
    all_of group_of a.groups >=> (λ groups. all_of access_of a.access >=> (λ access. all_of family_of a.families >=> (λ families.
    all_of as_str a.contexts >=> (λ contexts. all_of community_of a.communities >=> (λ communities.
    Some (record {
      communities = communities;
      vacm = record { groups = groups; access = access; families = families; contexts = contexts };
    }))))))

-- nothing is wrong at any place of a table
abbrev pub is_right : {W R : Type 0} → Rules W R → List W → Bool
is_right rules rows =
    list_all (λ n. is_none (wrong_at rules rows n)) (range_with_len 0 (length rows))

abbrev pub are_rows_right : PolicyRows → Bool
are_rows_right rows =
    is_right group_rules rows.vacm.groups && is_right access_rules rows.vacm.access && is_right family_rules rows.vacm.families
    && is_right context_rules rows.vacm.contexts && is_right community_rules rows.communities

abbrev pub if_right : PolicyRows → Option PolicyTables
if_right rows = if are_rows_right rows then Some (policy_tables rows) else None

unfoldable pub policy_of_members : Members → Option PolicyTables
policy_of_members ms = arrays_of ms >=> rows_of >=> if_right
