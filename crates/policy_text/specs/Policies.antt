-- What a TOML table says as a policy, and its first fault.
use Rattle.std.specs.Prelude.{◌≡◌, ◌⊎◌, ◌==◌, if◌then◌else◌, codes, List, map, Option, Some, None}
use Rattle.toml.specs.Data.{Data, Members}
use Rattle.toml.specs.View.{view}
use Rattle.community_core.specs.declared.fault.PolicyFault.{PolicyFault}
use Rattle.community_core.specs.declared.fault.PolicyFault.TheVariants.{BadField}
use Rattle.community_core.specs.declared.fault.PolicyTable.TheVariants.{Groups, Access, Families, Contexts, Communities}
use Rattle.vacm_core.specs.Rules.{AreRight, BeginsRight}
use Rattle.vacm_core.specs.Faults.{AreAllRight, TakesMemory as ChecksTakeMemory}
use Rattle.vacm_core.specs.Tables.{tables_of}
use Rattle.policy_text.specs.declared.policies.PolicyArrays.{PolicyArrays}
use Rattle.community_core.specs.declared.policy.PolicyRows.{PolicyRows}
use Rattle.community_core.specs.Communities.{PolicyTables, community_rules, community_row}
use Rattle.community_core.specs.Faults.{IsVacmFault, IsCommunityFault}
use Rattle.policy_text.specs.Keys.{key_count, array_at}
use Rattle.policy_text.specs.Reading.{AreRows, IsFirstUnread, BeginsTyped, group_says, access_says, family_says, context_says, community_says, IsGroup, IsAccess, IsFamily, IsContext, IsCommunity, ◌>=>◌}

-- the arrays of a policy
pub record Arrays : Type 0 where
  pub groups : List Data
  pub access : List Data
  pub families : List Data
  pub contexts : List Data
  pub communities : List Data

abbrev pub arrays : List Data → List Data → List Data → List Data → List Data → Arrays
arrays groups access families contexts communities =
    record { groups = groups; access = access; families = families; contexts = contexts; communities = communities }

-- the arrays of a policy as they are held
abbrev pub arrays_in : PolicyArrays → Arrays
arrays_in a =
    arrays (map view a.groups.now.items) (map view a.access.now.items) (map view a.families.now.items)
    (map view a.contexts.now.items) (map view a.communities.now.items)

abbrev pub array_keys : Members → Option Arrays
array_keys ms =
    array_at (codes "group") ms >=> (λ groups. array_at (codes "access") ms >=> (λ access. array_at (codes "family") ms >=> (λ families.
    array_at (codes "contexts") ms >=> (λ contexts. array_at (codes "community") ms >=> (λ communities.
    Some (arrays groups access families contexts communities))))))

-- a table of exactly the keys `contexts`, `community`, `group`, `access` and `family`, each an
-- array
abbrev pub arrays_of : Members → Option Arrays
arrays_of ms = if key_count ms == 5 then array_keys ms else None

-- the arrays say these rows
pub record AreRowsOf (a : Arrays) (rows : PolicyRows) : Type 0 where
  pub groups : AreRows group_says a.groups rows.vacm.groups
  pub access : AreRows access_says a.access rows.vacm.access
  pub families : AreRows family_says a.families rows.vacm.families
  pub contexts : AreRows context_says a.contexts rows.vacm.contexts
  pub communities : AreRows community_says a.communities rows.communities

-- the table says these rows
pub record SaysRows (ms : Members) (rows : PolicyRows) : Type 0 where
  pub arrays : Arrays
  pub are : arrays_of ms ≡ Some arrays
  pub say : AreRowsOf arrays rows

-- each value says some row
abbrev pub AllSay : {R : Type 0} → (Data → Option R → Type 0) → List Data → Type 0
AllSay {R} says ds = (rows : List R) × AreRows says ds rows

-- the first value of the arrays that says no row, in the order groups, access, families, contexts,
-- communities
abbrev pub IsUnreadOf : Arrays → PolicyFault → Type 0
IsUnreadOf a e =
    IsFirstUnread group_says Groups a.groups e
    ⊎ (AllSay group_says a.groups × IsFirstUnread access_says Access a.access e)
    ⊎ (AllSay group_says a.groups × AllSay access_says a.access × IsFirstUnread family_says Families a.families e)
    ⊎ (AllSay group_says a.groups × AllSay access_says a.access × AllSay family_says a.families
    × IsFirstUnread context_says Contexts a.contexts e)
    ⊎ (AllSay group_says a.groups × AllSay access_says a.access × AllSay family_says a.families
    × AllSay context_says a.contexts × IsFirstUnread community_says Communities a.communities e)

-- the first fault of the keys and values: of the table itself (contexts, 0), then of its arrays
abbrev pub IsUnread : Members → PolicyFault → Type 0
IsUnread ms e = ((arrays_of ms ≡ None) × (e ≡ BadField Contexts 0)) ⊎ ((a : Arrays) × (arrays_of ms ≡ Some a) × IsUnreadOf a e)

-- Where reading the arrays takes memory: each value of the arrays before some array says a row, and
-- that has a first value that is typed as one.
abbrev pub ReadingTakesMemoryOf : Arrays → Type 0
ReadingTakesMemoryOf a =
    BeginsTyped IsGroup a.groups
    ⊎ (AllSay group_says a.groups × BeginsTyped IsAccess a.access)
    ⊎ (AllSay group_says a.groups × AllSay access_says a.access × BeginsTyped IsFamily a.families)
    ⊎ (AllSay group_says a.groups × AllSay access_says a.access × AllSay family_says a.families × BeginsTyped IsContext a.contexts)
    ⊎ (AllSay group_says a.groups × AllSay access_says a.access × AllSay family_says a.families
    × AllSay context_says a.contexts × BeginsTyped IsCommunity a.communities)

-- Where reading the table takes memory: it has the arrays of a policy, and reading those does.
pub record ReadingTakesMemory (ms : Members) : Type 0 where
  pub arrays : Arrays
  pub are : arrays_of ms ≡ Some arrays
  pub reading : ReadingTakesMemoryOf arrays

-- Where the policy of the arrays takes memory: reading them does, or each value of each array says a
-- row: then the policy itself does.
abbrev pub TakesMemoryOf : Arrays → Type 0
TakesMemoryOf a =
    ReadingTakesMemoryOf a
    ⊎ (AllSay group_says a.groups × AllSay access_says a.access × AllSay family_says a.families
    × AllSay context_says a.contexts × AllSay community_says a.communities)

-- Where the policy of the table takes memory: it has the arrays of a policy, and the policy of those
-- does.
pub record TakesMemory (ms : Members) : Type 0 where
  pub arrays : Arrays
  pub are : arrays_of ms ≡ Some arrays
  pub reading : TakesMemoryOf arrays

-- Where making the policy of rows that were read takes memory: checking the rows of its tables does;
-- or nothing is wrong with those, and checking the communities does, or nothing is wrong with them
-- either: then the policy itself takes memory.
abbrev pub RowsTakeMemory : PolicyRows → Type 0
RowsTakeMemory rows =
    ChecksTakeMemory rows.vacm
    ⊎ (AreAllRight rows.vacm × (BeginsRight community_rules rows.communities ⊎ AreRight community_rules rows.communities))

-- the first fault of rows that were read
abbrev pub IsPolicyFault : PolicyRows → PolicyFault → Type 0
IsPolicyFault rows e =
    IsVacmFault rows.vacm e ⊎ (AreAllRight rows.vacm × IsCommunityFault rows.communities e)

-- the policy that rows stand for
abbrev pub policy_tables : PolicyRows → PolicyTables
policy_tables rows =
    record { communities = map community_row rows.communities; vacm = tables_of rows.vacm }

abbrev pub ArePolicyRowsRight : PolicyRows → Type 0
ArePolicyRowsRight rows = AreAllRight rows.vacm × AreRight community_rules rows.communities

-- the table says a policy of which nothing is wrong, and this is it
pub record IsPolicy (ms : Members) (policy : PolicyTables) : Type 0 where
  pub rows : PolicyRows
  pub stated : SaysRows ms rows
  pub right : ArePolicyRowsRight rows
  pub is : policy ≡ policy_tables rows

-- the rows that the table says have this first fault
pub record IsWrongPolicy (ms : Members) (e : PolicyFault) : Type 0 where
  pub rows : PolicyRows
  pub stated : SaysRows ms rows
  pub fault : IsPolicyFault rows e
