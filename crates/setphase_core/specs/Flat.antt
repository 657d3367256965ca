-- A world that is kept flat: the rows of its policy as they are written, the policy that such rows
-- stand for, and in what two worlds are compared.
use Rattle.std.specs.Prelude.{◌≡◌, map}
use Rattle.vacm_core.specs.Tables.{rows_of, tables_of}
use Rattle.community_core.specs.Communities.{PolicyTables, community_row, written_community}
use Rattle.community_core.specs.declared.policy.PolicyRows.{PolicyRows}
use Rattle.bridge_core.specs.Bridge.{without_places}
use Rattle.setphase_core.specs.declared.world.World.{World}

-- the policy that written rows stand for
abbrev pub policy_of_rows : PolicyRows → PolicyTables
policy_of_rows rows =
    record { communities = map community_row rows.communities; vacm = tables_of rows.vacm }

-- a policy as it is written
abbrev pub rows_of_policy : PolicyTables → PolicyRows
rows_of_policy p =
    record { communities = map written_community p.communities; vacm = rows_of p.vacm }

-- rows that are just those of the policy that they stand for, so that two of one policy are equal
abbrev pub AreRowsOfTheirPolicy : PolicyRows → Type 0
AreRowsOfTheirPolicy rows = rows_of_policy (policy_of_rows rows) ≡ rows

-- the same world, but for how many static rows there is sure to be memory
abbrev pub without_promises : World → World
without_promises w = record w { bridge = without_places w.bridge }
