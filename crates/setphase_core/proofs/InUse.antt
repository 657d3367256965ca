-- What the objects show of a bridge in use.
use Rattle.std.proofs.Common.{◌≡◌, List, length, refl, ap, ◌∙◌}
use Rattle.vacm_core.specs.declared.tables.FamilyRow.{FamilyRow}
use Rattle.community_core.specs.Communities.{PolicyTables, with_families}
use Rattle.bridge_core.specs.Facts.{facts_of, port_facts_of}
use Rattle.setphase_core.specs.Columns.{shown_by}
use Rattle.setphase_core.specs.Names.{bridge_rows}
use Rattle.setphase_core.specs.Registry.{instances}
use Rattle.setphase_core.specs.InUse.{bridge_in_use, families_in_use, world_in_use, instances_in_use}

in_use_with : (policy : PolicyTables) → instances bridge_rows (world_in_use (with_families policy families_in_use)) ≡ instances_in_use
unfolding bridge_rows instances shown_by facts_of port_facts_of bridge_in_use instances_in_use
in_use_with policy = refl

pub in_use_is : (policy : PolicyTables) → policy.vacm.families ≡ families_in_use → instances bridge_rows (world_in_use policy) ≡ instances_in_use
in_use_is policy are = ap (λ (rows : List FamilyRow). instances bridge_rows (world_in_use (with_families policy rows))) are ∙ in_use_with policy

pub in_use_count : length instances_in_use ≡ 149
unfolding instances_in_use
in_use_count = refl
