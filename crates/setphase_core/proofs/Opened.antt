-- What the objects show of a bridge as it opens, and that they make a registry.
use Rattle.std.proofs.Common.{◌≡◌, ◌+◌, Bool, true, ◌&&◌, nat_le, List, [], ◌∷◌, map, length, None, refl, ap, ◌∙◌, inl, inr}
use Rattle.std.proofs.lemmas.Bool.{and_parts}
use Rattle.std.proofs.lemmas.Bool.Decides.{leb_tells}
use Rattle.oid_core.specs.Order.{is_prefix}
use Rattle.oid_core.specs.declared.limits.TheConstants.{MAX_NUMBERS}
use Rattle.vacm_core.specs.declared.tables.FamilyRow.{FamilyRow}
use Rattle.community_core.specs.Communities.{PolicyTables, with_families}
use Rattle.bridge_core.specs.Opening.{opening_bridge}
use Rattle.bridge_core.specs.Facts.{facts_of, port_facts_of}
use Rattle.setphase_core.specs.Columns.{shown_by, longest_index}
use Rattle.setphase_core.specs.Objects.{ObjectRow}
use Rattle.setphase_core.specs.Names.{bridge_rows, columns, row_of}
use Rattle.setphase_core.specs.Registry.{first_fault, IsNamed, AreNamed, instances}
use Rattle.setphase_core.specs.Opening.{opening_world, opening_instances}

pub objects_accepted : first_fault bridge_rows ≡ None
unfolding bridge_rows
objects_accepted = refl

opening_without : (policy : PolicyTables) → instances bridge_rows (opening_world (with_families policy [])) ≡ opening_instances
unfolding bridge_rows instances shown_by facts_of port_facts_of opening_bridge opening_instances
opening_without policy = refl

pub opening_is : (policy : PolicyTables) → policy.vacm.families ≡ [] → instances bridge_rows (opening_world policy) ≡ opening_instances
opening_is policy none = ap (λ (rows : List FamilyRow). instances bridge_rows (opening_world (with_families policy rows))) none ∙ opening_without policy

pub objects_count : length bridge_rows ≡ 57
unfolding bridge_rows
objects_count = refl

abbrev is_named : ObjectRow → Bool
is_named row = is_prefix (1 ∷ 3 ∷ []) row.prefix && nat_le (length row.prefix + longest_index row.column) MAX_NUMBERS

abbrev are_named : List ObjectRow → Bool
are_named [] = true
are_named (row ∷ rows) = is_named row && are_named rows

named_by : (row : ObjectRow) → is_named row ≡ true → IsNamed row
named_by row h =
    let parts = and_parts (is_prefix (1 ∷ 3 ∷ []) row.prefix) (nat_le (length row.prefix + longest_index row.column) MAX_NUMBERS) h in
    record {
      root = parts.0;
      most = elim (leb_tells (length row.prefix + longest_index row.column) MAX_NUMBERS) [
        | inl s ↦ s.1
        | inr s ↦ let fails = s.0 in let passes = parts.1 in absurd (cc)
      ];
    }

all_named : (rows : List ObjectRow) → are_named rows ≡ true → AreNamed rows
all_named [] h = tt
all_named (row ∷ rows) h =
    let parts = and_parts (is_named row) (are_named rows) h in
    (named_by row parts.0, all_named rows parts.1)

pub objects_named : AreNamed bridge_rows
unfolding bridge_rows
objects_named = all_named (map row_of columns) refl

pub opening_count : length opening_instances ≡ 75
unfolding opening_instances
opening_count = refl
