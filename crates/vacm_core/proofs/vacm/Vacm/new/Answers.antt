use Rattle.std.proofs.Common.{List, sym, subst, ◌∙◌}
use Rattle.vacm_core.specs.declared.tables.AccessRow.{AccessRow}
use Rattle.vacm_core.specs.declared.tables.GroupRow.{GroupRow}
use Rattle.vacm_core.specs.Keys.{IsIndex, group_key, access_key}
use Rattle.vacm_core.specs.Rows.{family_rules, same_family}
use Rattle.vacm_core.specs.Tables.{KeysDiffer}
use Rattle.vacm_core.proofs.Sound.{keys_differ, sound}
use Rattle.std.proofs.lemmas.Result.{err_from_is_err_and}
use Rattle.vacm_core.specs.declared.fault.VacmTable.TheVariants.{Groups, Access, Families, Contexts}
use Rattle.vacm_core.proofs.Right.{first_fault, group_memory, access_memory, tree_memory}
use Rattle.vacm_core.proofs.vacm.Vacm.new.Goals as goal

pub new-requires : goal.new-requires
new-requires c =
    subst (KeysDiffer same_family) (sym c.in_ok-families.ensures.rows) (keys_differ family_rules c.args.rows.families c.in_ok-families.ensures.right)

pub returns-in_err-families-2-clause-memory : goal.returns-in_err-families-2-clause-memory
returns-in_err-families-2-clause-memory c =
    tree_memory c.args.rows _ c.in_ok-families.families c.in_ok-groups.ensures.right c.in_ok-access.ensures.right c.in_ok-families.ensures.right c.in_ok-families.ensures.rows
    c.in_err-families-2.ensures.memory

pub returns-in_err-group_index-clause-memory : goal.returns-in_err-group_index-clause-memory
returns-in_err-group_index-clause-memory c =
    group_memory c.args.rows _ c.as_slice.result.now c.in_ok-groups.ensures.right (c.as_slice.ensures ∙ c.in_ok-groups.ensures.rows) c.in_err-group_index.ensures.memory

pub returns-in_err-access_index-clause-memory : goal.returns-in_err-access_index-clause-memory
returns-in_err-access_index-clause-memory c =
    access_memory c.args.rows _ c.as_slice-2.result.now c.in_ok-groups.ensures.right c.in_ok-access.ensures.right (c.as_slice-2.ensures ∙ c.in_ok-access.ensures.rows)
    c.in_err-access_index.ensures.memory

pub invariant_of-result : goal.invariant_of-result
invariant_of-result c = (
  sound c.args.rows _ c.in_ok-groups.ensures.rows c.in_ok-access.ensures.rows (c.in_ok-families-2.ensures.rows ∙ c.in_ok-families.ensures.rows) c.in_ok-contexts.ensures.rows
      c.in_ok-groups.ensures.right c.in_ok-access.ensures.right c.in_ok-families.ensures.right c.in_ok-contexts.ensures.right,
  subst (λ (rows : List GroupRow). IsIndex group_key rows c.in_ok-group_index.group_index) c.as_slice.ensures c.in_ok-group_index.ensures.index,
  subst (λ (rows : List AccessRow). IsIndex access_key rows c.in_ok-access_index.access_index) c.as_slice-2.ensures c.in_ok-access_index.ensures.index,
)

pub returns-in_err-groups-clause-fault : goal.returns-in_err-groups-clause-fault
returns-in_err-groups-clause-fault c =
    let p = err_from_is_err_and c.from_residual.result c.from_residual.ensures.1 in
    rw (p.1, p.2) (λ other. let f = c.in_err-groups.ensures.fault other in first_fault c.args.rows Groups _ f.place f.wrong f.is tt f.first)

pub returns-in_err-groups-clause-memory : goal.returns-in_err-groups-clause-memory
returns-in_err-groups-clause-memory c =
    let p = err_from_is_err_and c.from_residual.result c.from_residual.ensures.1 in
    rw (p.1, p.2) (λ lacking. record { table = Groups; before = tt; begins = c.in_err-groups.ensures.memory lacking })

pub returns-in_err-access-clause-fault : goal.returns-in_err-access-clause-fault
returns-in_err-access-clause-fault c =
    let p = err_from_is_err_and c.from_residual-in_err-access.result c.from_residual-in_err-access.ensures.1 in
    rw (p.1, p.2) (λ other. let f = c.in_err-access.ensures.fault other in first_fault c.args.rows Access _ f.place f.wrong f.is c.in_ok-groups.ensures.right f.first)

pub returns-in_err-access-clause-memory : goal.returns-in_err-access-clause-memory
returns-in_err-access-clause-memory c =
    let p = err_from_is_err_and c.from_residual-in_err-access.result c.from_residual-in_err-access.ensures.1 in
    rw (p.1, p.2) (λ lacking. record { table = Access; before = c.in_ok-groups.ensures.right; begins = c.in_err-access.ensures.memory lacking })

pub returns-in_err-families-clause-fault : goal.returns-in_err-families-clause-fault
returns-in_err-families-clause-fault c =
    let p = err_from_is_err_and c.from_residual-in_err-families.result c.from_residual-in_err-families.ensures.1 in
    rw (p.1, p.2) (λ other. let f = c.in_err-families.ensures.fault other in first_fault c.args.rows Families _ f.place f.wrong f.is (c.in_ok-groups.ensures.right, c.in_ok-access.ensures.right) f.first)

pub returns-in_err-families-clause-memory : goal.returns-in_err-families-clause-memory
returns-in_err-families-clause-memory c =
    let p = err_from_is_err_and c.from_residual-in_err-families.result c.from_residual-in_err-families.ensures.1 in
    rw (p.1, p.2) (λ lacking. record { table = Families; before = (c.in_ok-groups.ensures.right, c.in_ok-access.ensures.right); begins = c.in_err-families.ensures.memory lacking })

pub returns-in_err-contexts-clause-fault : goal.returns-in_err-contexts-clause-fault
returns-in_err-contexts-clause-fault c =
    let p = err_from_is_err_and c.from_residual-in_err-contexts.result c.from_residual-in_err-contexts.ensures.1 in
    rw (p.1, p.2) (λ other. let f = c.in_err-contexts.ensures.fault other in first_fault c.args.rows Contexts _ f.place f.wrong f.is (c.in_ok-groups.ensures.right, c.in_ok-access.ensures.right, c.in_ok-families.ensures.right) f.first)

pub returns-in_err-contexts-clause-memory : goal.returns-in_err-contexts-clause-memory
returns-in_err-contexts-clause-memory c =
    let p = err_from_is_err_and c.from_residual-in_err-contexts.result c.from_residual-in_err-contexts.ensures.1 in
    rw (p.1, p.2) (λ lacking. record { table = Contexts; before = (c.in_ok-groups.ensures.right, c.in_ok-access.ensures.right, c.in_ok-families.ensures.right); begins = c.in_err-contexts.ensures.memory lacking })
