-- The first fault of the tables of access control, as that of a policy.
use Rattle.std.proofs.Common.{◌≢◌, refl}
use Rattle.vacm_core.specs.declared.fault.TableFault.{TableFault}
use Rattle.vacm_core.specs.declared.fault.TableFault.TheVariants as table
use Rattle.vacm_core.specs.declared.fault.VacmTable.{VacmTable}
use Rattle.vacm_core.specs.declared.written.VacmRows.{VacmRows}
use Rattle.vacm_core.specs.Faults.{IsFault}
use Rattle.community_core.specs.declared.fault.PolicyFault.TheVariants.{Memory}
use Rattle.community_core.specs.Faults.{of_vacm, IsVacmFault}

pub vacm_fault : (rows : VacmRows) (fault : TableFault VacmTable) → (fault ≢ table.Memory → IsFault rows fault) → of_vacm fault ≢ Memory → IsVacmFault rows (of_vacm fault)
vacm_fault rows table.Memory is other = absurd (other refl)
vacm_fault rows (table.Row t n wrong) is other =
    let first = is (λ e. cc) in
    record { table = t; place = n; wrong = wrong; is = refl; before = first.0; first = first.1 }
