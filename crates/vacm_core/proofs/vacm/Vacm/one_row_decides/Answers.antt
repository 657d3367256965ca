use Rattle.std.proofs.Common.{subst}
use Rattle.vacm_core.specs.Rows.{same_access, same_family}
use Rattle.vacm_core.specs.Tables.{Tables, KeysDiffer}
use Rattle.vacm_core.specs.Families.{matches, family_beats}
use Rattle.vacm_core.specs.Access.{candidate, access_beats}
use Rattle.vacm_core.proofs.Ties.{one_only, access_ties, family_ties}
use Rattle.vacm_core.proofs.vacm.Vacm.one_row_decides.Goals as goal

pub returns-clause-access : goal.returns-clause-access
returns-clause-access c ask group n m x y =
    let differ = subst (λ (t : Tables). KeysDiffer same_access t.access) c.self.view_is c.self.invariant.0.access in
    one_only (candidate ask group) (access_beats ask) same_access c.args.self.now.access differ (access_ties ask group) n m x y

pub returns-clause-family : goal.returns-clause-family
returns-clause-family c view name n m x y =
    let differ = subst (λ (t : Tables). KeysDiffer same_family t.families) c.self.view_is c.self.invariant.0.families in
    one_only (matches view name) family_beats same_family c.args.self.now.families differ (family_ties view name) n m x y
