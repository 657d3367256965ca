-- Why a policy is refused: the first row at fault of the tables of access control, or of the
-- communities behind them.
use Rattle.std.specs.Prelude.{◌≡◌, ℕ, codes, List}
use Rattle.vacm_core.specs.declared.fault.TableFault.{TableFault}
use Rattle.vacm_core.specs.declared.fault.TableFault.TheVariants as table
use Rattle.vacm_core.specs.declared.fault.VacmTable.{VacmTable}
use Rattle.vacm_core.specs.declared.fault.VacmTable.TheVariants as vacm
use Rattle.vacm_core.specs.declared.fault.Wrong.{Wrong}
use Rattle.vacm_core.specs.declared.fault.Wrong.TheVariants.{Length, Field, Duplicate}
use Rattle.vacm_core.specs.declared.written.VacmRows.{VacmRows}
use Rattle.vacm_core.specs.Rules.{IsFirstWrong}
use Rattle.vacm_core.specs.Faults.{AreRightBefore, IsFirstIn}
use Rattle.community_core.specs.declared.community.WrittenCommunity.{WrittenCommunity}
use Rattle.community_core.specs.declared.fault.PolicyFault.{PolicyFault}
use Rattle.community_core.specs.declared.fault.PolicyFault.TheVariants.{Memory, Duplicate as SameKey, BadLength, BadField}
use Rattle.community_core.specs.declared.fault.PolicyTable.{PolicyTable}
use Rattle.community_core.specs.declared.fault.PolicyTable.TheVariants.{Groups, Access, Families, Contexts, Communities}
use Rattle.community_core.specs.Communities.{community_rules}

-- a table by its rows
abbrev pub table_text : PolicyTable → List ℕ
table_text Groups = codes "groups"
table_text Access = codes "access"
table_text Families = codes "families"
table_text Contexts = codes "contexts"
table_text Communities = codes "communities"

abbrev pub fault_of : Wrong → PolicyTable → ℕ → PolicyFault
fault_of Length table row = BadLength table row
fault_of Field table row = BadField table row
fault_of Duplicate table row = SameKey table row

-- a table of access control among those of a policy
abbrev pub policy_table : VacmTable → PolicyTable
policy_table vacm.Groups = Groups
policy_table vacm.Access = Access
policy_table vacm.Families = Families
policy_table vacm.Contexts = Contexts

abbrev pub of_vacm : TableFault VacmTable → PolicyFault
of_vacm table.Memory = Memory
of_vacm (table.Row t row wrong) = fault_of wrong (policy_table t) row

abbrev pub of_policy : TableFault PolicyTable → PolicyFault
of_policy table.Memory = Memory
of_policy (table.Row t row wrong) = fault_of wrong t row

-- this fault names the first row at fault of the tables of access control
pub record IsVacmFault (rows : VacmRows) (fault : PolicyFault) : Type 0 where
  pub table : VacmTable
  pub place : ℕ
  pub wrong : Wrong
  pub is : fault ≡ fault_of wrong (policy_table table) place
  pub before : AreRightBefore table rows
  pub first : IsFirstIn table rows place wrong

-- this fault names the first community at fault
pub record IsCommunityFault (rows : List WrittenCommunity) (fault : PolicyFault) : Type 0 where
  pub place : ℕ
  pub wrong : Wrong
  pub is : fault ≡ fault_of wrong Communities place
  pub first : IsFirstWrong community_rules rows place wrong
