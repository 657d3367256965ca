-- The first fault of the tables: groups, access, families, contexts, and in each its first row at
-- fault.
use Rattle.std.specs.Prelude.{ℕ}
use Rattle.vacm_core.specs.declared.fault.TableFault.{TableFault}
use Rattle.vacm_core.specs.declared.fault.TableFault.TheVariants.{Memory, Row}
use Rattle.vacm_core.specs.declared.fault.VacmTable.{VacmTable}
use Rattle.vacm_core.specs.declared.fault.VacmTable.TheVariants.{Groups, Access, Families, Contexts}
use Rattle.vacm_core.specs.declared.fault.Wrong.{Wrong}
use Rattle.vacm_core.specs.declared.written.VacmRows.{VacmRows}
use Rattle.vacm_core.specs.Rules.{IsFirstWrong, AreRight, BeginsRight}
use Rattle.vacm_core.specs.Rows.{group_rules, access_rules, family_rules, context_rules}

-- nothing is wrong with the rows of the tables before this one
abbrev pub AreRightBefore : VacmTable → VacmRows → Type 0
AreRightBefore Groups rows = Unit {0}
AreRightBefore Access rows = AreRight group_rules rows.groups
AreRightBefore Families rows = AreRight group_rules rows.groups × AreRight access_rules rows.access
AreRightBefore Contexts rows = AreRight group_rules rows.groups × AreRight access_rules rows.access × AreRight family_rules rows.families

-- nothing is wrong with any row
abbrev pub AreAllRight : VacmRows → Type 0
AreAllRight rows =
    AreRight group_rules rows.groups × AreRight access_rules rows.access × AreRight family_rules rows.families
    × AreRight context_rules rows.contexts

-- this is the first row of its table at fault
abbrev pub IsFirstIn : VacmTable → VacmRows → ℕ → Wrong → Type 0
IsFirstIn Groups rows n wrong = IsFirstWrong group_rules rows.groups n wrong
IsFirstIn Access rows n wrong = IsFirstWrong access_rules rows.access n wrong
IsFirstIn Families rows n wrong = IsFirstWrong family_rules rows.families n wrong
IsFirstIn Contexts rows n wrong = IsFirstWrong context_rules rows.contexts n wrong

-- this is the first fault of the tables
abbrev pub IsFault : VacmRows → TableFault VacmTable → Type 0
IsFault rows Memory = ⊥
IsFault rows (Row table n wrong) = AreRightBefore table rows × IsFirstIn table rows n wrong

-- the table has a first row, and nothing is wrong with it
abbrev pub BeginsRightIn : VacmTable → VacmRows → Type 0
BeginsRightIn Groups rows = BeginsRight group_rules rows.groups
BeginsRightIn Access rows = BeginsRight access_rules rows.access
BeginsRightIn Families rows = BeginsRight family_rules rows.families
BeginsRightIn Contexts rows = BeginsRight context_rules rows.contexts

-- Where checking the tables takes memory: nothing is wrong with the tables before some table, and
-- that has a first row, with which nothing is wrong.
pub record TakesMemory (rows : VacmRows) : Type 0 where
  pub table : VacmTable
  pub before : AreRightBefore table rows
  pub begins : BeginsRightIn table rows
