use Rattle.std.proofs.Common.{◌<◌, ℕ, List, length, rules, ap, arith}
use Rattle.vacm_core.specs.Keys.{index_key, IsIndex}
use Rattle.vacm_core.specs.declared.tables.FamilyRow.{FamilyRow}
use Rattle.vacm_core.proofs.families.Families.new.Goals as goal

-- where an index has a number, there is a row
is_row : (rows : List FamilyRow) (index : List ℕ) → IsIndex index_key rows index → 0 < length index → 0 < length rows
is_row rows index is numbered = let below = is.within 0 0 numbered in omega (arith, below)

pub returns-in_err-blocks-clause-memory : goal.returns-in_err-blocks-clause-memory
returns-in_err-blocks-clause-memory c =
    let some = is_row _ _ c.in_ok-table_index.ensures.index (omega (arith, c.in_err-blocks.ensures.memory, ap length c.as_slice-5.ensures)) in
    let there : 0 < length c.args.rows = omega (arith, some, ap length c.as_slice-3.ensures) in
    search rules

pub returns-in_err-starts-clause-memory : goal.returns-in_err-starts-clause-memory
returns-in_err-starts-clause-memory c =
    let some = is_row _ _ c.in_ok-table_index.ensures.index (omega (arith, c.in_err-starts.ensures.memory, ap length c.as_slice-7.ensures)) in
    let there : 0 < length c.args.rows = omega (arith, some, ap length c.as_slice-3.ensures) in
    search rules
