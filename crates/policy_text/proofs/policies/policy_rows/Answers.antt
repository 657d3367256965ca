use Rattle.std.proofs.Common.{◌≡◌, Some, rules}
use Rattle.toml.specs.View.{table_view}
use Rattle.policy_text.specs.Policies.{arrays_in, arrays_of}
use Rattle.policy_text.proofs.Taking.{arrays_take}
use Rattle.policy_text.proofs.policies.policy_rows.Goals as goal

pub returns-in-Some-clause-memory : goal.returns-in-Some-clause-memory
returns-in-Some-clause-memory c =
    let ms = table_view c.args.table.now in
    let a = arrays_in c.in-Some.arrays in
    let are : arrays_of ms ≡ Some a = search rules in
    arrays_take ms a c.read_arrays.result are c.read_arrays.ensures.memory
