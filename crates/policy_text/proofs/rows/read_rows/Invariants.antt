use Rattle.std.proofs.Common.{◌<◌, map, take}
use Rattle.toml.specs.View.{view}
use Rattle.policy_text.specs.Reading.{AreRows, BeginsTyped}
use Rattle.policy_text.proofs.rows.read_rows.Given as goal

-- the rows that the values so far say, of which the first is typed as one
abbrev pub invariant-loop-n : goal.invariant-loop-n
invariant-loop-n g l = record {
  so_far : AreRows g.T.Read.says (take l.n (map view l.values.items)) l.rows.items;
  begun : 0 < l.n → BeginsTyped g.T.Read.typed (map view l.values.items);
}
