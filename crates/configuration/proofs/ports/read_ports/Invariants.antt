use Rattle.std.proofs.Common.{◌≡◌, length, map, take}
use Rattle.toml.specs.View.{view}
use Rattle.policy_text.specs.Reading.{AreRows}
use Rattle.configuration.specs.Ports.{port_says}
use Rattle.configuration.proofs.ports.read_ports.Given as goal

-- the ports that the values so far say, one for each
abbrev pub invariant-loop-n : goal.invariant-loop-n
invariant-loop-n l = record {
  stated : AreRows port_says (take l.n (map view l.rows.items)) l.ports.items;
  count : length l.ports.items ≡ l.n;
}
