use Rattle.std.proofs.Common.{◌≡◌, map}
use Rattle.std.specs.Prelude.{filter}
use Rattle.std.specs.List.{range_with_len}
use Rattle.fdb_core.specs.PortSets.{has_port}
use Rattle.toml.specs.View.{view}
use Rattle.settings_text.specs.Writing.{number}
use Rattle.settings_text.proofs.writing.ports_value.Given as goal

-- the numbers of the ports so far
abbrev pub invariant-loop-i : goal.invariant-loop-i
invariant-loop-i l = map view l.values.items ≡ map number (filter (has_port l.set) (range_with_len 1 l.i))
