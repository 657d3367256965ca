use Rattle.std.proofs.Common.{◌≡◌, ◌+◌, length, map}
use Rattle.std.specs.List.{range_with_len}
use Rattle.settings_text.specs.PortRows.{values_of}
use Rattle.settings_text.proofs.ports.ports_of.Given as goal

-- the settings of the ports so far
abbrev pub invariant-loop-n : goal.invariant-loop-n
invariant-loop-n l = record {
  so_far : l.ports.items ≡ map (λ k. values_of l.rows (k + 1)) (range_with_len 0 l.n);
  few : length l.ports.items ≡ l.n;
}
