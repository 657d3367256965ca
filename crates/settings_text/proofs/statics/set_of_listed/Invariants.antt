use Rattle.std.proofs.Common.{◌≡◌, ℕ, ◌+◌, ◌<◌, length, get_or, false}
use Rattle.std.specs.List.{list_any}
use Rattle.toml.specs.View.{view}
use Rattle.settings_text.specs.StaticRows.{listed_port, lists_port}
use Rattle.settings_text.proofs.statics.set_of_listed.Given as goal

abbrev pub invariant-loop-i : goal.invariant-loop-i
invariant-loop-i l = record {
  size : length l.ports ≡ 32;
  so_far : (k : ℕ) → k < l.i → get_or l.ports k false ≡ list_any (λ d. lists_port (k + 1) (listed_port l.count (view d))) l.values;
}
