use Rattle.std.proofs.Common.{◌≡◌}
use Rattle.toml.specs.View.{members_view}
use Rattle.configuration.specs.KnownKeys.{unknown_key}
use Rattle.configuration.proofs.known_keys.unknown_key.Given as goal

-- the first unknown key is the first of those that are still to come
abbrev pub invariant-loop-key : goal.invariant-loop-key
invariant-loop-key l =
    (goal.iterator-loop-key).can_next l.key-iterator × (goal.iterator-loop-key).is_finite l.key-iterator
    × (unknown_key l.part (members_view l.key-iterator) ≡ unknown_key l.part (members_view l.table.entries))
