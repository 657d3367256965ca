use Rattle.std.proofs.Common.{◌≡◌}
use Rattle.toml.specs.View.{members_view}
use Rattle.settings_text.specs.KnownKeys.{are_keys}
use Rattle.settings_text.specs.Parts.{is_key_of}
use Rattle.settings_text.proofs.known_keys.are_keys.Given as goal

-- the keys that are still to come are known where all are
abbrev pub invariant-loop-key : goal.invariant-loop-key
invariant-loop-key l =
    (goal.iterator-loop-key).can_next l.key-iterator × (goal.iterator-loop-key).is_finite l.key-iterator
    × (are_keys (is_key_of l.part) (members_view l.key-iterator) ≡ are_keys (is_key_of l.part) (members_view l.table.entries))
