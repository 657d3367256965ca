-- Tables that have no other keys than these.
use Rattle.std.specs.Prelude.{ℕ, ◌&&◌, Bool, true, List}
use Rattle.toml.specs.Data.{Members, no_members, member}

abbrev pub are_keys : (List ℕ → Bool) → Members → Bool
are_keys test no_members = true
are_keys test (member key d ms) = test key && are_keys test ms
