-- Tables of TOML by their members.
use Rattle.std.specs.Prelude.{ℕ, List, [], ◌∷◌, Option, Some, None}
use Rattle.std.specs.Cmp.Lexicographic.{slice_cmp}
use Rattle.std.specs.Ordering.{nat_cmp, match_ordering}
use Rattle.toml.specs.Data.{Data, Members, no_members, member}

-- the members by rising key, with this value at a key
abbrev pub with_member : List ℕ → Data → Members → Members
with_member key d no_members = member key d no_members
with_member key d (member other e ms) =
    match_ordering (slice_cmp nat_cmp key other)
    (member key d (member other e ms)) (member other d ms) (member other e (with_member key d ms))

-- the same, where there is a value for the key
abbrev pub with_optional : List ℕ → Option Data → Members → Members
with_optional key None ms = ms
with_optional key (Some d) ms = with_member key d ms

-- the members with these values at these keys, but for those that have none
abbrev pub with_entries : List (List ℕ × Option Data) → Members → Members
with_entries [] ms = ms
with_entries (entry ∷ entries) ms = with_optional entry.0 entry.1 (with_entries entries ms)

abbrev pub members_from : List (List ℕ × Option Data) → Members
members_from entries = with_entries entries no_members
