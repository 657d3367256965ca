-- Numbers in a configuration.
use Rattle.std.specs.Prelude.{ℕ, ℤ, pos, negsuc, ◌&&◌, nat_le, if◌then◌else◌, List, Option, Some, None}
use Rattle.toml.specs.Data.{Members}
use Rattle.policy_text.specs.Keys.{integer_at}
use Rattle.policy_text.specs.Reading.{◌>=>◌}

-- the number, if it is at least and at most these
abbrev pub number_between : ℕ → ℕ → ℤ → Option ℕ
number_between least most (pos n) = if nat_le least n && nat_le n most then Some n else None
number_between least most (negsuc n) = None

-- the number at a key, if the key holds one that is at least and at most these
abbrev pub number_at : List ℕ → ℕ → ℕ → Members → Option ℕ
number_at key least most ms = integer_at key ms >=> number_between least most
