-- What the tokens of a number that only rises own, and those of a log that only grows.
use Rattle.std.specs.Prelude.{ℕ, List}
use base.Stored.{Coded}
use base.Fraction.{full_share}
use base.Fml.{Fml}
use base.Growing.{numbers, prefixes, latest, at_least}

-- the right to raise the number, which stands at so much
unfoldable pub latest_owns : ℕ → ℕ → Fml
latest_owns name number = latest numbers full_share name number

-- the number has reached so much
unfoldable pub reached_owns : ℕ → ℕ → Fml
reached_owns name number = at_least numbers name number

-- the right to add to the log, which has these entries
unfoldable pub log_owns : {E : Type 0} → Coded E → ℕ → List E → Fml
log_owns c name log = latest (prefixes c) full_share name log

-- the log has begun with these entries
unfoldable pub front_owns : {E : Type 0} → Coded E → ℕ → List E → Fml
front_owns c name log = at_least (prefixes c) name log
