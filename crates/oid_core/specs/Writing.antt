-- What stays while a name is written.
use Rattle.std.specs.Prelude.{◌≡◌, ℕ, List, ◌++◌}

-- what was written before is still there, behind more
pub record Extends (before after : List ℕ) : Type 0 where
  pub more : List ℕ
  pub parts : after ≡ more ++ before
