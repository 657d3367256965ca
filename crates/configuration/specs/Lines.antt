-- Lines of a text, and a text that is no document.
use Rattle.std.specs.Prelude.{◌≡◌, ℕ, ◌+◌, ◌≤◌, ◌==◌, List, length, take, count_by}
use Rattle.configuration.specs.declared.fault.ConfigurationFault.{ConfigurationFault}
use Rattle.configuration.specs.declared.fault.ConfigurationFault.TheVariants.{BadText}

-- the number of the line, counted from 1, in which the octet of this index stands
abbrev pub line_at : List ℕ → ℕ → ℕ
line_at text index = 1 + count_by (λ octet. octet == 10) (take index text)

-- this is the number of a line of the text
pub record IsLineOf (text : List ℕ) (line : ℕ) : Type 0 where
  pub index : ℕ
  pub within : index ≤ length text
  pub is : line ≡ line_at text index

-- A text is refused as a whole, by one of its lines; which it is, is its reader's to say.
abbrev pub IsBadText : List ℕ → ConfigurationFault → Type 0
IsBadText text e = (line : ℕ) × (e ≡ BadText line) × IsLineOf text line
