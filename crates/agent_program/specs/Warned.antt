-- What is written of the warnings of a configuration.
use Rattle.std.specs.Prelude.{ℕ, codes, List, ◌++◌, flat_map}
use Rattle.configuration.specs.declared.warning.Warning.{Warning}
use Rattle.configuration.specs.WarningSentences.{warning_sentence}

-- a warning as a line
abbrev pub warning_line : Warning → List ℕ
warning_line warning = codes "warning: " ++ (warning_sentence warning ++ codes "\n")

-- a line, and behind it the warnings
abbrev pub warned_text : List ℕ → List Warning → List ℕ
warned_text line warnings = line ++ flat_map warning_line warnings
