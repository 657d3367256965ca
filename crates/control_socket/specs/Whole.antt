-- When a command is whole, before its connection ends.
use Rattle.std.specs.Prelude.{ℕ, Bool, not, codes, nat_eq, if◌then◌else◌, List}
use Rattle.std.specs.List.{ends_with}
use Rattle.control_text.specs.Commands.{is_policy, is_one_line}

-- a policy is whole by its last line, `end`, and any other command by the end of its first line
abbrev pub is_whole : List ℕ → Bool
is_whole octets =
    if is_policy octets then ends_with nat_eq octets (codes "\nend\n") else not (is_one_line octets)
