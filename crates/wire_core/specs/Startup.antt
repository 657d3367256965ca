-- How long an agent's tasks have to begin, and how a start's phase is numbered.
use Rattle.std.specs.Prelude.{ℕ, ◌+◌, ◌==◌, min, if◌then◌else◌}
use Rattle.wire_core.specs.declared.startup.Phase.{Phase}
use Rattle.wire_core.specs.declared.startup.Phase.TheVariants.{Waiting, Complete, Failed}

-- five seconds behind this millisecond, as far as that can be counted
abbrev pub deadline_after : ℕ → ℕ
deadline_after millis = min (millis + 5000) 18446744073709551615

abbrev pub phase_number : Phase → ℕ
phase_number Waiting = 0
phase_number Complete = 1
phase_number Failed = 2

abbrev pub phase_of : ℕ → Phase
phase_of number = if number == 0 then Waiting else if number == 1 then Complete else Failed
