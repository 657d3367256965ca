-- How many lines of the log are lost with a text that is given up.
use Rattle.std.specs.Prelude.{ℕ, ◌-◌, ◌==◌, if◌then◌else◌}
use Rattle.line_output.specs.Waiting.{lost_more}

-- So many lines, of which the last one reports that so many more were lost, where there is such a
-- line: that one is none of the log's.
abbrev pub unwritten : ℕ → ℕ → ℕ
unwritten lines reported = if reported == 0 then lines else lost_more (lines - 1) reported
