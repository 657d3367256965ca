use Rattle.std.proofs.Common.{◌-◌}
use Rattle.vacm_core.proofs.families.+place_between.Given as goal

-- how many rows are left
abbrev pub decreases-place_between : goal.decreases-place_between
decreases-place_between l = l.to - l.from
