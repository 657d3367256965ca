use Rattle.std.proofs.Common.{take}
use Rattle.std.specs.List.{flat_map}
use Rattle.std.specs.Fmt.{HasWritten, IsPlainFormatter}
use Rattle.oid_core.proofs.Texts.{pointed}
use Rattle.oid_core.proofs.oid.OidDisplay.fmt.Given as goal

-- each number so far, behind a dot
abbrev pub invariant-loop-number : goal.invariant-loop-number
invariant-loop-number g l =
    IsPlainFormatter l.initial.f → HasWritten g.W.Write.write_str_gives l.initial.f (flat_map pointed (take l.number-index l.others)) l.f
