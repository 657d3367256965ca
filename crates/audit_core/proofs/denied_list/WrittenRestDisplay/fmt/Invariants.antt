use Rattle.std.proofs.Common.{take}
use Rattle.std.specs.List.{flat_map}
use Rattle.std.specs.Fmt.{HasWritten, IsPlainFormatter}
use Rattle.audit_core.specs.Text.{denied_text}
use Rattle.audit_core.proofs.denied_list.WrittenRestDisplay.fmt.Given as goal

-- each denied binding so far
abbrev pub invariant-loop-denied : goal.invariant-loop-denied
invariant-loop-denied g l =
    IsPlainFormatter l.initial.f → HasWritten g.W.Write.write_str_gives l.initial.f (flat_map denied_text (take l.denied-index l.denied-items)) l.f
