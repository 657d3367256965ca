use Rattle.std.proofs.Common.{take}
use Rattle.std.specs.List.{flat_map}
use Rattle.std.specs.Fmt.{HasWritten, IsPlainFormatter}
use Rattle.audit_core.specs.Text.{denied_text}
use Rattle.audit_core.specs.Marks.{marked}
use Rattle.audit_core.proofs.marks.MarksDisplay.fmt.Given as goal

-- each mark so far
abbrev pub invariant-loop-mark : goal.invariant-loop-mark
invariant-loop-mark g l =
    IsPlainFormatter l.initial.f → HasWritten g.W.Write.write_str_gives l.initial.f (flat_map denied_text (marked l.self-inside.keys.items (take l.mark-index l.mark-items))) l.f
