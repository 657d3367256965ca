use Rattle.std.proofs.Common.{take}
use Rattle.std.specs.List.{flat_map}
use Rattle.std.specs.Fmt.{HasWritten, IsPlainFormatter}
use Rattle.audit_core.specs.Text.{unrestored_text}
use Rattle.audit_core.proofs.unrestored.WrittenUnrestoredDisplay.fmt.Given as goal

-- each setting so far
abbrev pub invariant-loop-key : goal.invariant-loop-key
invariant-loop-key g l =
    IsPlainFormatter l.initial.f → HasWritten g.W.Write.write_str_gives l.initial.f (flat_map unrestored_text (take l.key-index l.key-items)) l.f
