use Rattle.std.specs.Prelude.{◌≡◌, ◌++◌, take}
use Rattle.manager_core.specs.Lines.{lines_of}
use Rattle.manager_core.proofs.lines.push_lines.Given as goal

abbrev pub invariant-loop-binding : goal.invariant-loop-binding
invariant-loop-binding l =
    l.out.items ≡ l.initial.out.items ++ lines_of (take l.binding-index l.bindings)
