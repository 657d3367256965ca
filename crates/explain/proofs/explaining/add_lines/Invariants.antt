use Rattle.std.proofs.Common.{◌≡◌, ◌++◌, take}
use Rattle.std.specs.List.{flat_map}
use Rattle.explain.specs.Explaining.{variable_line}
use Rattle.explain.proofs.explaining.add_lines.Given as goal

-- what was there, and the lines so far
abbrev pub invariant-loop-binding : goal.invariant-loop-binding
invariant-loop-binding l =
    l.text.items ≡ l.initial.text.items ++ flat_map (variable_line l.vacm.families l.view) (take l.binding-index l.bindings)
