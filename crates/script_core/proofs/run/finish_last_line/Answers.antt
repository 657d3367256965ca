use Rattle.std.proofs.Common.{◌≡◌, ◌<◌, length, [], refl, ap, arith, rules}
use Rattle.std.proofs.lemmas.Grind.{common_steps}
use Rattle.script_core.specs.Lines.{lines_of}
use Rattle.script_core.proofs.LinesLemmas.{lines_of-last}
use Rattle.script_core.proofs.RunsLemmas.{Adds-same, Adds-weaker, Says-nothing, Says-last}
use Rattle.script_core.proofs.run.finish_last_line.Goals as goal

pub returns-then-is_empty-clause-stated : goal.returns-then-is_empty-clause-stated
returns-then-is_empty-clause-stated g c =
    let none : c.args.buffers.now.line.items ≡ [] = grind (arith, common_steps) in
    Adds-same _ refl (Says-nothing _ _ _ (ap lines_of none))

pub returns-clause-stated : goal.returns-clause-stated
returns-clause-stated g c =
    let some : 0 < length c.args.buffers.now.line.items = search rules in
    Adds-weaker _ c.in_ok-finish_line.ensures.stated
    (λ s p. Says-last _ _ _ _ _ _ (lines_of-last c.args.buffers.now.line.items c.requires some) p)
