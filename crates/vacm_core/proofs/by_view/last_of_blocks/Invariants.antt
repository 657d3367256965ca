use Rattle.std.proofs.Common.{◌-◌, ◌*◌, take, drop}
use Rattle.vacm_core.specs.OfView.{HaveNot}
use Rattle.vacm_core.proofs.by_view.last_of_blocks.Given as goal

-- no row of the blocks behind is of the view and has the name
abbrev pub invariant-loop-block : goal.invariant-loop-block
invariant-loop-block l = HaveNot l.rows l.view l.name (take (l.end - l.first) (drop l.first l.index)) (l.block * 64 - l.first)
