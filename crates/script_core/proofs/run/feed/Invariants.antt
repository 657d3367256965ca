use Rattle.std.proofs.Common.{ℕ, List, ◌++◌, length}
use Rattle.script_core.specs.Lines.{HasNoEnd}
use Rattle.script_core.specs.Runs.{Adds, Feeds}
use Rattle.script_core.proofs.run.feed.Given as goal

-- the octets so far are answered, but for the line that has no end yet
abbrev pub invariant-loop-part : goal.invariant-loop-part
invariant-loop-part g l = record {
  part : HasNoEnd l.buffers.line.items;
  feeds : (rest : List ℕ) → Adds l.fn.buffers.out.items l.buffers.out.items (λ stated.
      Feeds g.S.Session.line_says l.fn.session (l.fn.buffers.line.items ++ (l.chunk ++ rest))
      l.session (l.buffers.line.items ++ (l.left ++ rest)) stated);
}

abbrev pub decreases-loop-part : goal.decreases-loop-part
decreases-loop-part g l = length l.left
