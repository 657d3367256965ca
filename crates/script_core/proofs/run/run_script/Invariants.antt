use Rattle.std.proofs.Common.{◌≡◌, [], ◌++◌}
use Rattle.script_core.specs.Lines.{HasNoEnd}
use Rattle.script_core.specs.Runs.{Feeds, Reads, Writes}
use Rattle.script_core.proofs.run.run_script.Given as goal

-- what was read so far is answered and written, but for the line that has no end yet
abbrev pub invariant-loop : goal.invariant-loop
invariant-loop g l = record {
  part : HasNoEnd l.buffers.line.items;
  empty : l.buffers.out.items ≡ [];
  stands : Reads (g.R.Read.remaining l.fn.reader) (g.R.Read.remaining l.reader) (λ input rest.
      Writes (g.W.Write.contents l.fn.writer) (g.W.Write.contents l.writer) (λ text.
      Feeds g.S.Session.line_says l.fn.session input l.session (l.buffers.line.items ++ rest) text));
}
