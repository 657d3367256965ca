use Rattle.std.proofs.Common.{sym, arith, rules}
use Rattle.live_agent.specs.Lines.{run_start_of}
use Rattle.live_run.proofs.Lining.{line_more}
use Rattle.live_run.proofs.crew.+fn-run_lines-join+arg3+run_lines.Goals as goal

pub returns : goal.returns
returns g t c =
    let gone = g.N.LineTask.gone (run_start_of g.L.Run.start c.args.plan.now) c.args.plan.now.rounds in
    let mine = c.split_off-mine.ensures in
    let one = c.join-one.ensures.first in
    let others = c.join-one.ensures.second in
    record {
      all_gone = rw (c.in-Some.ensures.items, c.push_reserved.ensures.items, c.push_reserved-2.ensures.items, sym mine.amount_left)
          (line_more gone _ _ _ _ _ _ _ _ _ _ _ _ others.all_gone one.0 (omega (arith, c.len-place.ensures, c.pop.new.self.ok)) mine.amount c.merge.ensures.amount);
      parts = omega (arith, c.merge.ensures.parts, mine.parts, mine.parts_left, one.1, others.parts);
      lens = search rules;
      spaces = search rules;
    }
