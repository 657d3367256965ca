use Rattle.std.proofs.Common.{subst, arith, take, drop, suc}
use Rattle.std.specs.Prelude.{All}
use Rattle.std.proofs.lemmas.List.{take_all}
use Rattle.live_agent.proofs.Running.{All-snoc}
use Rattle.live_run.specs.Reports.{RisesIn}
use Rattle.live_run.proofs.Gathering.{one_more, cut_at}
use Rattle.live_run.proofs.counting.first_fall.Goals as goal

pub returns-in-Some : goal.returns-in-Some
returns-in-Some c =
    let rs = c.args.runs.now in
    let i = c.loop-ran.ran-index in
    let r = c.ran-item.result in
    record {
      ahead = take i rs;
      ran = r;
      behind = drop (suc i) rs;
      parts = cut_at rs i r (omega arith) c.ran-item.is;
      rise = c.loop-ran.invariant;
      falls = (rw c.as_slice.ensures at c.in-Some.ensures);
    }

pub loop-ran-preserved : goal.loop-ran-preserved
loop-ran-preserved c =
    let rs = c.args.runs.now in
    let i = c.loop-ran.ran-index in
    let r = c.ran-item.result in
    rw (one_more rs i r (omega arith) c.ran-item.is) (All-snoc RisesIn (take i rs) r c.loop-ran.invariant (rw c.as_slice.ensures at c.in_default.ensures))

pub returns : goal.returns
returns c = subst (All RisesIn) (take_all c.loop-ran.ran-index c.args.runs.now (omega arith)) c.loop-ran.invariant
