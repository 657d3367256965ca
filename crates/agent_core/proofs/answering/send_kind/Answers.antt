use Rattle.agent_core.proofs.Numbers.{unnamed_ahead}
use Rattle.agent_core.proofs.answering.send_kind.Goals as goal

pub returns-in-Err-Name-clause-other : goal.returns-in-Err-Name-clause-other
returns-in-Err-Name-clause-other g c =
    unnamed_ahead c.send_unnamed.result (g.S.View.shows c.args.source.now) (g.S.Successors.instances c.args.source.now) c.args.request.now c.in-Err-Name.field-0 c.in-Err-Name.number c.args.steps.now c.put_read.new.steps c.in-Err-Name.field-0-is
    c.send_unnamed.ensures.most c.in-Err-Name.ensures.lacks
