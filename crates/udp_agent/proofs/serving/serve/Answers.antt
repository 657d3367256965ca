use Rattle.udp_agent.proofs.serving.serve.Goals as goal

pub returns-in-Ok : goal.returns-in-Ok
returns-in-Ok g c = record {
  plan = c.in_ok-plan.plan;
  planned = c.in_ok-plan.ensures;
  lines = c.in_ok-lines.lines;
  bound = c.in_ok-lines.ensures.lines;
  served = c.in-Ok.ensures;
}

pub returns : goal.returns
returns g c = record {
  plan = c.in_ok-plan.plan;
  planned = c.in_ok-plan.ensures;
  lines = c.in_ok-lines.lines;
  bound = c.in_ok-lines.ensures.lines;
  served = c.in-Err.ensures;
}
