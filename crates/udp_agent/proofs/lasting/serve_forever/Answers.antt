use Rattle.udp_agent.proofs.lasting.serve_forever.Goals as goal

pub returns : goal.returns
returns g c = record {
  plan = c.in_ok-plan.plan;
  planned = c.in_ok-plan.ensures;
  run = c.in_ok-lines.lines;
  bound = c.in_ok-lines.ensures.lines;
  audited = c.in_ok-lines.ensures.audited;
  control = c.in_ok-control.control;
  control_is = c.in_ok-control.ensures;
  watch = _;
  pace = _;
  served = c.in_ok-ends.ensures;
}
