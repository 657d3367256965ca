use Rattle.udp_agent.proofs.serving.serve_lines.Goals as goal

pub returns : goal.returns
returns g c = record {
  later = c.serve_run-answer.result.1;
  left = c.serve_run-answer.result.0;
  serves = c.serve_run-answer.ensures;
}
