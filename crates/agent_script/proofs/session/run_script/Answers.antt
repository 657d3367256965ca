use Rattle.agent_script.proofs.Noting.{not_begun}
use Rattle.agent_script.proofs.session.run_script.Goals as goal

pub returns-in_default : goal.returns-in_default
returns-in_default g c = record {
  written = tt;
  input = λ failed. cc failed;
  given_up = λ given_up. not_begun _ _ _;
  output = λ failed. cc failed;
  stopped = λ stopped. cc stopped;
}
