use Rattle.std.proofs.Common.{sym}
use Rattle.agent_program.proofs.serving.serve_opened_forever.Goals as goal

pub returns : goal.returns
returns g c = rw (sym c.in_ok-kept.ensures) c.serve_forever.ensures
