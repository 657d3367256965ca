use Rattle.agent_program.proofs.TakenLemmas.{taken}
use Rattle.agent_program.proofs.taken.print_taken.Goals as goal

pub returns-in-Ok : goal.returns-in-Ok
returns-in-Ok g c = taken g.O.Write.contents c.args.text.now _ c.args.writer.now c.print_warned.new.writer c.print_warned.result c.in-Ok.ensures.policy c.print_warned.ensures
