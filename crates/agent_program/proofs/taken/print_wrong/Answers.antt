use Rattle.agent_program.proofs.TakenLemmas.{taken_wrong}
use Rattle.agent_program.proofs.taken.print_wrong.Goals as goal

pub returns : goal.returns
returns g c = taken_wrong g.O.Write.contents c.args.text.now c.args.fault c.args.writer.now c.write_out.new.writer c.write_out.result c.requires c.write_out.ensures
