use Rattle.agent_program.proofs.FrontLemmas.{front_then, front_of_first, both_whole}
use Rattle.agent_program.proofs.failure.write_line.Goals as goal

pub returns-in_err-write_first-clause-front : goal.returns-in_err-write_first-clause-front
returns-in_err-write_first-clause-front g c = front_of_first _ _ _ _ c.in_err-write_first.ensures.front

pub returns-clause-front : goal.returns-clause-front
returns-clause-front g c =
    front_then _ _ _ _ _ c.in_ok-write_first.ensures.whole c.write_second.ensures.front

pub returns-clause-whole : goal.returns-clause-whole
returns-clause-whole g c =
    both_whole c.write_second.result _ _ _ _ _ c.in_ok-write_first.ensures.whole c.write_second.ensures.whole
