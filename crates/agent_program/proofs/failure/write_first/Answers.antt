use Rattle.std.proofs.Common.{codes}
use Rattle.agent_program.proofs.FrontLemmas.{front_then, front_of_first, both_whole}
use Rattle.agent_program.proofs.failure.write_first.Goals as goal

pub returns-in_err-write_front-clause-front : goal.returns-in_err-write_front-clause-front
returns-in_err-write_front-clause-front g c = front_of_first _ _ (codes "agentd: ") _ c.in_err-write_front.ensures.front

pub returns-in_err-write_front-2-clause-front : goal.returns-in_err-write_front-2-clause-front
returns-in_err-write_front-2-clause-front g c =
    front_then _ _ _ (codes "agentd: ") _ c.in_ok-write_front.ensures.whole
    (front_of_first _ _ _ _ (rw c.words.ensures at c.in_err-write_front-2.ensures.front))

pub returns-in_err-write_front-3-clause-front : goal.returns-in_err-write_front-3-clause-front
returns-in_err-write_front-3-clause-front g c =
    front_then _ _ _ (codes "agentd: ") _ c.in_ok-write_front.ensures.whole
    (front_then _ _ _ _ _ (rw c.words.ensures at c.in_ok-write_front-2.ensures.whole)
    (front_of_first _ _ _ _ (rw c.name.ensures at c.in_err-write_front-3.ensures.front)))

pub returns-clause-front : goal.returns-clause-front
returns-clause-front g c =
    front_then _ _ _ (codes "agentd: ") _ c.in_ok-write_front.ensures.whole
    (front_then _ _ _ _ _ (rw c.words.ensures at c.in_ok-write_front-2.ensures.whole)
    (front_then _ _ _ _ _ (rw c.name.ensures at c.in_ok-write_front-3.ensures.whole) c.write_front-4.ensures.front))

pub returns-clause-whole : goal.returns-clause-whole
returns-clause-whole g c =
    both_whole c.write_front-4.result _ _ _ (codes "agentd: ") _ c.in_ok-write_front.ensures.whole
    (both_whole c.write_front-4.result _ _ _ _ _ (rw c.words.ensures at c.in_ok-write_front-2.ensures.whole)
    (both_whole c.write_front-4.result _ _ _ _ _ (rw c.name.ensures at c.in_ok-write_front-3.ensures.whole) c.write_front-4.ensures.whole))
