use Rattle.bridge_core.proofs.StaticRows.{lists_of_port, lists_of_all, lists_none}
use Rattle.bridge_core.proofs.laws.the_row_of_the_port_is_listed_first.Goals as goal

pub returns-clause-of_port : goal.returns-clause-of_port
returns-clause-of_port c = lists_of_port

pub returns-clause-of_all : goal.returns-clause-of_all
returns-clause-of_all c = lists_of_all

pub returns-clause-none : goal.returns-clause-none
returns-clause-none c = lists_none
