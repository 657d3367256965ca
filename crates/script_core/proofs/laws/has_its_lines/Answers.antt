use Rattle.script_core.proofs.LinesLemmas.{AreLines-lines_of, lines_of-only}
use Rattle.script_core.proofs.laws.has_its_lines.Goals as goal

pub returns-clause-are : goal.returns-clause-are
returns-clause-are c = AreLines-lines_of

pub returns-clause-only : goal.returns-clause-only
returns-clause-only c = lines_of-only
