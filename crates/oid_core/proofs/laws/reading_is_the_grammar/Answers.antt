use Rattle.oid_core.proofs.Names.{name_only}
use Rattle.oid_core.proofs.Bad.{read_named, read_refused, none_read}
use Rattle.oid_core.proofs.laws.reading_is_the_grammar.Goals as goal

pub returns-clause-name : goal.returns-clause-name
returns-clause-name c = λ content name fits. (read_named content name fits, name_only content name)

pub returns-clause-fault : goal.returns-clause-fault
returns-clause-fault c = λ content f fits. (read_refused content f, none_read content f fits)
