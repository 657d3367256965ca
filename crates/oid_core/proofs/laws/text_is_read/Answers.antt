use Rattle.std.proofs.Common.{refl}
use Rattle.oid_core.specs.TextValue.{name_of_text}
use Rattle.oid_core.proofs.TextValues.{dotted_read, read_dotted, none_dotted, none_read}
use Rattle.oid_core.proofs.laws.text_is_read.Goals as goal

pub returns-clause-name : goal.returns-clause-name
returns-clause-name c = λ text name. (read_dotted text name, dotted_read text name)

pub returns-clause-none : goal.returns-clause-none
returns-clause-none c = λ text. (none_read text, λ none. none_dotted text none (name_of_text text) refl)
