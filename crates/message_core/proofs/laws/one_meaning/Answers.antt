use Rattle.message_core.proofs.One.{one_name, one_value, one_binding, one_list, one_request, one_reply}
use Rattle.message_core.proofs.laws.one_meaning.Goals as goal

pub returns : goal.returns
returns c = record { name = one_name; value = one_value; binding = one_binding; bindings = one_list; request = one_request; reply = one_reply }
