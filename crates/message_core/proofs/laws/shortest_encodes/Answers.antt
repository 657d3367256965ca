use Rattle.message_core.proofs.RoundTrip.{name_encodes, value_encodes, binding_encodes, bindings_encode, request_encodes, reply_encodes}
use Rattle.message_core.proofs.laws.shortest_encodes.Goals as goal

pub returns : goal.returns
returns c = record { name = name_encodes; value = value_encodes; binding = binding_encodes; bindings = bindings_encode; request = request_encodes; reply = reply_encodes }
