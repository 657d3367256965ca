use Rattle.message_core.proofs.Minimal.{name_at_least, value_at_least, binding_at_least, bindings_at_least, request_at_least, reply_at_least}
use Rattle.message_core.proofs.laws.none_shorter.Goals as goal

pub returns : goal.returns
returns c = record {
  name = λ octets x fits i. (name_at_least octets x fits i).least;
  value = λ octets x fits i. (value_at_least octets x fits i).least;
  binding = λ octets x fits i. (binding_at_least octets x fits i).least;
  bindings = λ octets x fits i. (bindings_at_least octets x fits i).least;
  request = λ octets x fits i. (request_at_least octets x fits i).least;
  reply = λ octets x fits i. (reply_at_least octets x fits i).least;
}
