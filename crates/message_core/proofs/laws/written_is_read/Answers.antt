use Rattle.message_core.proofs.RoundTrip.{request_encodes, reply_datagram}
use Rattle.message_core.proofs.Requests.{request_only, reply_only}
use Rattle.message_core.specs.Canon.{canon_request, canon_reply}
use Rattle.message_core.proofs.laws.written_is_read.Goals as goal

pub returns : goal.returns
returns c = record {
  request = λ r fits len. request_only (canon_request r) r (request_encodes r fits len);
  reply = λ r fits len. reply_only (canon_reply r) r (reply_datagram r fits len);
}
