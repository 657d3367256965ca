use Rattle.frame_core.specs.Sending.{root_octets, sender_octets, vector_octets}
use Rattle.frame_core.proofs.Puts.{puts_rest}
use Rattle.frame_core.proofs.Sent.{root_len}
use Rattle.frame_core.proofs.writing.put_vector.Goals as goal

pub returns-clause-octets : goal.returns-clause-octets
unfolding vector_octets
returns-clause-octets c = puts_rest 12 10 (root_octets c.args.vector.now) (sender_octets c.args.vector.now) c.args.out.now _ _ (root_len _ c.put_root.ensures.id) c.put_root.ensures.octets c.put_sender.ensures.octets
