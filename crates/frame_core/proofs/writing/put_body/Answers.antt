use Rattle.frame_core.specs.Sending.{vector_octets, times_octets, body_octets}
use Rattle.frame_core.proofs.Puts.{puts_rest}
use Rattle.frame_core.proofs.Sent.{vector_len}
use Rattle.frame_core.proofs.writing.put_body.Goals as goal

pub returns-clause-octets : goal.returns-clause-octets
unfolding body_octets
returns-clause-octets c = puts_rest 22 8 (vector_octets c.args.vector.now) (times_octets c.args.times.now) c.args.out.now _ _ (vector_len _ c.put_vector.ensures.fits) c.put_vector.ensures.octets c.put_times.ensures.octets
