use Rattle.byteorder.specs.Endian.{big_bytes}
use Rattle.frame_core.specs.Sending.{bridge_id_octets, sender_octets}
use Rattle.frame_core.proofs.Puts.{puts_rest}
use Rattle.frame_core.proofs.Sent.{bridge_id_len}
use Rattle.frame_core.proofs.writing.put_sender.Goals as goal

pub returns-clause-octets : goal.returns-clause-octets
unfolding sender_octets
returns-clause-octets c = puts_rest 8 2 (bridge_id_octets c.args.vector.now.bridge) (big_bytes 2 c.args.vector.now.port) c.args.out.now _ _ (bridge_id_len _ c.put_bridge_id.ensures.fits) c.put_bridge_id.ensures.octets c.write_u16.ensures
