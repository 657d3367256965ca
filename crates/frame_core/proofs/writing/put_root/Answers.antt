use Rattle.byteorder.specs.Endian.{big_bytes}
use Rattle.frame_core.specs.Sending.{bridge_id_octets, root_octets}
use Rattle.frame_core.proofs.Puts.{puts_rest}
use Rattle.frame_core.proofs.Sent.{bridge_id_len}
use Rattle.frame_core.proofs.writing.put_root.Goals as goal

pub returns-clause-octets : goal.returns-clause-octets
unfolding root_octets
returns-clause-octets c = puts_rest 8 4 (bridge_id_octets c.args.vector.now.root) (big_bytes 4 c.args.vector.now.cost) c.args.out.now _ _ (bridge_id_len _ c.put_bridge_id.ensures.fits) c.put_bridge_id.ensures.octets c.write_u32.ensures
