use Rattle.std.proofs.Common.{refl, ◌∙◌, ap}
use Rattle.byteorder.specs.Endian.{big_bytes}
use Rattle.frame_core.specs.Sending.{bridge_id_octets}
use Rattle.frame_core.proofs.Puts.{puts_part}
use borrow.Rule.Slice.PartMut.{put_mid}
use Rattle.frame_core.proofs.writing.put_bridge_id.Goals as goal

pub returns-clause-octets : goal.returns-clause-octets
unfolding bridge_id_octets
returns-clause-octets c =
    ap (put_mid 2 6 c.write_u16.new.buf) c.copy_from_slice.ensures.after ∙ puts_part 2 6 (big_bytes 2 c.args.id.now.priority) c.args.id.now.address.0 c.args.out.now c.write_u16.new.buf refl c.write_u16.ensures
