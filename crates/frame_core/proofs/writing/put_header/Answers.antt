use Rattle.frame_core.specs.Sending.{address_octets, llc_octets, header_octets}
use Rattle.frame_core.proofs.Puts.{puts_rest}
use Rattle.frame_core.proofs.Sent.{address_len}
use Rattle.frame_core.proofs.writing.put_header.Goals as goal

pub returns-clause-octets : goal.returns-clause-octets
unfolding header_octets
returns-clause-octets c = puts_rest 12 5 (address_octets c.args.source) (llc_octets c.args.len) c.args.out.now _ _ (address_len _ c.put_addresses.ensures.source) c.put_addresses.ensures.octets c.put_llc.ensures
