use Rattle.ber_core.proofs.Puts.{front_then}
use Rattle.ber_core.proofs.out.Out.put_tlv.Goals as goal

pub returns-clause-front : goal.returns-clause-front
returns-clause-front c =
    front_then c.args.self.now c.put_octets.new.self c.put_tlv_head.new.self c.put_tlv_head.result _ c.put_tlv_head.ensures.puts c.in_ok-put_octets.ensures.front c.put_tlv_head.ensures.front
