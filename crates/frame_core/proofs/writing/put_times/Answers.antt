use Rattle.std.proofs.Common.{refl, ◌++◌}
use Rattle.byteorder.specs.Endian.{big_bytes}
use Rattle.frame_core.specs.Sending.{times_octets}
use Rattle.frame_core.proofs.Puts.{puts_rest}
use Rattle.frame_core.proofs.writing.put_times.Goals as goal

pub returns-clause-octets : goal.returns-clause-octets
unfolding times_octets
returns-clause-octets c =
    let t = c.args.times.now in
    puts_rest 4 4 (big_bytes 2 t.message_age ++ big_bytes 2 t.max_age) (big_bytes 2 t.hello ++ big_bytes 2 t.forward_delay) c.args.out.now _ _ refl c.put_two.ensures.octets c.put_two-2.ensures.octets
