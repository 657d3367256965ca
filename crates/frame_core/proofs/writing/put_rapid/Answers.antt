use Rattle.std.proofs.Common.{◌≡◌, ◌∙◌, ◌++◌, ap, refl, arith, length, drop}
use Rattle.frame_core.specs.Sending.{head_octets, body_octets, rapid_flags, rapid_octets}
use Rattle.frame_core.proofs.Puts.{puts_rest, puts_last}
use Rattle.frame_core.proofs.Sent.{body_len}
use Rattle.frame_core.proofs.writing.put_rapid.Goals as goal

pub returns-clause-octets : goal.returns-clause-octets
unfolding rapid_octets head_octets
returns-clause-octets c =
    let r = c.args.rapid.now in
    let head = head_octets 2 2 (rapid_flags r) in
    let body = body_octets r.vector r.times in
    let front = puts_rest 5 30 head body c.args.out.now _ _ refl (c.put_head.ensures ∙ ap (λ f. head_octets 2 2 f ++ drop 5 c.args.out.now) c.rapid_flags_of.ensures) c.put_body.ensures.octets in
    let len : length (head ++ body) ≡ 35 = omega (arith, body_len r.vector r.times c.put_body.ensures.vector) in
    puts_last 35 0 0 (head ++ body) c.args.out.now _ len (omega arith) front
