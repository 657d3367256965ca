use Rattle.std.proofs.Common.{◌≡◌, ◌≤◌, ◌+◌, ◌-◌, ◌∙◌, take, drop, length, ap, arith}
use Rattle.std.proofs.lemmas.List.{take_rest}
use Rattle.byteorder.specs.Endian.{big_number}
use Rattle.frame_core.proofs.Same.{carried_from}
use Rattle.frame_core.proofs.reading.carried_by.Goals as goal

pub returns : goal.returns
returns c =
    let n = c.from-len.result in
    let frame = c.args.frame.now in
    let count : 14 + n - 14 ≡ n = omega arith in
    let within : 14 + n ≤ length frame = omega arith in
    let cases = c.in_ok-octets.ensures.cases in
    carried_from frame (take (14 + n - 14) (drop 14 frame)) c.in_ok-octets.octets.now n c.bpdu_of.result (c.from-len.ensures ∙ c.read_u16.ensures ∙ ap (big_number 2) (take_rest frame 12)) (omega arith) within (ap (λ k. take k (drop 14 frame)) count) cases.0 cases.1 c.bpdu_of.ensures
