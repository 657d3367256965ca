use Rattle.std.proofs.Common.{◌≡◌, ℕ, ◌+◌, ◌-◌, arith, get_or, rules}
use Rattle.oid_core.proofs.Written.{tail_front, tail_octets}
use Rattle.oid_core.proofs.writing.put_tail.Goals as goal

pub loop-left-preserved : goal.loop-left-preserved
loop-left-preserved c =
    let l = c.loop-left in
    let numbers = c.args.numbers.now in
    let i : ℕ = l.left - 1 in
    let one : l.left ≡ i + 1 = omega (arith, c.loop-left-test.true) in
    record {
      octets = tail_octets l.octets numbers i l.left one (omega (arith, one, l.invariant.within, l.invariant.len, c.requires)) (omega (arith, one, l.invariant.within)) c.if-numbers-left-lt128.true l.invariant.octets;
      front = tail_front l.octets c.args.octets.now i l.left (get_or numbers i 0) one l.invariant.front;
      len = search rules;
      within = omega (arith, one, l.invariant.within);
    }
