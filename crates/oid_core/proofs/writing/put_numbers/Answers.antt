use Rattle.std.proofs.Common.{◌≡◌, List, ℕ, ◌-◌, ◌++◌, ◌∙◌, sym, append_assoc, refl, ap, take, drop, length, get_or, arith, Ok}
use Rattle.std.specs.List.{flat_map}
use Rattle.std.proofs.lemmas.Result.{err_from_is_err_and}
use Rattle.ber_core.specs.Writing.{written_octets, capacity}
use Rattle.ber_core.proofs.Puts.{front_then}
use Rattle.oid_core.specs.Name.{coded_numbers, canon_coded, canon_name}
use Rattle.oid_core.proofs.Written.{root_len, last_number, last_written, no_room, extends_then}
use Rattle.oid_core.proofs.writing.put_numbers.Goals as goal

pub loop-i-init : goal.loop-i-init
unfolding canon_name
loop-i-init c =
    let octets = c.put_last.ensures.octets in
    record {
      all = last_written c.args.name.now (written_octets c.put_last.new.out) (written_octets c.args.out.now) _ c.put_last.result refl c.put_last.ensures.most octets;
      space = c.put_last.ensures.space;
      front = c.put_last.ensures.front;
      behind = record { more = flat_map canon_coded (drop (length c.args.name.now - c.put_last.result) c.args.name.now); parts = octets };
      same = c.put_last.ensures.same_reference;
      low = omega (arith, c.put_last.ensures.most);
      high = omega arith;
    }

pub put_last-requires : goal.put_last-requires
put_last-requires c = root_len c.args.name.now c.requires

pub returns-in_err-put_coded-clause-puts : goal.returns-in_err-put_coded-clause-puts
returns-in_err-put_coded-clause-puts c =
    let p = err_from_is_err_and c.from_residual.result c.from_residual.ensures.1 in
    let h = c.in_err-put_coded.ensures.puts in
    let full = no_room (canon_name c.args.name.now ++ written_octets c.args.out.now) (written_octets c.loop-i.out) (flat_map canon_coded (coded_numbers (take (c.loop-i.i - 1) c.args.name.now))) (canon_coded (get_or c.args.name.now (c.loop-i.i - 1) 0)) (capacity c.loop-i.out)
    (c.loop-i.invariant.all ∙ ap (λ (t : List ℕ). t ++ written_octets c.loop-i.out) (last_number c.args.name.now c.loop-i.i (omega arith) c.loop-i.invariant.high)) (rw (← c.from.ensures) h.1) in
    rw (p.1, p.2) (h.0, omega (arith, full, c.loop-i.invariant.space), h.2 ∙ c.loop-i.invariant.space)

pub returns-in_err-put_coded-clause-behind : goal.returns-in_err-put_coded-clause-behind
returns-in_err-put_coded-clause-behind c = extends_then _ _ _ c.loop-i.invariant.behind c.in_err-put_coded.ensures.behind

pub returns-clause-front : goal.returns-clause-front
returns-clause-front c =
    front_then c.args.out.now c.loop-i.out c.put_coded-2.new.out c.put_coded-2.result _ c.put_coded-2.ensures.puts c.loop-i.invariant.front c.put_coded-2.ensures.front

pub returns-clause-behind : goal.returns-clause-behind
returns-clause-behind c = extends_then _ _ _ c.loop-i.invariant.behind c.put_coded-2.ensures.behind

pub loop-i-preserved : goal.loop-i-preserved
loop-i-preserved c =
    let h = c.in_ok-put_coded.ensures.puts in
    let name = c.args.name.now in
    let i = c.loop-i.i in
    let before = flat_map canon_coded (coded_numbers (take (i - 1) name)) in
    let number = canon_coded (get_or name (i - 1) 0) in
    let put : written_octets c.put_coded.new.out ≡ number ++ written_octets c.loop-i.out = rw (← c.from.ensures) h.0 in
    record {
      all = c.loop-i.invariant.all ∙ ap (λ (t : List ℕ). t ++ written_octets c.loop-i.out) (last_number name i (omega arith) c.loop-i.invariant.high)
          ∙ append_assoc before number (written_octets c.loop-i.out) ∙ ap (λ (t : List ℕ). before ++ t) (sym put);
      space = h.1 ∙ c.loop-i.invariant.space;
      front = front_then c.args.out.now c.loop-i.out c.put_coded.new.out (Ok _) (canon_coded c.from.result) h c.loop-i.invariant.front c.in_ok-put_coded.ensures.front;
      behind = extends_then _ _ _ c.loop-i.invariant.behind c.in_ok-put_coded.ensures.behind;
      same = c.in_ok-put_coded.ensures.same_reference ∙ c.loop-i.invariant.same;
      low = omega arith;
      high = omega (arith, c.loop-i.invariant.high);
    }
