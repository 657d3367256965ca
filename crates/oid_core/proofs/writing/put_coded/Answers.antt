use Rattle.std.proofs.Common.{◌++◌, ◌∙◌, ◌+◌, ◌%◌, ◌/◌, sym, append_assoc, map, List, ℕ, [], ◌∷◌, ap, arith, rules, Ok}
use Rattle.std.proofs.lemmas.Result.{err_from_is_err_and}
use Rattle.std.specs.Int.Digits.{digits_of}
use Rattle.ber_core.specs.Writing.{written_octets, capacity}
use Rattle.ber_core.proofs.Puts.{front_then}
use Rattle.oid_core.specs.Name.{canon_coded}
use Rattle.oid_core.proofs.Written.{digit_written, digit_full, extends_more, extends_same}
use Rattle.oid_core.proofs.writing.put_coded.Goals as goal

pub returns-in_err-put_octets-2-clause-puts : goal.returns-in_err-put_octets-2-clause-puts
returns-in_err-put_octets-2-clause-puts c =
    let p = err_from_is_err_and c.from_residual-in_err-put_octets-2.result c.from_residual-in_err-put_octets-2.ensures.1 in
    let h = c.in_err-put_octets-2.ensures.puts in
    let full = digit_full (canon_coded c.args.number ++ written_octets c.args.out.now) (written_octets c.loop-left.out) c.loop-left.left (capacity c.loop-left.out) (omega arith) c.loop-left.invariant.all h.1 in
    rw (p.1, p.2) (h.0, omega (arith, full, c.loop-left.invariant.space), h.2 ∙ c.loop-left.invariant.space)

pub loop-left-preserved : goal.loop-left-preserved
loop-left-preserved c =
    let h = c.in_ok-put_octets-2.ensures.puts in
    record {
      all = digit_written (canon_coded c.args.number ++ written_octets c.args.out.now) (written_octets c.loop-left.out) (written_octets c.put_octets-in-loop-left.new.self) c.loop-left.left (omega arith) c.loop-left.invariant.all h.0;
      space = h.1 ∙ c.loop-left.invariant.space;
      front = front_then c.args.out.now c.loop-left.out c.put_octets-in-loop-left.new.self (Ok _) ((128 + c.loop-left.left % 128) ∷ []) h c.loop-left.invariant.front c.in_ok-put_octets-2.ensures.front;
      behind = extends_more (written_octets c.args.out.now) (written_octets c.loop-left.out) (written_octets c.put_octets-in-loop-left.new.self) ((128 + c.loop-left.left % 128) ∷ []) c.loop-left.invariant.behind h.0;
      same = c.in_ok-put_octets-2.ensures.same_reference ∙ c.loop-left.invariant.same;
    }

pub returns-in_err-put_octets-2-clause-behind : goal.returns-in_err-put_octets-2-clause-behind
returns-in_err-put_octets-2-clause-behind c =
    extends_same (written_octets c.args.out.now) (written_octets c.loop-left.out) (written_octets c.put_octets-in-loop-left.new.self) c.loop-left.invariant.behind (ap written_octets c.in_err-put_octets-2.ensures.err)

pub loop-left-init : goal.loop-left-init
unfolding canon_coded
loop-left-init c =
    let high = map (λ d. 128 + d) (digits_of 128 (c.args.number / 128)) in
    record {
      all = append_assoc high (c.args.number % 128 ∷ []) (written_octets c.args.out.now) ∙ ap (λ (t : List ℕ). high ++ t) (sym c.in_ok-put_octets.ensures.puts.0);
      space = search rules;
      front = c.in_ok-put_octets.ensures.front;
      behind = record { more = c.args.number % 128 ∷ []; parts = c.in_ok-put_octets.ensures.puts.0 };
      same = search rules;
    }
