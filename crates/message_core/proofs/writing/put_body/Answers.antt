use Rattle.std.proofs.Common.{◌++◌, ◌∙◌, FitsSigned, w32, rules}
use Rattle.std.proofs.lemmas.Int.{to_z-of_z}
use Rattle.ber_core.specs.Writing.{written_octets}
use Rattle.ber_core.proofs.Puts.{prepends_then, written_then}
use Rattle.message_core.specs.Listed.{listed_bindings}
use Rattle.message_core.specs.Canon.{canon_int, canon_tail, canon_body}
use Rattle.message_core.proofs.writing.put_body.Goals as goal

pub returns-clause-puts : goal.returns-clause-puts
unfolding canon_body
returns-clause-puts c =
    let old = c.args.out.now in
    let m = c.args.message.now in
    let second_fits : FitsSigned w32 m.second = search rules in
    let first_fits : FitsSigned w32 m.first = search rules in
    let id_fits : FitsSigned w32 m.id = search rules in
    let one = simp to_z-of_z at c.in_ok-put_tail.ensures.puts in
    let two = simp to_z-of_z at c.in_ok-put_i32.ensures.puts in
    let three = simp to_z-of_z at c.put_i32-2.ensures.puts in
    prepends_then old c.put_i32.new.self c.put_i32-2.new.self c.put_i32-2.result (canon_int m.first ++ canon_tail m.second (listed_bindings m.list)) (canon_int m.id)
    (written_then (written_octets old) (written_octets c.put_tail.new.out) (written_octets c.put_i32.new.self) (canon_tail m.second (listed_bindings m.list)) (canon_int m.first) one.0 two.0) (two.1 ∙ one.1) three
