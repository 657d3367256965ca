use Rattle.std.proofs.Common.{◌∙◌, ◌-◌, drop, string_bytes, sym, arith, length-drop}
use Rattle.std.proofs.lemmas.List.{drop-drop}
use Rattle.line_output.proofs.Behind.{length-behind_cut, drop-behind_cut, behind_cut-false}
use Rattle.line_output.proofs.pending.Pending.wrote.Goals as goal

pub overflow_add-self : goal.overflow_add-self
overflow_add-self g c =
    let p = c.args.self.now in
    omega (arith, g.MOST.fits, p.text.bounded, p.within, c.requires, c.if-octets-gt0.true, length-behind_cut p.is_cut_off (drop p.written (string_bytes p.text.text)), length-drop p.written (string_bytes p.text.text))

pub invariant_of-self : goal.invariant_of-self
invariant_of-self g c =
    let p = c.args.self.now in
    record { within = omega (arith, p.within, c.requires, c.if-octets-gt0.true, length-behind_cut p.is_cut_off (drop p.written (string_bytes p.text.text)), length-drop p.written (string_bytes p.text.text)) }

pub returns-then-octets-gt0-clause-rest : goal.returns-then-octets-gt0-clause-rest
returns-then-octets-gt0-clause-rest g c =
    let p = c.args.self.now in
    let rest = drop p.written (string_bytes p.text.text) in
    behind_cut-false _
    ∙ sym (drop-drop (c.args.octets - 1) p.written (string_bytes p.text.text))
    ∙ sym (rw c.if-self.true (drop-behind_cut c.args.octets rest c.if-octets-gt0.true (rw c.if-self.true at c.requires)))
