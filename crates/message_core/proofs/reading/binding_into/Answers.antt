use Rattle.std.proofs.Common.{arith, inl}
use Rattle.std.proofs.lemmas.Result.{err_from_is_err_and}
use Rattle.ber_core.proofs.Octets.{octets_from}
use Rattle.message_core.proofs.Growth.{wants, long_name, long_value, long_by_name, long_by_value, named_by}
use Rattle.message_core.proofs.reading.binding_into.Goals as goal

pub returns-in_err-name-clause-memory : goal.returns-in_err-name-clause-memory
returns-in_err-name-clause-memory c =
    let p = err_from_is_err_and c.from_residual-in_err-name.result c.from_residual-in_err-name.ensures.1 in
    let x = c.in_ok-content in
    let n = c.in_ok-name_content in
    rw (p.1, p.2) (λ wanted. inl (long_by_name c.args.octets.now x.content.now x.rest.now x.ensures.exact (long_name x.content.now n.name_content.now n.inner.now n.ensures.exact (c.in_err-name.ensures.memory (wants c.in_err-name.field-0.0 wanted)))))

pub returns-in_err-value-clause-memory : goal.returns-in_err-value-clause-memory
returns-in_err-value-clause-memory c =
    let p = err_from_is_err_and c.from_residual-in_err-value.result c.from_residual-in_err-value.ensures.1 in
    let x = c.in_ok-content in
    let n = c.in_ok-name_content in
    let v = c.in_ok-tag in
    let fits = octets_from c.args.octets.now (λ i. omega (arith, c.type_inv.octets i)) in
    let named = named_by x.content.now n.name_content.now n.inner.now c.in_ok-name.name n.ensures.exact c.in_ok-name.ensures.exact in
    rw (p.1, p.2) (λ wanted. inl (long_by_value c.args.octets.now x.content.now x.rest.now c.in_ok-name.name n.inner.now fits x.ensures.exact named (long_value n.inner.now v.tag.0 v.value_content.now v.inner.now v.ensures.exact (c.in_err-value.ensures.memory wanted))))
