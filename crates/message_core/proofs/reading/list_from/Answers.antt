use Rattle.std.proofs.lemmas.Result.{err_from_is_err_and}
use Rattle.message_core.proofs.Growth.{grows_in_list}
use Rattle.message_core.proofs.reading.list_from.Goals as goal

pub returns-in_err-bindings-clause-memory : goal.returns-in_err-bindings-clause-memory
returns-in_err-bindings-clause-memory c =
    let p = err_from_is_err_and c.from_residual-in_err-bindings.result c.from_residual-in_err-bindings.ensures.1 in
    rw (p.1, p.2) (λ wanted. grows_in_list c.args.octets.now c.in_ok-list.list.now c.in_ok-list.rest.now c.in_ok-list.ensures.exact (c.in_err-bindings.ensures.memory wanted))
