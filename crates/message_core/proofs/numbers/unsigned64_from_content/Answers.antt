use Rattle.std.proofs.lemmas.Result.{err_from_is_err_and}
use Rattle.message_core.proofs.Readers.{unsigned_only}
use Rattle.message_core.proofs.Unsigned.{unsigned_none}
use Rattle.message_core.proofs.numbers.unsigned64_from_content.Goals as goal

pub returns-in_err-read_u64-clause-exact : goal.returns-in_err-read_u64-clause-exact
returns-in_err-read_u64-clause-exact c =
    let p = err_from_is_err_and c.from_residual.result c.from_residual.ensures.1 in
    rw (p.1, p.2) (λ other. unsigned_none 8 c.args.content.now c.in_err-read_u64.ensures.only)

pub returns-clause-exact : goal.returns-clause-exact
returns-clause-exact c = unsigned_only 8 c.args.content.now c.in_ok-read_u64.field-0 c.in_ok-read_u64.ensures.found
