use Rattle.std.proofs.Common.{arith}
use Rattle.manager_core.proofs.Written.{lines_some, on_err}
use Rattle.manager_core.proofs.lines.push_lines.Goals as goal

pub returns-in_err-push_line-clause-some : goal.returns-in_err-push_line-clause-some
returns-in_err-push_line-clause-some c =
    on_err c.from_residual.result _ (lines_some c.args.bindings.now c.loop-binding.binding-index (omega arith))
