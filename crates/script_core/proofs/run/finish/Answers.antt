use Rattle.std.proofs.Common.{◌≡◌}
use Rattle.script_core.proofs.RunsLemmas.{if_err_known, Adds-same, Adds-weaker, GivesUp-last, GivesUp-end}
use Rattle.script_core.proofs.run.finish.Goals as goal

pub returns-in_err-finish_last_line-clause-given_up : goal.returns-in_err-finish_last_line-clause-given_up
returns-in_err-finish_last_line-clause-given_up g c =
    if_err_known c.from_residual.result _ _ c.from_residual.ensures.1
    (λ e made.
    let may = c.in_err-finish_last_line.ensures.given_up in
    rw made
    (Adds-same _ c.in_err-finish_last_line.ensures.same (GivesUp-last _ _ _ _ c.requires c.in_err-finish_last_line.ensures.some may)))

pub returns-in_err-end_session-clause-given_up : goal.returns-in_err-end_session-clause-given_up
returns-in_err-end_session-clause-given_up g c =
    if_err_known c.from_residual-in_err-end_session.result _ _ c.from_residual-in_err-end_session.ensures.1
    (λ e made.
    let may = c.in_err-end_session.ensures.given_up in
    let same : c.end_session.new.buffers.out.items ≡ c.finish_last_line.new.buffers.out.items = c.in_err-end_session.ensures.same in
    rw (made, same) (Adds-weaker _ c.in_ok-finish_last_line.ensures.stated (λ s p. GivesUp-end _ _ _ _ _ may p)))
