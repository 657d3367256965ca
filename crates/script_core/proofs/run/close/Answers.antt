use Rattle.std.proofs.Common.{inl, inr, sym, ◌∙◌}
use Rattle.script_core.proofs.RunsLemmas.{if_err, if_err_known, not_output, same_fault, on_either, Adds-written, Adds-front, GivesUp-says}
use Rattle.script_core.proofs.run.close.Goals as goal

pub returns-in_err-deliver-clause-output : goal.returns-in_err-deliver-clause-output
returns-in_err-deliver-clause-output g c =
    if_err c.from_residual.result _
    (λ e failed.
    on_either c.finish-finished.result c.finish-finished.ensures.stated c.finish-finished.ensures.given_up
    (λ stated. Adds-front _ c.requires.empty c.in_err-deliver.ensures.front stated (λ s p. inr (_, p)))
    (λ fault given_up. Adds-front _ c.requires.empty c.in_err-deliver.ensures.front given_up (λ s p. inl (GivesUp-says _ _ _ _ p))))

pub returns-in_err-deliver-clause-given_up : goal.returns-in_err-deliver-clause-given_up
returns-in_err-deliver-clause-given_up g c =
    if_err_known c.from_residual.result _ _ c.from_residual.ensures.1
    (λ e made fault stopped. absurd (not_output fault (sym (made ∙ c.in_err-deliver.ensures.output) ∙ stopped)))

pub returns-in_err-finished-clause-given_up : goal.returns-in_err-finished-clause-given_up
returns-in_err-finished-clause-given_up g c =
    if_err_known c.from_residual-in_err-finished.result _ _ c.from_residual-in_err-finished.ensures.1
    (λ e made fault stopped.
    rw (← same_fault _ _ (sym made ∙ stopped)) (Adds-written c.requires.empty c.in_ok-deliver.ensures.written c.in_err-finished.ensures.given_up))
