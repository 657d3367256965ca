use Rattle.std.proofs.Common.{◌≡◌, ◌∙◌, sym, ℕ, List, rules}
use Rattle.script_core.proofs.RunsLemmas.{if_err, if_err_known, not_output, same_fault, on_either, Adds-written, Adds-front, Feeds-first, GivesUpLine-first}
use Rattle.script_core.proofs.run.serve.Goals as goal

pub returns-in_err-deliver-clause-output : goal.returns-in_err-deliver-clause-output
returns-in_err-deliver-clause-output g c =
    if_err c.from_residual.result _
    (λ e failed (rest : List ℕ).
    on_either c.feed-fed.result c.feed-fed.ensures.feeds c.feed-fed.ensures.given_up
    (λ feeds. Adds-front _ c.requires.empty c.in_err-deliver.ensures.front (feeds rest) (λ s p. Feeds-first _ p))
    (λ fault given_up. Adds-front _ c.requires.empty c.in_err-deliver.ensures.front (given_up rest) (λ s p. GivesUpLine-first _ _ p)))

pub returns-in_err-deliver-clause-given_up : goal.returns-in_err-deliver-clause-given_up
returns-in_err-deliver-clause-given_up g c =
    if_err_known c.from_residual.result _ _ c.from_residual.ensures.1
    (λ e made fault stopped. absurd (not_output fault (sym (made ∙ c.in_err-deliver.ensures.output) ∙ stopped)))

pub returns-in_err-fed-clause-given_up : goal.returns-in_err-fed-clause-given_up
returns-in_err-fed-clause-given_up g c =
    if_err_known c.from_residual-in_err-fed.result _ _ c.from_residual-in_err-fed.ensures.1
    (λ e made fault stopped (rest : List ℕ).
    rw (← same_fault _ _ (sym made ∙ stopped)) (Adds-written c.requires.empty c.in_ok-deliver.ensures.written (c.in_err-fed.ensures.given_up rest)))

pub returns-clause-feeds : goal.returns-clause-feeds
returns-clause-feeds g c =
    λ (rest : List ℕ).
    let line : c.deliver.new.buffers.line.items ≡ c.feed-fed.new.buffers.line.items = search rules in
    rw line (Adds-written c.requires.empty c.in_ok-deliver.ensures.written (c.in_ok-fed.ensures.feeds rest))
