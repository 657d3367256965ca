use Rattle.std.proofs.Common.{◌≡◌, ◌∙◌, sym, ℕ, List, [], arith, rules}
use Rattle.script_core.specs.Runs.{Feeds, Writes}
use Rattle.std.proofs.lemmas.Result.{IfErr-weaker}
use Rattle.std.proofs.KnownBytes.{Keeps-refl}
use Rattle.script_core.proofs.RunsLemmas.{if_err_known, not_input, on_ok_weaker, Reads-same, Reads-more, Reads-kept, Reads-input, Reads-end, Reads-close, Writes-none, Writes-more, Writes-weaker, Writes-all, Writes-gives_up, Writes-gives_up_line, Writes-part, Writes-front, Feeds-none, Feeds-more, Feeds-stop}
use Rattle.script_core.proofs.run.run_script.Goals as goal

pub loop-init : goal.loop-init
loop-init g c = record {
  part = search rules;
  empty = search rules;
  stands =
      let empty : c.new.result.items ≡ [] = c.new.ensures.items in
      rw empty (Reads-same _
      (λ (input rest : List ℕ). Writes _ _ (λ text. Feeds g.S.Session.line_says c.args.session.now input c.args.session.now rest text))
      (λ input. Writes-none _ (Feeds-none _)));
}

pub returns-in-0-clause-written : goal.returns-in-0-clause-written
returns-in-0-clause-written g c =
    on_ok_weaker c.close.result c.close.ensures.written
    (λ written.
    let none : c.in_ok-n.n ≡ 0 = c.in-0.is in
    Reads-end _ _ _ _ _ c.loop.invariant.stands (rw none at c.in_ok-n.ensures.bytes.0) (c.in_ok-n.ensures.bytes.1 none (omega arith))
    (λ input stands. Writes-all _ _ _ stands written))

pub returns-in-0-clause-given_up : goal.returns-in-0-clause-given_up
returns-in-0-clause-given_up g c =
    IfErr-weaker c.close.result _ _
    (λ e given_up fault stopped.
    let none : c.in_ok-n.n ≡ 0 = c.in-0.is in
    Reads-close _ _ _ _ _ c.loop.invariant.stands (rw none at c.in_ok-n.ensures.bytes.0) (c.in_ok-n.ensures.bytes.1 none (omega arith))
    (λ input stands. Writes-gives_up _ _ _ _ _ stands (given_up fault stopped)))
    c.close.ensures.given_up

pub returns-in-0-clause-output : goal.returns-in-0-clause-output
returns-in-0-clause-output g c =
    IfErr-weaker c.close.result _ _
    (λ e front failed.
    let none : c.in_ok-n.n ≡ 0 = c.in-0.is in
    Reads-end _ _ _ _ _ c.loop.invariant.stands (rw none at c.in_ok-n.ensures.bytes.0) (c.in_ok-n.ensures.bytes.1 none (omega arith))
    (λ input stands. Writes-part _ _ _ stands (front failed)))
    c.close.ensures.output

pub returns-in_err-serve-in_default-clause-given_up : goal.returns-in_err-serve-in_default-clause-given_up
returns-in_err-serve-in_default-clause-given_up g c =
    if_err_known c.from_residual-in_err-serve-in_default.result _ _ c.from_residual-in_err-serve-in_default.ensures.1
    (λ e made fault stopped.
    let given_up = c.in_err-serve-in_default.ensures.given_up fault (rw made at stopped) in
    Reads-more _ _ _ _ _ _ c.loop.invariant.stands c.in_ok-n.ensures.bytes.0
    (λ input rest stands. Writes-gives_up_line _ _ _ _ stands (given_up rest)))

pub returns-in_err-n-clause-given_up : goal.returns-in_err-n-clause-given_up
returns-in_err-n-clause-given_up g c =
    if_err_known c.from_residual.result _ _ c.from_residual.ensures.1
    (λ e made fault stopped. absurd (not_input fault (sym (made ∙ c.in_err-n.ensures.input) ∙ stopped)))

pub returns-clause-given_up : goal.returns-clause-given_up
returns-clause-given_up g c = λ fault stopped. absurd (not_input fault stopped)

pub returns-in_err-serve-in_default-clause-output : goal.returns-in_err-serve-in_default-clause-output
returns-in_err-serve-in_default-clause-output g c =
    if_err_known c.from_residual-in_err-serve-in_default.result _ _ c.from_residual-in_err-serve-in_default.ensures.1
    (λ e made failed.
    let front = c.in_err-serve-in_default.ensures.output (rw made at failed) in
    Reads-input _ _ _ _ _ _ c.loop.invariant.stands c.in_ok-n.ensures.bytes.0
    (λ input rest stands. Writes-front _ _ stands (front rest)))

pub loop-preserved : goal.loop-preserved
loop-preserved g c = record {
  part = c.in_ok-serve-in_default.ensures.part;
  empty = c.in_ok-serve-in_default.ensures.empty;
  stands = Reads-more _ _ _ _ _ _ c.loop.invariant.stands c.in_ok-n.ensures.bytes.0
      (λ input rest stands. Writes-more _ stands (c.in_ok-serve-in_default.ensures.feeds rest) (λ s t p q. Feeds-more _ p q));
}

pub returns-clause-input : goal.returns-clause-input
returns-clause-input g c =
    λ failed. Reads-kept _ _ _ _ _ c.loop.invariant.stands (Keeps-refl (g.R.Read.remaining c.loop.reader))
    (λ input rest stands. Writes-weaker _ stands (λ s p. Feeds-stop _ _ c.loop.invariant.part p))
