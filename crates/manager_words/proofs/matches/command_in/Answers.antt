use Rattle.std.proofs.Common.{codes, List, Option, sym, subst}
use Rattle.clap.specs.Words.{Row, Text, one_of}
use Rattle.manager_words.specs.Bindings.{Reads}
use Rattle.manager_words.specs.Requests.{AreTries, IsAgentOf, IsErrandOf, IsRequest, IsStated, rows_in}
use Rattle.manager_words.proofs.Given.{entered}
use Rattle.manager_words.proofs.Passed.{passed}
use Rattle.manager_words.proofs.matches.command_in.Goals as goal

pub returns-in_err-tries-clause-read : goal.returns-in_err-tries-clause-read
returns-in_err-tries-clause-read c =
    let top = rows_in c.args.matches.now in
    let rows = rows_in c.in-Some.request.now in
    let here = entered c.args.matches.now c.in-Some.name.now rows c.in-Some.ensures.name c.in-Some.ensures.rows in
    subst (λ (o : Option (Text × List Row)). Reads (IsStated top o) c.from_residual.result) (sym here)
    (passed (AreTries (one_of (codes "TRIES") (rows_in c.args.matches.now)) (one_of (codes "TRIES") rows)) (IsRequest top c.in-Some.name.now rows) (λ c is. (c.tries, is.tries)) c.in_err-tries.field-0.0 c.from_residual.result c.in_err-tries.ensures c.from_residual.ensures.1)

pub returns-in_err-agent-clause-read : goal.returns-in_err-agent-clause-read
returns-in_err-agent-clause-read c =
    let top = rows_in c.args.matches.now in
    let rows = rows_in c.in-Some.request.now in
    let here = entered c.args.matches.now c.in-Some.name.now rows c.in-Some.ensures.name c.in-Some.ensures.rows in
    subst (λ (o : Option (Text × List Row)). Reads (IsStated top o) c.from_residual-in_err-agent.result) (sym here)
    (passed (IsAgentOf rows) (IsRequest top c.in-Some.name.now rows) (λ c is. (c.agent, is.agent)) c.in_err-agent.field-0.0 c.from_residual-in_err-agent.result c.in_err-agent.ensures c.from_residual-in_err-agent.ensures.1)

pub returns-in_err-errand-clause-read : goal.returns-in_err-errand-clause-read
returns-in_err-errand-clause-read c =
    let top = rows_in c.args.matches.now in
    let rows = rows_in c.in-Some.request.now in
    let here = entered c.args.matches.now c.in-Some.name.now rows c.in-Some.ensures.name c.in-Some.ensures.rows in
    subst (λ (o : Option (Text × List Row)). Reads (IsStated top o) c.from_residual-in_err-errand.result) (sym here)
    (passed (IsErrandOf c.in-Some.name.now rows) (IsRequest top c.in-Some.name.now rows) (λ c is. (c.errand, is.errand)) c.in_err-errand.field-0.0 c.from_residual-in_err-errand.result c.in_err-errand.ensures.read c.from_residual-in_err-errand.ensures.1)
