use Rattle.std.proofs.Common.{◌≡◌, ◌≢◌, ◌++◌, Bool, true, false, List, ℕ, MatchOption, sym, ap, subst, ◌∙◌, arith}
use Rattle.vacm_core.specs.Trees.{after_run}
use Rattle.vacm_core.proofs.Marks.{after_past, after_behind}
use Rattle.vacm_core.proofs.radix.Segment.after.Goals as goal

pub returns-then-self : goal.returns-then-self
returns-then-self c =
    let parts = c.args.self.now.parts.items in
    let name = c.args.name.now in
    let whole = after_past parts name c.len.result (omega (arith, c.len.ensures, c.args.self.now.parts.ok)) in
    let loose : after_run true parts name ≡ after_run c.args.self.now.loose parts name = ap (λ (b : Bool). after_run b parts name) (sym c.if-self.true) in
    c.past.ensures ∙ whole ∙ loose

pub returns-else-self : goal.returns-else-self
returns-else-self c =
    let parts = c.args.self.now.parts.items in
    let name = c.args.name.now in
    let tight : after_run false parts name ≡ after_run c.args.self.now.loose parts name = ap (λ (b : Bool). after_run b parts name) (sym c.if-self.false) in
    after_behind c.behind.result (λ rest. rest.now) parts name
    (subst (λ (l : List ℕ). MatchOption c.behind.result ((rest : List ℕ) → name ≢ l ++ rest) (λ rest. name ≡ l ++ rest.now)) c.as_slice.ensures.value c.behind.ensures)
    ∙ tight
