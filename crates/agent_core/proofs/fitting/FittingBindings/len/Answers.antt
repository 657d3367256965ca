use Rattle.std.proofs.Common.{◌≡◌, ◌*◌, ◌≤◌, ap, length, arith}
use Rattle.agent_core.specs.Fitting.{total}
use Rattle.agent_core.proofs.FewFit.{total_some}
use Rattle.agent_core.proofs.SentBindings.{names_count}
use Rattle.agent_core.proofs.fitting.FittingBindings.len.Goals as goal

pub returns-clause-value : goal.returns-clause-value
returns-clause-value c =
    let kept = c.self.inside in
    let same : length kept.bindings ≡ length c.args.self.now.bindings = ap (λ s. length s.bindings) c.self.view_is in
    omega (arith, c.len.ensures, names_count kept.numbers.items kept.sent.items kept.bindings c.self.invariant.0.names_are, same)

pub returns-clause-most : goal.returns-clause-most
returns-clause-most c =
    let kept = c.self.inside in
    let size : c.len.result ≡ length kept.bindings = omega (arith, c.len.ensures, names_count kept.numbers.items kept.sent.items kept.bindings c.self.invariant.0.names_are) in
    let six : 6 * length kept.bindings ≤ total kept.bindings = total_some kept.bindings in
    omega (arith, size, six, c.self.invariant.0.within, c.self.invariant.0.most)
