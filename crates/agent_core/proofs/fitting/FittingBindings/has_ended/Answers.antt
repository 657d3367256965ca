use Rattle.std.proofs.Common.{◌≡◌, ◌-◌, ◌∙◌, ap, drop, length, arith}
use Rattle.agent_core.specs.Bulk.{all_end}
use Rattle.agent_core.proofs.SentBindings.{names_count, last_end}
use Rattle.agent_core.proofs.fitting.FittingBindings.has_ended.Goals as goal

pub returns : goal.returns
returns c =
    let kept = c.self.inside in
    let sent = c.self.invariant.0 in
    let size : c.len.result ≡ length kept.sent.items = omega (arith, c.len.ensures) in
    c.are_ends.ensures
    ∙ last_end kept.bindings kept.sent.items c.deref.result.now c.len.result c.args.count c.deref.ensures.value size (names_count kept.numbers.items kept.sent.items kept.bindings sent.names_are) sent.ends_are
    ∙ ap (λ s. all_end (drop (length s.bindings - c.args.count) s.bindings)) c.self.view_is
