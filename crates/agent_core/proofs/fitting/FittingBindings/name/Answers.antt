use Rattle.std.proofs.Common.{◌≡◌, ◌-◌, ◌<◌, ap, length, arith}
use Rattle.agent_core.proofs.SentBindings.{name_is, names_count, root_at}
use Rattle.agent_core.proofs.fitting.FittingBindings.name.Goals as goal

pub returns-clause-root : goal.returns-clause-root
returns-clause-root c =
    let old = c.self.inside in
    let sent = c.self.invariant.0 in
    let size : length old.sent.items ≡ length old.bindings = names_count old.numbers.items old.sent.items old.bindings sent.names_are in
    let there : c.len.result - c.args.back < length old.sent.items = omega (arith, size, c.len.ensures, c.requires.some, c.requires.there, ap (λ s. length s.bindings) c.self.view_is) in
    let name = name_is old.numbers.items old.sent.items old.bindings (c.len.result - c.args.back) c.index.result.now sent.names_are there c.index.ensures in
    rw c.deref.ensures.value (rw name (root_at old.bindings (c.len.result - c.args.back) sent.encodable (omega (arith, there, size))))
