use Rattle.std.proofs.Common.{◌∙◌, rules}
use Rattle.std.proofs.lemmas.Slice.Eq.{slice_eq-Decides}
use Rattle.rstp_core.proofs.Same.{settled_port-Decides, timers-Decides}
use Rattle.rstp_core.proofs.settled.Settled.is_same.Goals as goal

pub returns-then-eq : goal.returns-then-eq
returns-then-eq c =
    let ports = slice_eq-Decides settled_port-Decides c.self.inside.ports.items c.other.inside.ports.items c.eq-then-eq.result (c.eq-then-eq.ensures ∙ rw (c.as_slice.ensures.value, c.as_slice-then-eq.ensures.value)) in
    rw (← c.self.view_is, ← c.other.view_is) (search (ports, timers-Decides, rules))
