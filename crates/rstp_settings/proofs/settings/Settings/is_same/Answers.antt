use Rattle.std.proofs.Common.{sym, ◌∙◌}
use Rattle.rstp_settings.specs.Table.{Table}
use Rattle.rstp_settings.proofs.Same.{same_table-Decides}
use Rattle.rstp_settings.proofs.settings.Settings.is_same.Goals as goal

pub returns-then-eq : goal.returns-then-eq
returns-then-eq c =
    let t : Table = record { bridge = c.self.inside.bridge; ports = c.self.inside.ports.items } in
    let u : Table = record { bridge = c.other.inside.bridge; ports = c.other.inside.ports.items } in
    rw (← c.self.view_is, ← c.other.view_is) (same_table-Decides t u c.eq-then-eq.result (sym c.eq.ensures ∙ c.if-eq.true) (c.eq-then-eq.ensures ∙ rw (c.as_slice.ensures.value, c.as_slice-then-eq.ensures.value)))
