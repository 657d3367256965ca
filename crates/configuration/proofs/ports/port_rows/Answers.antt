use Rattle.std.proofs.Common.{◌≤◌, ◌∙◌, length, sym, rules, inl, inr}
use Rattle.rstp_settings.specs.declared.settings.TheConstants.{MAX_PORTS}
use Rattle.configuration.proofs.PortLemmas.{tables_kept, tables_refused}
use Rattle.configuration.proofs.ports.port_rows.Goals as goal
use Rattle.configuration.proofs.ports.port_rows.Goals.{then-is_empty-via-then-is_empty, then-is_empty-via-else-is_empty+then-len-gt-MAX_PORTS, then-is_empty-via-else-is_empty+else-len-gt-MAX_PORTS+then-not-are_tables}

pub returns-then-is_empty-clause-rows : goal.returns-then-is_empty-clause-rows
returns-then-is_empty-clause-rows c =
    tables_refused c.in_ok-rows.rows.now.items _ c.in_ok-rows.ensures
    (elim c.then-is_empty.branch [
      | then-is_empty-via-then-is_empty w ↦ inl (search rules)
      | then-is_empty-via-else-is_empty+then-len-gt-MAX_PORTS w ↦ inr (inl (search rules))
      | then-is_empty-via-else-is_empty+else-len-gt-MAX_PORTS+then-not-are_tables w ↦ inr (inr (rw (← w.deref.ensures.value) (sym w.are_tables.ensures ∙ w.if-not-are_tables.true)))
    ])

pub returns-clause-rows : goal.returns-clause-rows
returns-clause-rows c =
    let items = c.in_ok-rows.rows.now.items in
    let some : 1 ≤ length items = search rules in
    let few : length items ≤ MAX_PORTS = search rules in
    tables_kept items _ c.in_ok-rows.ensures some few (rw (← c.deref.ensures.value) (sym c.are_tables.ensures ∙ c.if-not-are_tables.false))
