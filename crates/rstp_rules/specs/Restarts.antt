-- A port that starts anew, a link that changes, and settling the settings (IEEE 802.1D-2004
-- 17.19.13, 17.24, 17.25, 17.29.1).
use Rattle.std.specs.Prelude.{ℕ, Bool, true, false, ◌&&◌, ◌||◌, not, if◌then◌else◌, ◌==◌}
use Rattle.rstp_rules.specs.declared.row.PortInEvent.{PortInEvent}
use Rattle.rstp_rules.specs.declared.port.Info.TheVariants.{Mine}
use Rattle.rstp_rules.specs.declared.port.Role.TheVariants.{Disabled}
use Rattle.rstp_rules.specs.declared.port.State.TheVariants.{Discarding}

-- A restart: the port's own information, no role, discarding, no counts, RST messages, edge as set,
-- no other flag; its learned rows go. Its role and state before the roles are chosen are these.
abbrev pub after_restart : PortInEvent → PortInEvent
after_restart r = record r {
  was = record r.was { role = Disabled; state = Discarding };
  port = record r.port {
    info = Mine;
    role = Disabled;
    state = Discarding;
    rcvd_info_while = 0;
    fd_while = 0;
    rr_while = 0;
    tc_while = 0;
    hello_when = 0;
    tx_count = 0;
    oper_edge = r.inputs.edge;
    send_rstp = true;
    agreed = false;
    agree = false;
    tc_ack = false;
    new_info = false;
  };
  flushed = true;
}

-- A link that changes: the port goes on or off where it is enabled, and starts anew then.
abbrev pub after_switch : Bool → PortInEvent → PortInEvent
after_switch up r =
    let s = record r { inputs = record r.inputs { on = r.inputs.enabled && up }; port = record r.port { link = up } } in
    if r.inputs.enabled then after_restart s else s

-- A link event at a port. One that repeats the link's state changes nothing.
abbrev pub after_link : ℕ → Bool → PortInEvent → PortInEvent
after_link port up r = if r.inputs.number == port && not (if up then r.port.link else not r.port.link) then after_switch up r else r

-- Settling finds the version changed, or the port gone on or off by its setting.
abbrev pub is_renewed : Bool → PortInEvent → Bool
is_renewed version_changed r = version_changed || (r.port.link && (if r.inputs.enabled then not r.inputs.was_enabled else r.inputs.was_enabled))

abbrev pub after_renewal : Bool → PortInEvent → PortInEvent
after_renewal version_changed r = if is_renewed version_changed r then after_restart r else r

-- Settling finds the edge setting changed.
abbrev pub after_edge_setting : PortInEvent → PortInEvent
after_edge_setting r = if (if r.inputs.edge then not r.inputs.was_edge else r.inputs.was_edge) then record r { port = record r.port { oper_edge = r.inputs.edge } } else r

-- 17.19.13. A protocol migration check makes the port send RST messages.
abbrev pub after_migration_check : PortInEvent → PortInEvent
after_migration_check r =
    if r.inputs.migrate then record r { port = record r.port { send_rstp = true } } else r

-- What settling does to a port.
abbrev pub after_settling : Bool → PortInEvent → PortInEvent
after_settling version_changed r =
    after_migration_check (after_edge_setting (after_renewal version_changed r))
