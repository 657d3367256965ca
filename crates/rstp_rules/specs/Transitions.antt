-- How the state of a port follows from its role (IEEE 802.1D-2004 17.29 to 17.31), in six steps,
-- each taken for all ports before the next: a. blocked ports, b. changed roles, c. what is to be
-- announced, d. synchronization, e. the next state, f. topology changes.
use Rattle.std.specs.Prelude.{ℕ, ◌+◌, ◌%◌, ◌^◌, Bool, true, false, ◌&&◌, ◌||◌, not, if◌then◌else◌, ◌==◌, List, map}
use Rattle.std.specs.List.{list_any, list_all}
use Rattle.rstp_rules.specs.declared.row.PortInEvent.{PortInEvent}
use Rattle.rstp_rules.specs.declared.row.Context.{Context}
use Rattle.rstp_rules.specs.declared.row.Timing.{Timing}
use Rattle.rstp_rules.specs.declared.port.State.TheVariants.{Discarding, Forwarding}
use Rattle.rstp_rules.specs.Ports.{is_root_or_designated, is_alternate_or_backup, is_root, is_designated, same_role, is_discarding, is_forwarding, next_state}
use Rattle.rstp_rules.specs.Vectors.{same_vector, same_times}
use Rattle.rstp_rules.specs.Sends.{sends_rapid}

abbrev pub has_changed_role : PortInEvent → Bool
has_changed_role r = not (same_role r.was.role r.port.role)

-- a. A port whose role became alternate or backup: discarding; no wait, no topology change; its
-- learned rows go.
abbrev pub after_blocking : PortInEvent → PortInEvent
after_blocking r = if is_alternate_or_backup r.port.role && has_changed_role r
    then record r { port = record r.port { state = Discarding; fd_while = 0; tc_while = 0 }; flushed = true }
    else r

-- b. A discarding port that became root or designated, and was neither, waits the forward delay.
abbrev pub after_delay : Context → PortInEvent → PortInEvent
after_delay c r = if is_root_or_designated r.port.role && not (is_root_or_designated r.was.role) && is_discarding r.port.state
    then record r { port = record r.port { fd_while = c.timing.forward_delay } }
    else r

-- b. From root to designated while not discarding: a recent root.
abbrev pub after_root_role : Context → PortInEvent → PortInEvent
after_root_role c r =
    if is_root r.was.role && is_designated r.port.role && not (is_discarding r.port.state)
    then record r { port = record r.port { rr_while = c.timing.forward_delay } }
    else r

-- b. A changed role has no agreement.
abbrev pub after_role_change : PortInEvent → PortInEvent
after_role_change r = if has_changed_role r
    then record r { port = record r.port { agreed = false; agree = false } }
    else r

-- b. A discarding port is no recent root.
abbrev pub after_discarding : PortInEvent → PortInEvent
after_discarding r = if is_discarding r.port.state
    then record r { port = record r.port { rr_while = 0 } }
    else r

-- c. A designated port whose role, vector or times in force changed in this event has something to
-- send. A changed vector is not agreed.
abbrev pub after_announcement : Context → PortInEvent → PortInEvent
after_announcement c r = if is_designated r.port.role && (has_changed_role r || not (same_vector r.was.vector r.port.vector) || not (same_times c.was_times c.times))
    then record r { port = record r.port { new_info = true; agreed = r.port.agreed && same_vector r.was.vector r.port.vector } }
    else r

-- a to c, each of which reads one port.
abbrev pub after_first_transitions : Context → PortInEvent → PortInEvent
after_first_transitions c r = after_announcement c (after_discarding (after_role_change (after_root_role c (after_delay c (after_blocking r)))))

-- d. A proposal was noted on the port that is now root.
abbrev pub has_proposal : List PortInEvent → Bool
has_proposal rows = list_any (λ r. is_root r.port.role && r.proposed) rows

-- d. Each designated port that is not edge, not agreed and not discarding becomes discarding, and
-- the root port agrees.
abbrev pub after_synchronization : Context → PortInEvent → PortInEvent
after_synchronization c r = if is_root r.port.role
    then record r { port = record r.port { agree = true; new_info = true } }
    else (if is_designated r.port.role && not r.port.oper_edge && not r.port.agreed && not (is_discarding r.port.state)
    then record r { port = record r.port { state = Discarding; fd_while = c.timing.forward_delay; rr_while = 0; new_info = true } }
    else r)

-- d. Under version 2.
abbrev pub after_synchronizations : Context → List PortInEvent → List PortInEvent
after_synchronizations c rows =
    if c.timing.rstp_version && has_proposal rows then map (after_synchronization c) rows else rows

-- e. No port but the root port is a recent root.
abbrev pub no_recent_root : List PortInEvent → Bool
no_recent_root rows = list_all (λ r. is_root r.port.role || r.port.rr_while == 0) rows

-- e. Under version 2 the root port forwards at once where no other port is a recent root, and a
-- designated port where it is at the edge or agreed.
abbrev pub is_quick : Context → Bool → PortInEvent → Bool
is_quick c clear r = c.timing.rstp_version && (is_root r.port.role && clear || is_designated r.port.role && (r.port.oper_edge || r.port.agreed))

-- e. Any other root or designated port whose wait is over takes the next state, and waits again
-- before it forwards.
abbrev pub after_advance : Context → Bool → PortInEvent → PortInEvent
after_advance c clear r = if is_quick c clear r
    then record r { port = record r.port { state = Forwarding } }
    else (if is_root_or_designated r.port.role && r.port.fd_while == 0
    then record r { port = record r.port { state = next_state r.port.state; fd_while = (if is_discarding r.port.state then c.timing.forward_delay else 0) } }
    else r)

abbrev pub after_advances : Context → List PortInEvent → List PortInEvent
after_advances c rows = map (after_advance c (no_recent_root rows)) rows

-- f. A port became forwarding.
abbrev pub has_begun : PortInEvent → Bool
has_begun r = is_forwarding r.port.state && not (is_forwarding r.was.state)

-- 17.21.7. For how long a topology change is signalled: a hello time and a second to neighbours of RST,
-- and else the maximum age and the forward delay.
abbrev pub change_time : Timing → PortInEvent → ℕ
change_time t r = if sends_rapid t r then t.hello + 1 else t.max_age + t.forward_delay

-- 17.21.7. A port starts to signal a topology change, unless it does already.
abbrev pub with_change_started : Timing → PortInEvent → PortInEvent
with_change_started t r = if r.port.tc_while == 0
    then record r { port = record r.port { tc_while = change_time t r; new_info = true } }
    else r

-- 17.21.18. Another port signals the change too, and its learned rows go: one that is on, root or
-- designated, and not at the edge.
abbrev pub with_change_spread : Timing → PortInEvent → PortInEvent
with_change_spread t r = if r.inputs.on && is_root_or_designated r.port.role && not r.port.oper_edge
    then record (with_change_started t r) { flushed = true }
    else r

-- f. Its forward transitions rise by one.
abbrev pub with_transition_counted : PortInEvent → PortInEvent
with_transition_counted r = record r { port = record r.port { forward_transitions = (r.port.forward_transitions + 1) % 2 ^ 32 } }
