-- What all ports do together, pass by pass (IEEE 802.1D-2004 17.21.25, 17.26, 17.29 to 17.31).
use Rattle.std.specs.Prelude.{Bool, if◌then◌else◌, List, map}
use Rattle.frame_core.specs.declared.bpdu.BridgeId.{BridgeId}
use Rattle.rstp_rules.specs.declared.row.PortInEvent.{PortInEvent}
use Rattle.rstp_rules.specs.declared.row.Best.{Best}
use Rattle.rstp_rules.specs.declared.row.Context.{Context}
use Rattle.rstp_rules.specs.Roles.{with_role}
use Rattle.rstp_rules.specs.Transitions.{after_first_transitions, after_synchronizations, after_advances}
use Rattle.rstp_rules.specs.Turns.{turns, another_starts, with_changes_signalled}
use Rattle.rstp_rules.specs.Ticks.{after_hello_step}

-- The roles under a root vector.
abbrev pub rows_with_roles : BridgeId → Best → List PortInEvent → List PortInEvent
rows_with_roles own root rows = map (with_role own root) rows

-- The first five of the six steps in which the states follow from the roles.
abbrev pub before_turns : Context → List PortInEvent → List PortInEvent
before_turns c rows =
    after_advances c (after_synchronizations c (map (after_first_transitions c) rows))

-- The sixth: the ports that became forwarding take their turns.
abbrev pub after_turns : Context → List PortInEvent → List PortInEvent
after_turns c rows = turns c.timing (before_turns c rows)

-- The same, where all turns are one change of each port.
abbrev pub after_turns_at_once : Context → List PortInEvent → List PortInEvent
after_turns_at_once c rows = let before = before_turns c rows in map (λ r. with_changes_signalled c.timing (another_starts before r) r) before

-- The hello step, on a tick.
abbrev pub after_hello_steps : Bool → Context → List PortInEvent → List PortInEvent
after_hello_steps tick c rows = if tick then map (after_hello_step c.timing) rows else rows

-- The rows ready to send.
abbrev pub ready : Bool → Context → List PortInEvent → List PortInEvent
ready tick c rows = after_hello_steps tick c (after_turns c rows)
