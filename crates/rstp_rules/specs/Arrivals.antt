-- A BPDU that arrives (IEEE 802.1D-2004 17.21.1, 17.21.8, 17.21.9, 17.21.11 to 17.21.13, 17.21.17,
-- 17.21.18, 17.21.22, 17.23, 17.27).
use Rattle.std.specs.Prelude.{ℕ, Bool, true, false, ◌&&◌, ◌||◌, not, if◌then◌else◌, ◌==◌, List, map}
use Rattle.std.specs.List.{list_any}
use Rattle.std.specs.Ordering.{is_lt}
use Rattle.frame_core.specs.declared.bpdu.BridgeId.{BridgeId}
use Rattle.frame_core.specs.declared.bpdu.PriorityVector.{PriorityVector}
use Rattle.frame_core.specs.declared.bpdu.Times.{Times}
use Rattle.frame_core.specs.declared.bpdu.PortRole.{PortRole}
use Rattle.frame_core.specs.declared.bpdu.PortRole.TheVariants as stated
use Rattle.frame_core.specs.declared.bpdu.Bpdu.{Bpdu}
use Rattle.frame_core.specs.declared.bpdu.Bpdu.TheVariants.{Config, TopologyChange, Rapid}
use Rattle.rstp_settings.specs.Table.{Table}
use Rattle.rstp_rules.specs.declared.row.PortInEvent.{PortInEvent}
use Rattle.rstp_rules.specs.declared.row.Timing.{Timing}
use Rattle.rstp_rules.specs.declared.port.Info.TheVariants.{Received}
use Rattle.rstp_rules.specs.Bpdus.{signals_change}
use Rattle.rstp_rules.specs.Ports.{is_received, is_root, is_designated, is_root_or_designated}
use Rattle.rstp_rules.specs.Vectors.{vector_cmp, same_vector, same_times, same_sender, port_number, info_time}
use Rattle.frame_core.specs.Octets.{same_mac}
use Rattle.rstp_rules.specs.Lines.{rstp_version, timers_of, times_in_force, timing_of}
use Rattle.rstp_rules.specs.Transitions.{with_change_spread}

-- The sender of the vector is the port itself.
abbrev pub is_own : BridgeId → PortInEvent → PriorityVector → Bool
is_own own r v =
    same_mac v.bridge.address own.address && port_number v.port == port_number r.inputs.id

-- A BPDU on a port that is off, or (Config and RST) of the port itself, is ignored.
abbrev pub is_taken : BridgeId → Bpdu → PortInEvent → Bool
is_taken own TopologyChange r = r.inputs.on
is_taken own (Config m) r = r.inputs.on && not (is_own own r m.vector)
is_taken own (Rapid m) r = r.inputs.on && not (is_own own r m.vector)

-- 17.21.22, 17.23. Each message that is taken: the port is at no edge, and Config and TCN make it
-- send no RST, RST make it send them.
abbrev pub after_mark : Bool → PortInEvent → PortInEvent
after_mark rapid r = record r { port = record r.port { oper_edge = false; send_rstp = rapid } }

-- 17.6, 17.21.8. A vector is taken where it is better, or where the port that sent the recorded one
-- sends again.
abbrev pub is_superior : PriorityVector → PortInEvent → Bool
is_superior v r =
    is_lt (vector_cmp v r.port.vector) || (is_received r.port.info && same_sender v r.port.vector)

-- 17.21.1, 17.21.11 to 17.21.13, 17.21.23. It is recorded with its times and its age; what differs
-- is not agreed; a proposal is noted.
abbrev pub after_record : PriorityVector → Times → Bool → PortInEvent → PortInEvent
after_record v t proposal r =
    let same = same_vector v r.port.vector && same_times t r.port.times in
    record r {
      port = record r.port {
        info = Received;
        vector = v;
        times = t;
        rcvd_info_while = info_time t;
        agreed = r.port.agreed && same;
        agree = r.port.agree && same;
      };
      proposed = proposal;
    }

-- A message of a designated port: its vector is recorded, or else a designated port answers it.
abbrev pub after_offer : PriorityVector → Times → Bool → PortInEvent → PortInEvent
after_offer v t proposal r =
    if is_superior v r then after_record v t proposal r
    else (if is_designated r.port.role then record r { port = record r.port { new_info = true } } else r)

-- 17.21.9. A message of a root, alternate or backup port to a designated port that it does not
-- beat: agreed where it agrees over a point to point link.
abbrev pub after_answer : PriorityVector → Bool → PortInEvent → PortInEvent
after_answer v agreement r =
    if is_designated r.port.role && not (is_lt (vector_cmp v r.port.vector))
    then record r { port = record r.port { agreed = agreement && r.inputs.point_to_point } }
    else r

-- 17.21.8. By the role that an RST message carries. One of unknown role does nothing here.
abbrev pub after_rapid : PortRole → PriorityVector → Times → Bool → Bool → PortInEvent → PortInEvent
after_rapid stated.Unknown v t proposal agreement r = r
after_rapid stated.AlternateOrBackup v t proposal agreement r = after_answer v agreement r
after_rapid stated.Root v t proposal agreement r = after_answer v agreement r
after_rapid stated.Designated v t proposal agreement r = after_offer v t proposal r

-- A message that is taken. Under version 0 the proposal and agreement flags are read as 0.
abbrev pub after_message : Bool → Bpdu → PortInEvent → PortInEvent
after_message rstp TopologyChange r = after_mark false r
after_message rstp (Config m) r =
    after_offer m.vector m.times (m.proposal && rstp) (after_mark false r)
after_message rstp (Rapid m) r = after_rapid m.role m.vector m.times (m.proposal && rstp) (m.agreement && rstp) (after_mark true r)

-- A message at a port, as far as that port is concerned.
abbrev pub after_reception : BridgeId → Bool → ℕ → Bpdu → PortInEvent → PortInEvent
after_reception own rstp port b r =
    if r.inputs.number == port && is_taken own b r then after_message rstp b r else r

-- 17.21.17. Whether the message at a port signals a topology change to the other ports: with its
-- flag, or as a TCN, on a root or designated port.
abbrev pub spreads : BridgeId → ℕ → Bpdu → PortInEvent → Bool
spreads own port b r =
    r.inputs.number == port && is_taken own b r && is_root_or_designated r.port.role && signals_change b

-- 17.21.17. What it says to the port itself of a topology change: an acknowledgment to the root port,
-- which need not signal any longer; a notification to a designated port, which acknowledges it.
abbrev pub after_acknowledgment : Bpdu → PortInEvent → PortInEvent
after_acknowledgment TopologyChange r = if is_designated r.port.role then record r { port = record r.port { tc_ack = true; new_info = true } } else r
after_acknowledgment (Config m) r = if m.acknowledge && is_root r.port.role then record r { port = record r.port { tc_while = 0 } } else r
after_acknowledgment (Rapid m) r = r

-- A message at a port: the topology change, where `change` says that it signals one.
abbrev pub after_change_notice : Timing → BridgeId → ℕ → Bpdu → Bool → PortInEvent → PortInEvent
after_change_notice t own port b change r =
    if r.inputs.number == port then (if is_taken own b r then after_acknowledgment b r else r)
    else (if change then with_change_spread t r else r)

abbrev pub after_change_notices : Timing → BridgeId → ℕ → Bpdu → List PortInEvent → List PortInEvent
after_change_notices t own port b rows =
    map (after_change_notice t own port b (list_any (spreads own port b) rows)) rows

abbrev pub after_receptions : BridgeId → Bool → ℕ → Bpdu → List PortInEvent → List PortInEvent
after_receptions own rstp port b rows = map (after_reception own rstp port b) rows

-- A message at a port: first what it says to the port, then the topology change, with the times in
-- force then. Roles are as they were before the event.
unfoldable pub after_arrival : Table → BridgeId → ℕ → Bpdu → List PortInEvent → List PortInEvent
after_arrival s own port b rows =
    let heard = after_receptions own (rstp_version s) port b rows in
    after_change_notices (timing_of s (times_in_force (timers_of s) heard)) own port b heard
