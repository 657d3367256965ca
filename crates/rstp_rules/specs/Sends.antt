-- What a port sends (IEEE 802.1D-2004 17.21.19 to 17.21.21, 17.26).
use Rattle.std.specs.Prelude.{ℕ, ◌+◌, Bool, false, ◌&&◌, not, if◌then◌else◌, nat_lt, Option, Some, None, is_some, List, map, filter}
use Rattle.frame_core.specs.declared.bpdu.PortRole.{PortRole}
use Rattle.frame_core.specs.declared.bpdu.PortRole.TheVariants as reported
use Rattle.frame_core.specs.declared.bpdu.Config.{Config as ConfigBody}
use Rattle.frame_core.specs.declared.bpdu.Rapid.{Rapid as RapidBody}
use Rattle.frame_core.specs.declared.bpdu.Bpdu.{Bpdu}
use Rattle.frame_core.specs.declared.bpdu.Bpdu.TheVariants.{Config, TopologyChange, Rapid}
use Rattle.rstp_rules.specs.declared.port.Role.{Role}
use Rattle.rstp_rules.specs.declared.port.Role.TheVariants.{Disabled, Designated, Root, Alternate, Backup}
use Rattle.rstp_rules.specs.declared.row.PortInEvent.{PortInEvent}
use Rattle.rstp_rules.specs.declared.row.Context.{Context}
use Rattle.rstp_rules.specs.declared.row.Timing.{Timing}
use Rattle.rstp_rules.specs.Ports.{is_root, is_designated, is_discarding, is_forwarding}
use Rattle.rstp_rules.specs.Roles.{designated_vector}

-- 17.19.38, 17.20.11. A port sends RST messages under version 2, unless its neighbour knows none.
abbrev pub sends_rapid : Timing → PortInEvent → Bool
sends_rapid t r = t.rstp_version && r.port.send_rstp

-- 17.21.19. A Config message.
abbrev pub config_of : Context → PortInEvent → ConfigBody
config_of c r = record {
  topology_change = nat_lt 0 r.port.tc_while;
  proposal = false;
  acknowledge = r.port.tc_ack;
  vector = designated_vector c.own c.root r.inputs;
  times = c.times;
}

abbrev pub role_in_bpdu : Role → PortRole
role_in_bpdu Disabled = reported.Unknown
role_in_bpdu Designated = reported.Designated
role_in_bpdu Root = reported.Root
role_in_bpdu Alternate = reported.AlternateOrBackup
role_in_bpdu Backup = reported.AlternateOrBackup

-- 17.21.20. An RST message.
abbrev pub rapid_of : Context → PortInEvent → RapidBody
rapid_of c r = record {
  topology_change = nat_lt 0 r.port.tc_while;
  proposal = is_designated r.port.role && not (is_forwarding r.port.state) && not r.port.oper_edge;
  role = role_in_bpdu r.port.role;
  learning = not (is_discarding r.port.state);
  forwarding = is_forwarding r.port.state;
  agreement = is_root r.port.role && r.port.agree;
  vector = designated_vector c.own c.root r.inputs;
  times = c.times;
}

-- What a port has to send, whether or not it may now: a designated port RST or Config; a root port
-- RST, or a TCN while it signals a topology change; other ports nothing.
abbrev pub message_due : Context → PortInEvent → Option Bpdu
message_due c r =
    if is_designated r.port.role then (if sends_rapid c.timing r then Some (Rapid (rapid_of c r)) else Some (Config (config_of c r)))
    else (if is_root r.port.role then (if sends_rapid c.timing r then Some (Rapid (rapid_of c r)) else (if nat_lt 0 r.port.tc_while then Some TopologyChange else None))
    else None)

-- A pending port sends where it has sent fewer than the hold count.
abbrev pub sends : Context → PortInEvent → Bool
sends c r = r.port.new_info && is_some (message_due c r) && nat_lt r.port.tx_count c.hold_count

abbrev pub bpdu_of : Context → PortInEvent → Option Bpdu
bpdu_of c r = if sends c r then message_due c r else None

-- What sending leaves: one more is sent and nothing is pending; a Config message has carried its
-- acknowledgment. Where nothing is to be sent, nothing is pending.
abbrev pub after_sending : Context → PortInEvent → PortInEvent
after_sending c r =
    if sends c r then record r {
      port = record r.port {
        tx_count = r.port.tx_count + 1;
        new_info = false;
        tc_ack =
            r.port.tc_ack && not (is_designated r.port.role && not (sends_rapid c.timing r));
      };
    }
    else (if is_some (message_due c r) then r
    else record r { port = record r.port { new_info = false } })

-- The numbers of the ports whose learned rows go.
abbrev pub flushed_ports : List PortInEvent → List ℕ
flushed_ports rows = map (λ r. r.inputs.number) (filter (λ r. r.flushed) rows)
