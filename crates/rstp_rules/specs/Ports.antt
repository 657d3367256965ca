-- Words for a port's information, role and state (IEEE 802.1D-2004 7.4, 17.7, 17.19.10).
use Rattle.std.specs.Prelude.{Bool, true, false}
use Rattle.frame_core.specs.declared.bpdu.PriorityVector.{PriorityVector}
use Rattle.frame_core.specs.declared.bpdu.Times.{Times}
use Rattle.rstp_rules.specs.declared.port.Port.{Port}
use Rattle.rstp_rules.specs.declared.port.Info.{Info}
use Rattle.rstp_rules.specs.declared.port.Info.TheVariants.{Mine, Received}
use Rattle.rstp_rules.specs.declared.port.Role.{Role}
use Rattle.rstp_rules.specs.declared.port.Role.TheVariants.{Disabled, Designated, Root, Alternate, Backup}
use Rattle.rstp_rules.specs.declared.port.State.{State}
use Rattle.rstp_rules.specs.declared.port.State.TheVariants.{Discarding, Learning, Forwarding}

abbrev pub is_received : Info → Bool
is_received Received = true
is_received Mine = false

abbrev pub is_root_or_designated : Role → Bool
is_root_or_designated Root = true
is_root_or_designated Designated = true
is_root_or_designated Disabled = false
is_root_or_designated Alternate = false
is_root_or_designated Backup = false

abbrev pub is_alternate_or_backup : Role → Bool
is_alternate_or_backup Alternate = true
is_alternate_or_backup Backup = true
is_alternate_or_backup Disabled = false
is_alternate_or_backup Root = false
is_alternate_or_backup Designated = false

abbrev pub is_root : Role → Bool
is_root Root = true
is_root Designated = false
is_root Disabled = false
is_root Alternate = false
is_root Backup = false

abbrev pub is_designated : Role → Bool
is_designated Designated = true
is_designated Root = false
is_designated Disabled = false
is_designated Alternate = false
is_designated Backup = false

abbrev pub same_role : Role → Role → Bool
same_role Disabled Disabled = true
same_role Designated Designated = true
same_role Root Root = true
same_role Alternate Alternate = true
same_role Backup Backup = true
same_role a b = false

abbrev pub is_discarding : State → Bool
is_discarding Discarding = true
is_discarding Learning = false
is_discarding Forwarding = false

abbrev pub is_forwarding : State → Bool
is_forwarding Forwarding = true
is_forwarding Learning = false
is_forwarding Discarding = false

-- A port waits in two steps: discarding, learning, forwarding.
abbrev pub next_state : State → State
next_state Discarding = Learning
next_state Learning = Forwarding
next_state Forwarding = Forwarding

-- A port at the opening: as after a restart with its link down.
abbrev pub opening_port : PriorityVector → Times → Port
opening_port v t = record {
  link = false;
  info = Mine;
  vector = v;
  times = t;
  role = Disabled;
  state = Discarding;
  rcvd_info_while = 0;
  fd_while = 0;
  rr_while = 0;
  tc_while = 0;
  hello_when = 0;
  tx_count = 0;
  oper_edge = false;
  send_rstp = true;
  agreed = false;
  agree = false;
  tc_ack = false;
  new_info = false;
  forward_transitions = 0;
}
