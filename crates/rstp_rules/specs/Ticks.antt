-- A tick of one second (IEEE 802.1D-2004 17.17, 17.22, 17.26).
use Rattle.std.specs.Prelude.{◌-◌, ◌&&◌, ◌||◌, if◌then◌else◌, ◌==◌, nat_lt}
use Rattle.rstp_rules.specs.declared.row.PortInEvent.{PortInEvent}
use Rattle.rstp_rules.specs.declared.row.Timing.{Timing}
use Rattle.rstp_rules.specs.Ports.{is_root_or_designated, is_designated}

-- 17.22. A tick lowers by one each count that is above 0.
abbrev pub after_tick : PortInEvent → PortInEvent
after_tick r = record r {
  port = record r.port {
    rcvd_info_while = r.port.rcvd_info_while - 1;
    fd_while = r.port.fd_while - 1;
    rr_while = r.port.rr_while - 1;
    tc_while = r.port.tc_while - 1;
    hello_when = r.port.hello_when - 1;
    tx_count = r.port.tx_count - 1;
  };
}

-- 17.26. The hello step: a root or designated port whose hello time is over starts it again; a
-- designated one, or a root port that signals a topology change, has something to send.
abbrev pub after_hello_step : Timing → PortInEvent → PortInEvent
after_hello_step t r = if is_root_or_designated r.port.role && r.port.hello_when == 0
    then record r { port = record r.port { hello_when = t.hello; new_info = r.port.new_info || is_designated r.port.role || nat_lt 0 r.port.tc_while } }
    else r
