-- How the ports of a frame are found: first its way, and then the ports to which that leads.
use Rattle.std.specs.Prelude.{ℕ, Bool, true, false, ◌&&◌, not, ◌==◌, List}
use Rattle.frame_core.specs.declared.mac.Mac.{Mac}
use Rattle.frame_core.specs.Octets.{same_mac}
use Rattle.fdb_core.specs.declared.row.LearnedRow.{LearnedRow}
use Rattle.fdb_core.specs.declared.static_row.StaticRow.{StaticRow}
use Rattle.fdb_core.specs.PortSets.{has_port}
use Rattle.rstp_rules.specs.declared.port.State.{State}
use Rattle.rstp_rules.specs.Ports.{is_forwarding}
use Rattle.rstp_core.specs.Tree.{Tree, port_at}
use Rattle.bridge_core.specs.Statics.{listed}
use Rattle.bridge_core.specs.declared.forwarding.Way.{Way}
use Rattle.bridge_core.specs.declared.forwarding.Way.TheVariants.{Nowhere, Anywhere, By, Listed}
use Rattle.bridge_core.specs.Forwarding.{is_reserved, may_go}

-- Whether a frame to this destination may go by the port `out`, if that is another forwarding port,
-- where it came by this port, of this state.
abbrev pub is_way : List LearnedRow → List StaticRow → Mac → State → ℕ → Mac → ℕ → Bool
is_way rows statics own state port d out =
    is_forwarding state && not (is_reserved d) && not (same_mac d own) && may_go (listed statics port d) rows d out

-- The same as it is found: nowhere, anywhere, by one port, or by the ports of a set.
abbrev pub leads : Way → ℕ → Bool
leads Nowhere out = false
leads Anywhere out = true
leads (By r) out = r == out
leads (Listed ports) out = has_port ports.now out

-- Whether the port `out` is open to a frame that came by a port: it forwards, and they are two.
abbrev pub is_open : ℕ → Tree → ℕ → Bool
is_open port t out = is_forwarding (port_at t out).state && not (out == port)

-- Whether a frame that came by a port goes out by the port `out`, where it may go by a port that
-- passes the test.
abbrev pub goes_by : (ℕ → Bool) → ℕ → Tree → ℕ → Bool
goes_by way port t out = is_open port t out && way out
