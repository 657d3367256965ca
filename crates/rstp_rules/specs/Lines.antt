-- What follows from the settings: for a port (IEEE 802.1D-2004 9.2.5, 9.2.7, 17.14), and as times in
-- force (17.18.4, 17.18.7, 17.20.6 to 17.20.8).
use Rattle.std.specs.Prelude.{ℕ, ◌+◌, ◌*◌, ◌/◌, ◌≤◌, Bool, false, ◌&&◌, if◌then◌else◌, ◌==◌, min, max, List, Option, Some, None}
use Rattle.std.specs.List.{find}
use Rattle.frame_core.specs.declared.mac.Mac.{Mac}
use Rattle.frame_core.specs.declared.bpdu.BridgeId.{BridgeId}
use Rattle.frame_core.specs.declared.bpdu.Times.{Times}
use Rattle.rstp_settings.specs.Table.{Table, get}
use Rattle.rstp_settings.specs.declared.key.PortValues.{PortValues}
use Rattle.rstp_settings.specs.declared.key.TheConstants.{VERSION_RSTP, PORT_ENABLED, EDGE_TRUE, MIGRATION_CHECK}
use Rattle.rstp_settings.specs.declared.key.Key.TheVariants as key
use Rattle.rstp_settings.specs.declared.key.BridgeKey.TheVariants as bridge
use Rattle.rstp_settings.specs.declared.key.PortKey.TheVariants as port_key
use Rattle.rstp_settings.specs.declared.config.PortConfig.{PortConfig}
use Rattle.rstp_settings.specs.Config.{cost_in_use, is_point_to_point}
use Rattle.rstp_rules.specs.declared.port.Port.{Port}
use Rattle.rstp_rules.specs.declared.row.PortInputs.{PortInputs}
use Rattle.rstp_rules.specs.declared.row.PortInEvent.{PortInEvent}
use Rattle.rstp_rules.specs.declared.row.Best.{Best}
use Rattle.rstp_rules.specs.declared.row.Context.{Context}
use Rattle.rstp_rules.specs.declared.row.Timing.{Timing}
use Rattle.rstp_rules.specs.declared.settled.Timers.{Timers}
use Rattle.rstp_rules.specs.declared.settled.SettledPort.{SettledPort}
use Rattle.rstp_rules.specs.Vectors.{port_id}
use Rattle.rstp_rules.specs.Ports.{is_root}

-- The bridge id: the priority setting and the bridge address.
abbrev pub own_id : Table → Mac → BridgeId
own_id s address = record { priority = get s (key.Bridge bridge.Priority); address = address }

-- 17.20.11. Whether the version is RSTP.
abbrev pub rstp_version : Table → Bool
rstp_version s = get s (key.Bridge bridge.Version) == VERSION_RSTP

-- Whether a port is enabled by its setting.
abbrev pub enabled_by : Table → ℕ → Bool
enabled_by s port = get s (key.Port port port_key.Enable) == PORT_ENABLED

-- Whether a port is set to be at the edge.
abbrev pub edge_by : Table → ℕ → Bool
edge_by s port = get s (key.Port port port_key.Edge) == EDGE_TRUE

-- A port under the settings s, where w are its settled values. It is on where it is enabled and its
-- link is up.
abbrev pub line_of : Table → SettledPort → ℕ → PortConfig → Bool → PortInputs
line_of s w port c link = record {
  number = port;
  id = port_id (get s (key.Port port port_key.Priority)) port;
  cost = cost_in_use (get s (key.Port port port_key.Cost)) c.speed;
  enabled = enabled_by s port;
  on = enabled_by s port && link;
  point_to_point = is_point_to_point (get s (key.Port port port_key.PointToPoint)) c.full;
  edge = edge_by s port;
  migrate = get s (key.Port port port_key.Migrate) == MIGRATION_CHECK;
  was_enabled = w.enabled;
  was_edge = w.edge;
}

-- The row of a port as an event begins.
abbrev pub row_of : Table → SettledPort → ℕ → PortConfig → Port → PortInEvent
row_of s w port c p = record {
  inputs = line_of s w port c p.link;
  was = record { role = p.role; state = p.state; vector = p.vector };
  port = p;
  proposed = false;
  flushed = false;
}

-- 1/256 s in seconds, rounded up and at least 1.
abbrev pub seconds : ℕ → ℕ
seconds t = max ((t + 255) / 256) 1

-- Hundredths of a second in 1/256 s.
abbrev pub in_256ths : ℕ → ℕ
in_256ths t = t * 256 / 100

abbrev pub timers_of : Table → Timers
timers_of s = record {
  max_age = get s (key.Bridge bridge.MaxAge);
  hello = get s (key.Bridge bridge.Hello);
  forward_delay = get s (key.Bridge bridge.ForwardDelay);
}

-- Times of settings are at most 40 seconds (17.14).
pub record AreTimers (m : Timers) : Type 0 where
  pub max_age : m.max_age ≤ 4000
  pub hello : m.hello ≤ 4000
  pub forward_delay : m.forward_delay ≤ 4000

-- The settings as times, with message age 0.
abbrev pub set_times : Timers → Times
set_times m = record { message_age = 0; max_age = in_256ths m.max_age; hello = in_256ths m.hello; forward_delay = in_256ths m.forward_delay }

-- 17.18.7, 17.21.25. The times in force: the settings where this bridge is root, and else those of
-- the root port with one second added to the message age, at most 65535.
abbrev pub times_by : Timers → Option PortInEvent → Times
times_by m None = set_times m
times_by m (Some r) =
    record r.port.times { message_age = min (r.port.times.message_age + 256) 65535 }

abbrev pub times_in_force : Timers → List PortInEvent → Times
times_in_force m rows = times_by m (find (λ r. is_root r.port.role) rows)

-- The times in force in seconds.
abbrev pub timing_of : Table → Times → Timing
timing_of s t = record { rstp_version = rstp_version s; max_age = seconds t.max_age; hello = seconds t.hello; forward_delay = seconds t.forward_delay }

-- What holds for all ports under a root vector.
abbrev pub context_of : Table → BridgeId → Best → Times → Times → Context
context_of s own root was times = record {
  own = own;
  root = root;
  was_times = was;
  times = times;
  timing = timing_of s times;
  hold_count = get s (key.Bridge bridge.HoldCount);
}

-- The values that settling the settings keeps: the version, the three times, and whether each port
-- is enabled and at the edge.
abbrev pub settled_port_of : PortValues → SettledPort
settled_port_of p = record { enabled = p.enable == PORT_ENABLED; edge = p.edge == EDGE_TRUE }

-- Where there is no port.
abbrev pub no_settled_port : SettledPort
no_settled_port = record { enabled = false; edge = false }

-- Times in force are at most 256 seconds.
pub record IsSmall (t : Timing) : Type 0 where
  pub max_age : t.max_age ≤ 256
  pub hello : t.hello ≤ 256
  pub forward_delay : t.forward_delay ≤ 256
