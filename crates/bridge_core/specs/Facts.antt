-- What a bridge shows of itself and of its ports.
use Rattle.std.specs.Prelude.{ℕ}
use Rattle.rstp_settings.specs.Table.{get}
use Rattle.rstp_settings.specs.declared.key.Key.TheVariants as key
use Rattle.rstp_settings.specs.declared.key.PortKey.TheVariants as port_key
use Rattle.rstp_rules.specs.Vectors.{port_number}
use Rattle.rstp_settings.specs.Config.{cost_in_use, is_point_to_point}
use Rattle.bridge_core.specs.declared.facts.Facts.{Facts}
use Rattle.bridge_core.specs.declared.facts.PortFacts.{PortFacts}
use Rattle.bridge_core.specs.Bridge.{BridgeState, address_of, port_count, config_of, port_of, counters_of, is_on}

unfoldable pub facts_of : BridgeState → Facts
facts_of b = record {
  address = address_of b;
  ports = port_count b;
  root = b.tree.facts.root.vector.root;
  root_cost = b.tree.facts.root.vector.cost;
  root_port = port_number b.tree.facts.root.receiver;
  times = b.tree.facts.times;
  topology_changes = b.tree.facts.topology_changes;
  since = b.tree.facts.since;
  entry_discards = b.counters.entry_discards;
}

-- Of a port.
unfoldable pub port_facts_of : BridgeState → ℕ → PortFacts
port_facts_of b port = record {
  ifindex = (config_of b port).ifindex;
  on = is_on b port;
  state = (port_of b port).state;
  role = (port_of b port).role;
  vector = (port_of b port).vector;
  forward_transitions = (port_of b port).forward_transitions;
  cost = cost_in_use (get b.settings (key.Port port port_key.Cost)) (config_of b port).speed;
  oper_edge = (port_of b port).oper_edge;
  point_to_point = is_point_to_point (get b.settings (key.Port port port_key.PointToPoint)) (config_of b port).full;
  frames_in = (counters_of b port).frames_in;
  frames_out = (counters_of b port).frames_out;
  discards_in = (counters_of b port).discards_in;
}
