-- What a bridge of four ports, made by hand as if in use, shows, all its instances: three speeds
-- and all states, other settings than the opening ones, two learned addresses, two made static rows,
-- three families of its policy, and facts of which most differ from one another, so that few objects
-- could stand for another. No run leads to it, since its root is no port's.
use Rattle.std.specs.Prelude.{ℕ, Bool, true, false, List, [], ◌∷◌, ◌++◌}
use Rattle.frame_core.specs.declared.mac.Mac.{Mac}
use Rattle.frame_core.specs.declared.bpdu.Times.{Times}
use Rattle.frame_core.specs.declared.bpdu.PriorityVector.{PriorityVector}
use Rattle.fdb_core.specs.declared.static_row.StaticRow.{StaticRow}
use Rattle.fdb_core.specs.PortSets.{ports_in}
use Rattle.rstp_settings.specs.Table.{Table}
use Rattle.rstp_settings.specs.declared.config.PortConfig.{PortConfig}
use Rattle.rstp_rules.specs.declared.port.Port.{Port}
use Rattle.rstp_rules.specs.declared.port.State.{State}
use Rattle.rstp_rules.specs.declared.port.State.TheVariants.{Discarding, Learning, Forwarding}
use Rattle.rstp_rules.specs.Ports.{opening_port}
use Rattle.rstp_core.specs.Tree.{Tree}
use Rattle.rstp_core.specs.Settled.{settled_of}
use Rattle.bridge_core.specs.Bridge.{BridgeState, Counters}
use Rattle.vacm_core.specs.declared.tables.FamilyRow.{FamilyRow}
use Rattle.community_core.specs.Communities.{PolicyTables}
use Rattle.message_core.specs.declared.binding.Binding.{Binding}
use Rattle.message_core.specs.declared.value.Value.{Value}
use Rattle.message_core.specs.declared.value.Value.TheVariants.{OctetString, ObjectIdentifier, Counter32, TimeTicks}
use Rattle.setphase_core.specs.declared.world.World.{World}
use Rattle.setphase_core.specs.Columns.{number}
use Rattle.setphase_core.specs.Opening.{bridge_instance}

-- ---- the bridge

abbrev pub own_address : Mac
own_address = record { 0 = 2 ∷ 17 ∷ 34 ∷ 51 ∷ 68 ∷ 85 ∷ [] }

abbrev pub settings_in_use : Table
settings_in_use = record {
  bridge = record {
    priority = 12288;
    max_age = 1800;
    hello = 100;
    forward_delay = 1200;
    version = 0;
    hold_count = 3;
    aging = 600;
  };
  ports =
      record { priority = 16; enable = 1; cost = 0; migrate = 0; edge = 1; point_to_point = 2 }
      ∷ record { priority = 32; enable = 2; cost = 700; migrate = 1; edge = 2; point_to_point = 2 }
      ∷ record { priority = 48; enable = 1; cost = 0; migrate = 0; edge = 2; point_to_point = 0 }
      ∷ record {
        priority = 240;
        enable = 1;
        cost = 65536;
        migrate = 0;
        edge = 1;
        point_to_point = 1;
      } ∷ [];
}

abbrev pub four_ports : List PortConfig
four_ports =
    record { ifindex = 11; speed = 10; full = false }
    ∷ record { ifindex = 12; speed = 100; full = true }
    ∷ record { ifindex = 13; speed = 1000; full = false }
    ∷ record { ifindex = 14; speed = 100; full = true } ∷ []

-- In 1/256 s.
abbrev pub times_in_use : Times
times_in_use = record { message_age = 256; max_age = 4000; hello = 300; forward_delay = 3001 }

-- A vector whose parts are reported by one small number, a cost and a port identifier.
abbrev pub vector_in_use : ℕ → ℕ → ℕ → ℕ → ℕ → PriorityVector
vector_in_use low root_priority cost bridge_priority port = record {
  root = record {
    priority = root_priority;
    address = record { 0 = 0 ∷ 1 ∷ 2 ∷ 3 ∷ 4 ∷ low ∷ [] };
  };
  cost = cost;
  bridge = record {
    priority = bridge_priority;
    address = record { 0 = 2 ∷ 9 ∷ 8 ∷ 7 ∷ 6 ∷ low ∷ [] };
  };
  port = port;
}

-- A port whose link is up.
abbrev pub port_in_use : PriorityVector → State → Bool → ℕ → Port
port_in_use vector state edge transitions =
    let opening = opening_port vector times_in_use in
    record opening {
      link = true;
      state = state;
      oper_edge = edge;
      forward_transitions = transitions;
    }

abbrev pub tree_in_use : Tree
tree_in_use = record {
  address = own_address;
  config = four_ports;
  ports =
      port_in_use (vector_in_use 10 257 10 4096 32769) Forwarding false 51
      ∷ port_in_use (vector_in_use 20 514 20 8192 4098) Discarding false 52
      ∷ port_in_use (vector_in_use 30 771 2147483648 12288 8195) Learning true 53
      ∷ port_in_use (vector_in_use 40 1028 40 16384 61444) Discarding true 54 ∷ [];
  facts = record {
    root = record { vector = vector_in_use 50 4660 3000000000 20480 5; receiver = 32771 };
    times = times_in_use;
    topology_changes = 77;
    since = 43000000;
  };
  settled = settled_of settings_in_use;
}

abbrev pub counters_in_use : Counters
counters_in_use = record {
  entry_discards = 9;
  ports =
      record { frames_in = 61; frames_out = 71; discards_in = 81 }
      ∷ record { frames_in = 62; frames_out = 72; discards_in = 82 }
      ∷ record { frames_in = 63; frames_out = 73; discards_in = 83 }
      ∷ record { frames_in = 64; frames_out = 74; discards_in = 84 } ∷ [];
}

-- Frames to 01-80-C2-00-00-20 that come by port 2 may go to the ports 1 and 3, those to
-- 02-00-00-00-00-07 that come by any port to none. The row between is not made.
abbrev pub statics_in_use : List StaticRow
statics_in_use =
    record {
      index = record { address = record { 0 = 1 ∷ 128 ∷ 194 ∷ 0 ∷ 0 ∷ 32 ∷ [] }; port = 2 };
      made = true;
      ports = ports_in (160 ∷ []);
    }
    ∷ record {
      index = record { address = record { 0 = 2 ∷ 0 ∷ 0 ∷ 0 ∷ 0 ∷ 6 ∷ [] }; port = 4 };
      made = false;
      ports = ports_in (64 ∷ []);
    }
    ∷ record {
      index = record { address = record { 0 = 2 ∷ 0 ∷ 0 ∷ 0 ∷ 0 ∷ 7 ∷ [] }; port = 0 };
      made = true;
      ports = ports_in [];
    } ∷ []

unfoldable pub bridge_in_use : BridgeState
bridge_in_use = record {
  settings = settings_in_use;
  tree = tree_in_use;
  learned =
      record { address = record { 0 = 0 ∷ 16 ∷ 32 ∷ 48 ∷ 64 ∷ 80 ∷ [] }; port = 4; age = 5 }
      ∷ record { address = record { 0 = 2 ∷ 0 ∷ 0 ∷ 0 ∷ 0 ∷ 1 ∷ [] }; port = 1; age = 6 } ∷ [];
  statics = record { rows = statics_in_use; places = 0 };
  counters = counters_in_use;
}

-- The families of the views "wide" and "ops". Their order is not that of their indexes: the shorter
-- name comes first, and of two subtrees the shorter.
abbrev pub families_in_use : List FamilyRow
families_in_use =
    record {
      view = 119 ∷ 105 ∷ 100 ∷ 101 ∷ [];
      subtree = 1 ∷ 3 ∷ 6 ∷ 1 ∷ 2 ∷ 1 ∷ 17 ∷ [];
      mask = 254 ∷ 0 ∷ [];
      included = true;
    }
    ∷ record {
      view = 111 ∷ 112 ∷ 115 ∷ [];
      subtree = 1 ∷ 3 ∷ 6 ∷ 1 ∷ 2 ∷ 1 ∷ 17 ∷ 4 ∷ [];
      mask = 255 ∷ [];
      included = false;
    }
    ∷ record {
      view = 111 ∷ 112 ∷ 115 ∷ [];
      subtree = 1 ∷ 3 ∷ 6 ∷ 1 ∷ 6 ∷ 3 ∷ [];
      mask = [];
      included = true;
    } ∷ []

-- The world of that bridge, whatever its policy.
abbrev pub world_in_use : PolicyTables → World
world_in_use policy =
    record { bridge = bridge_in_use; policy = policy; bad_communities = 3; unknown_contexts = 4 }

-- ---- what it shows

-- The instance of a scalar.
abbrev pub of_scalar : List ℕ → Value → List Binding
of_scalar numbers v = bridge_instance (numbers ++ 0 ∷ []) v ∷ []

-- The instances of a column of the four ports.
abbrev pub of_ports : List ℕ → Value → Value → Value → Value → List Binding
of_ports numbers v1 v2 v3 v4 =
    bridge_instance (numbers ++ 1 ∷ []) v1 ∷ bridge_instance (numbers ++ 2 ∷ []) v2
    ∷ bridge_instance (numbers ++ 3 ∷ []) v3 ∷ bridge_instance (numbers ++ 4 ∷ []) v4 ∷ []

-- The instances of a column of the two learned addresses.
abbrev pub of_addresses : List ℕ → Value → Value → List Binding
of_addresses numbers v1 v2 =
    bridge_instance (numbers ++ 0 ∷ 16 ∷ 32 ∷ 48 ∷ 64 ∷ 80 ∷ []) v1
    ∷ bridge_instance (numbers ++ 2 ∷ 0 ∷ 0 ∷ 0 ∷ 0 ∷ 1 ∷ []) v2 ∷ []

-- The instances of a column of the two made static rows.
abbrev pub of_statics : List ℕ → Value → Value → List Binding
of_statics numbers v1 v2 =
    bridge_instance (numbers ++ 1 ∷ 128 ∷ 194 ∷ 0 ∷ 0 ∷ 32 ∷ 2 ∷ []) v1
    ∷ bridge_instance (numbers ++ 2 ∷ 0 ∷ 0 ∷ 0 ∷ 0 ∷ 7 ∷ 0 ∷ []) v2 ∷ []

-- dot1dBase
abbrev pub base_in_use : List Binding
base_in_use =
    of_scalar (1 ∷ 1 ∷ []) (OctetString (2 ∷ 17 ∷ 34 ∷ 51 ∷ 68 ∷ 85 ∷ []))
    ++ of_scalar (1 ∷ 2 ∷ []) (number 4)
    ++ of_scalar (1 ∷ 3 ∷ []) (number 2)
    ++ of_ports (1 ∷ 4 ∷ 1 ∷ 1 ∷ []) (number 1) (number 2) (number 3) (number 4)
    ++ of_ports (1 ∷ 4 ∷ 1 ∷ 2 ∷ []) (number 11) (number 12) (number 13) (number 14)
    ++ of_ports (1 ∷ 4 ∷ 1 ∷ 3 ∷ []) (ObjectIdentifier (0 ∷ 0 ∷ [])) (ObjectIdentifier (0 ∷ 0 ∷ []))
    (ObjectIdentifier (0 ∷ 0 ∷ [])) (ObjectIdentifier (0 ∷ 0 ∷ []))
    ++ of_ports (1 ∷ 4 ∷ 1 ∷ 4 ∷ []) (Counter32 0) (Counter32 0) (Counter32 0) (Counter32 0)
    ++ of_ports (1 ∷ 4 ∷ 1 ∷ 5 ∷ []) (Counter32 0) (Counter32 0) (Counter32 0) (Counter32 0)

-- The scalars of dot1dStp in front of its table
abbrev pub stp_in_use : List Binding
stp_in_use =
    of_scalar (2 ∷ 1 ∷ []) (number 3)
    ++ of_scalar (2 ∷ 2 ∷ []) (number 12288)
    ++ of_scalar (2 ∷ 3 ∷ []) (TimeTicks 5032704)
    ++ of_scalar (2 ∷ 4 ∷ []) (Counter32 77)
    ++ of_scalar (2 ∷ 5 ∷ []) (OctetString (18 ∷ 52 ∷ 0 ∷ 1 ∷ 2 ∷ 3 ∷ 4 ∷ 50 ∷ []))
    ++ of_scalar (2 ∷ 6 ∷ []) (number 2147483647)
    ++ of_scalar (2 ∷ 7 ∷ []) (number 3)
    ++ of_scalar (2 ∷ 8 ∷ []) (number 1562)
    ++ of_scalar (2 ∷ 9 ∷ []) (number 117)
    ++ of_scalar (2 ∷ 10 ∷ []) (number 100)
    ++ of_scalar (2 ∷ 11 ∷ []) (number 1172)
    ++ of_scalar (2 ∷ 12 ∷ []) (number 1800)
    ++ of_scalar (2 ∷ 13 ∷ []) (number 100)
    ++ of_scalar (2 ∷ 14 ∷ []) (number 1200)

-- dot1dStpPortTable
abbrev pub stp_ports_in_use : List Binding
stp_ports_in_use =
    of_ports (2 ∷ 15 ∷ 1 ∷ 1 ∷ []) (number 1) (number 2) (number 3) (number 4)
    ++ of_ports (2 ∷ 15 ∷ 1 ∷ 2 ∷ []) (number 16) (number 32) (number 48) (number 240)
    ++ of_ports (2 ∷ 15 ∷ 1 ∷ 3 ∷ []) (number 5) (number 1) (number 4) (number 2)
    ++ of_ports (2 ∷ 15 ∷ 1 ∷ 4 ∷ []) (number 1) (number 2) (number 1) (number 1)
    ++ of_ports (2 ∷ 15 ∷ 1 ∷ 5 ∷ []) (number 65535) (number 700) (number 20000) (number 65535)
    ++ of_ports (2 ∷ 15 ∷ 1 ∷ 6 ∷ [])
    (OctetString (1 ∷ 1 ∷ 0 ∷ 1 ∷ 2 ∷ 3 ∷ 4 ∷ 10 ∷ []))
    (OctetString (2 ∷ 2 ∷ 0 ∷ 1 ∷ 2 ∷ 3 ∷ 4 ∷ 20 ∷ []))
    (OctetString (3 ∷ 3 ∷ 0 ∷ 1 ∷ 2 ∷ 3 ∷ 4 ∷ 30 ∷ []))
    (OctetString (4 ∷ 4 ∷ 0 ∷ 1 ∷ 2 ∷ 3 ∷ 4 ∷ 40 ∷ []))
    ++ of_ports (2 ∷ 15 ∷ 1 ∷ 7 ∷ []) (number 10) (number 20) (number 2147483647) (number 40)
    ++ of_ports (2 ∷ 15 ∷ 1 ∷ 8 ∷ [])
    (OctetString (16 ∷ 0 ∷ 2 ∷ 9 ∷ 8 ∷ 7 ∷ 6 ∷ 10 ∷ []))
    (OctetString (32 ∷ 0 ∷ 2 ∷ 9 ∷ 8 ∷ 7 ∷ 6 ∷ 20 ∷ []))
    (OctetString (48 ∷ 0 ∷ 2 ∷ 9 ∷ 8 ∷ 7 ∷ 6 ∷ 30 ∷ []))
    (OctetString (64 ∷ 0 ∷ 2 ∷ 9 ∷ 8 ∷ 7 ∷ 6 ∷ 40 ∷ []))
    ++ of_ports (2 ∷ 15 ∷ 1 ∷ 9 ∷ []) (OctetString (128 ∷ 1 ∷ [])) (OctetString (16 ∷ 2 ∷ []))
    (OctetString (32 ∷ 3 ∷ [])) (OctetString (240 ∷ 4 ∷ []))
    ++ of_ports (2 ∷ 15 ∷ 1 ∷ 10 ∷ []) (Counter32 51) (Counter32 52) (Counter32 53) (Counter32 54)
    ++ of_ports (2 ∷ 15 ∷ 1 ∷ 11 ∷ []) (number 2000000) (number 700) (number 20000) (number 65536)

-- dot1dStpVersion, dot1dStpTxHoldCount and dot1dStpExtPortTable
abbrev pub rapid_in_use : List Binding
rapid_in_use =
    of_scalar (2 ∷ 16 ∷ []) (number 0)
    ++ of_scalar (2 ∷ 17 ∷ []) (number 3)
    ++ of_ports (2 ∷ 19 ∷ 1 ∷ 1 ∷ []) (number 2) (number 2) (number 2) (number 2)
    ++ of_ports (2 ∷ 19 ∷ 1 ∷ 2 ∷ []) (number 1) (number 2) (number 2) (number 1)
    ++ of_ports (2 ∷ 19 ∷ 1 ∷ 3 ∷ []) (number 2) (number 2) (number 1) (number 1)
    ++ of_ports (2 ∷ 19 ∷ 1 ∷ 4 ∷ []) (number 2) (number 2) (number 0) (number 1)
    ++ of_ports (2 ∷ 19 ∷ 1 ∷ 5 ∷ []) (number 2) (number 1) (number 1) (number 2)
    ++ of_ports (2 ∷ 19 ∷ 1 ∷ 6 ∷ []) (number 0) (number 700) (number 0) (number 65536)

-- dot1dTp
abbrev pub tp_in_use : List Binding
tp_in_use =
    of_scalar (4 ∷ 1 ∷ []) (Counter32 9)
    ++ of_scalar (4 ∷ 2 ∷ []) (number 600)
    ++ of_addresses (4 ∷ 3 ∷ 1 ∷ 1 ∷ []) (OctetString (0 ∷ 16 ∷ 32 ∷ 48 ∷ 64 ∷ 80 ∷ []))
    (OctetString (2 ∷ 0 ∷ 0 ∷ 0 ∷ 0 ∷ 1 ∷ []))
    ++ of_addresses (4 ∷ 3 ∷ 1 ∷ 2 ∷ []) (number 4) (number 1)
    ++ of_addresses (4 ∷ 3 ∷ 1 ∷ 3 ∷ []) (number 3) (number 3)
    ++ of_ports (4 ∷ 4 ∷ 1 ∷ 1 ∷ []) (number 1) (number 2) (number 3) (number 4)
    ++ of_ports (4 ∷ 4 ∷ 1 ∷ 2 ∷ []) (number 1500) (number 1500) (number 1500) (number 1500)
    ++ of_ports (4 ∷ 4 ∷ 1 ∷ 3 ∷ []) (Counter32 61) (Counter32 62) (Counter32 63) (Counter32 64)
    ++ of_ports (4 ∷ 4 ∷ 1 ∷ 4 ∷ []) (Counter32 71) (Counter32 72) (Counter32 73) (Counter32 74)
    ++ of_ports (4 ∷ 4 ∷ 1 ∷ 5 ∷ []) (Counter32 81) (Counter32 82) (Counter32 83) (Counter32 84)

-- dot1dStaticTable
abbrev pub static_in_use : List Binding
static_in_use =
    of_statics (5 ∷ 1 ∷ 1 ∷ 1 ∷ []) (OctetString (1 ∷ 128 ∷ 194 ∷ 0 ∷ 0 ∷ 32 ∷ []))
    (OctetString (2 ∷ 0 ∷ 0 ∷ 0 ∷ 0 ∷ 7 ∷ []))
    ++ of_statics (5 ∷ 1 ∷ 1 ∷ 2 ∷ []) (number 2) (number 0)
    ++ of_statics (5 ∷ 1 ∷ 1 ∷ 3 ∷ []) (OctetString (160 ∷ [])) (OctetString (0 ∷ []))
    ++ of_statics (5 ∷ 1 ∷ 1 ∷ 4 ∷ []) (number 3) (number 3)

-- An instance of vacmViewTreeFamilyEntry.
abbrev pub family_instance : ℕ → List ℕ → Value → Binding
family_instance column index v = record {
  name = (1 ∷ 3 ∷ 6 ∷ 1 ∷ 6 ∷ 3 ∷ 16 ∷ 1 ∷ 5 ∷ 2 ∷ 1 ∷ column ∷ []) ++ index;
  value = v;
}

-- The instances of a column of the three families.
abbrev pub of_families : ℕ → Value → Value → Value → List Binding
of_families column v1 v2 v3 =
    family_instance column (3 ∷ 111 ∷ 112 ∷ 115 ∷ 6 ∷ 1 ∷ 3 ∷ 6 ∷ 1 ∷ 6 ∷ 3 ∷ []) v1
    ∷ family_instance column (3 ∷ 111 ∷ 112 ∷ 115 ∷ 8 ∷ 1 ∷ 3 ∷ 6 ∷ 1 ∷ 2 ∷ 1 ∷ 17 ∷ 4 ∷ []) v2
    ∷ family_instance column
    (4 ∷ 119 ∷ 105 ∷ 100 ∷ 101 ∷ 7 ∷ 1 ∷ 3 ∷ 6 ∷ 1 ∷ 2 ∷ 1 ∷ 17 ∷ []) v3 ∷ []

-- vacmViewTreeFamilyTable
abbrev pub family_in_use : List Binding
family_in_use =
    of_families 3 (OctetString []) (OctetString (255 ∷ [])) (OctetString (254 ∷ 0 ∷ []))
    ++ of_families 4 (number 1) (number 2) (number 1)

-- All its instances, by rising name.
unfoldable pub instances_in_use : List Binding
instances_in_use =
    base_in_use ++ stp_in_use ++ stp_ports_in_use ++ rapid_in_use ++ tp_in_use ++ static_in_use
    ++ family_in_use
