-- What a bridge of two ports shows as it opens, all its instances: of the address
-- 02-00-00-00-00-0A, its ports of 1000 Mb/s and full duplex, with the interface numbers 1 and 2, and
-- no families in its policy.
use Rattle.std.specs.Prelude.{ℕ, true, List, [], ◌∷◌}
use Rattle.rstp_settings.specs.declared.config.PortConfig.{PortConfig}
use Rattle.community_core.specs.Communities.{PolicyTables}
use Rattle.message_core.specs.declared.binding.Binding.{Binding}
use Rattle.message_core.specs.declared.value.Value.{Value}
use Rattle.message_core.specs.declared.value.Value.TheVariants.{OctetString, ObjectIdentifier, Counter32, TimeTicks}
use Rattle.bridge_core.specs.Opening.{opening_bridge}
use Rattle.setphase_core.specs.declared.world.World.{World}
use Rattle.setphase_core.specs.Columns.{number}
use Rattle.setphase_core.specs.Names.{bridge_name}

abbrev pub two_ports : List PortConfig
two_ports =
    record { ifindex = 1; speed = 1000; full = true }
    ∷ record { ifindex = 2; speed = 1000; full = true } ∷ []

-- The world of such a bridge, whatever its policy, as it opens.
abbrev pub opening_world : PolicyTables → World
opening_world policy = record {
  bridge = opening_bridge (record { 0 = 2 ∷ 0 ∷ 0 ∷ 0 ∷ 0 ∷ 10 ∷ [] }) two_ports;
  policy = policy;
  bad_communities = 0;
  unknown_contexts = 0;
}

-- An instance under dot1dBridge.
abbrev pub bridge_instance : List ℕ → Value → Binding
bridge_instance numbers v = record { name = bridge_name numbers; value = v }

-- The bridge identifier of the bridge itself.
abbrev pub own_id : List ℕ
own_id = 128 ∷ 0 ∷ 2 ∷ 0 ∷ 0 ∷ 0 ∷ 0 ∷ 10 ∷ []

unfoldable pub opening_instances : List Binding
opening_instances =
    (bridge_instance (1 ∷ 1 ∷ 0 ∷ []) (OctetString (2 ∷ 0 ∷ 0 ∷ 0 ∷ 0 ∷ 10 ∷ []))
    ∷ bridge_instance (1 ∷ 2 ∷ 0 ∷ []) (number 2)
    ∷ bridge_instance (1 ∷ 3 ∷ 0 ∷ []) (number 2)
    ∷ bridge_instance (1 ∷ 4 ∷ 1 ∷ 1 ∷ 1 ∷ []) (number 1)
    ∷ bridge_instance (1 ∷ 4 ∷ 1 ∷ 1 ∷ 2 ∷ []) (number 2)
    ∷ bridge_instance (1 ∷ 4 ∷ 1 ∷ 2 ∷ 1 ∷ []) (number 1)
    ∷ bridge_instance (1 ∷ 4 ∷ 1 ∷ 2 ∷ 2 ∷ []) (number 2)
    ∷ bridge_instance (1 ∷ 4 ∷ 1 ∷ 3 ∷ 1 ∷ []) (ObjectIdentifier (0 ∷ 0 ∷ []))
    ∷ bridge_instance (1 ∷ 4 ∷ 1 ∷ 3 ∷ 2 ∷ []) (ObjectIdentifier (0 ∷ 0 ∷ []))
    ∷ bridge_instance (1 ∷ 4 ∷ 1 ∷ 4 ∷ 1 ∷ []) (Counter32 0)
    ∷ bridge_instance (1 ∷ 4 ∷ 1 ∷ 4 ∷ 2 ∷ []) (Counter32 0)
    ∷ bridge_instance (1 ∷ 4 ∷ 1 ∷ 5 ∷ 1 ∷ []) (Counter32 0)
    ∷ bridge_instance (1 ∷ 4 ∷ 1 ∷ 5 ∷ 2 ∷ []) (Counter32 0)
    ∷ bridge_instance (2 ∷ 1 ∷ 0 ∷ []) (number 3)
    ∷ bridge_instance (2 ∷ 2 ∷ 0 ∷ []) (number 32768)
    ∷ bridge_instance (2 ∷ 3 ∷ 0 ∷ []) (TimeTicks 0)
    ∷ bridge_instance (2 ∷ 4 ∷ 0 ∷ []) (Counter32 0)
    ∷ bridge_instance (2 ∷ 5 ∷ 0 ∷ []) (OctetString own_id)
    ∷ bridge_instance (2 ∷ 6 ∷ 0 ∷ []) (number 0)
    ∷ bridge_instance (2 ∷ 7 ∷ 0 ∷ []) (number 0)
    ∷ bridge_instance (2 ∷ 8 ∷ 0 ∷ []) (number 2000)
    ∷ bridge_instance (2 ∷ 9 ∷ 0 ∷ []) (number 200)
    ∷ bridge_instance (2 ∷ 10 ∷ 0 ∷ []) (number 100)
    ∷ bridge_instance (2 ∷ 11 ∷ 0 ∷ []) (number 1500)
    ∷ bridge_instance (2 ∷ 12 ∷ 0 ∷ []) (number 2000)
    ∷ bridge_instance (2 ∷ 13 ∷ 0 ∷ []) (number 200)
    ∷ bridge_instance (2 ∷ 14 ∷ 0 ∷ []) (number 1500)
    ∷ bridge_instance (2 ∷ 15 ∷ 1 ∷ 1 ∷ 1 ∷ []) (number 1)
    ∷ bridge_instance (2 ∷ 15 ∷ 1 ∷ 1 ∷ 2 ∷ []) (number 2)
    ∷ bridge_instance (2 ∷ 15 ∷ 1 ∷ 2 ∷ 1 ∷ []) (number 128)
    ∷ bridge_instance (2 ∷ 15 ∷ 1 ∷ 2 ∷ 2 ∷ []) (number 128)
    ∷ bridge_instance (2 ∷ 15 ∷ 1 ∷ 3 ∷ 1 ∷ []) (number 1)
    ∷ bridge_instance (2 ∷ 15 ∷ 1 ∷ 3 ∷ 2 ∷ []) (number 1)
    ∷ bridge_instance (2 ∷ 15 ∷ 1 ∷ 4 ∷ 1 ∷ []) (number 1)
    ∷ bridge_instance (2 ∷ 15 ∷ 1 ∷ 4 ∷ 2 ∷ []) (number 1)
    ∷ bridge_instance (2 ∷ 15 ∷ 1 ∷ 5 ∷ 1 ∷ []) (number 20000)
    ∷ bridge_instance (2 ∷ 15 ∷ 1 ∷ 5 ∷ 2 ∷ []) (number 20000)
    ∷ bridge_instance (2 ∷ 15 ∷ 1 ∷ 6 ∷ 1 ∷ []) (OctetString own_id)
    ∷ bridge_instance (2 ∷ 15 ∷ 1 ∷ 6 ∷ 2 ∷ []) (OctetString own_id)
    ∷ bridge_instance (2 ∷ 15 ∷ 1 ∷ 7 ∷ 1 ∷ []) (number 0)
    ∷ bridge_instance (2 ∷ 15 ∷ 1 ∷ 7 ∷ 2 ∷ []) (number 0)
    ∷ bridge_instance (2 ∷ 15 ∷ 1 ∷ 8 ∷ 1 ∷ []) (OctetString own_id)
    ∷ bridge_instance (2 ∷ 15 ∷ 1 ∷ 8 ∷ 2 ∷ []) (OctetString own_id)
    ∷ bridge_instance (2 ∷ 15 ∷ 1 ∷ 9 ∷ 1 ∷ []) (OctetString (128 ∷ 1 ∷ []))
    ∷ bridge_instance (2 ∷ 15 ∷ 1 ∷ 9 ∷ 2 ∷ []) (OctetString (128 ∷ 2 ∷ []))
    ∷ bridge_instance (2 ∷ 15 ∷ 1 ∷ 10 ∷ 1 ∷ []) (Counter32 0)
    ∷ bridge_instance (2 ∷ 15 ∷ 1 ∷ 10 ∷ 2 ∷ []) (Counter32 0)
    ∷ bridge_instance (2 ∷ 15 ∷ 1 ∷ 11 ∷ 1 ∷ []) (number 20000)
    ∷ bridge_instance (2 ∷ 15 ∷ 1 ∷ 11 ∷ 2 ∷ []) (number 20000)
    ∷ bridge_instance (2 ∷ 16 ∷ 0 ∷ []) (number 2)
    ∷ bridge_instance (2 ∷ 17 ∷ 0 ∷ []) (number 6)
    ∷ bridge_instance (2 ∷ 19 ∷ 1 ∷ 1 ∷ 1 ∷ []) (number 2)
    ∷ bridge_instance (2 ∷ 19 ∷ 1 ∷ 1 ∷ 2 ∷ []) (number 2)
    ∷ bridge_instance (2 ∷ 19 ∷ 1 ∷ 2 ∷ 1 ∷ []) (number 2)
    ∷ bridge_instance (2 ∷ 19 ∷ 1 ∷ 2 ∷ 2 ∷ []) (number 2)
    ∷ bridge_instance (2 ∷ 19 ∷ 1 ∷ 3 ∷ 1 ∷ []) (number 2)
    ∷ bridge_instance (2 ∷ 19 ∷ 1 ∷ 3 ∷ 2 ∷ []) (number 2)
    ∷ bridge_instance (2 ∷ 19 ∷ 1 ∷ 4 ∷ 1 ∷ []) (number 2)
    ∷ bridge_instance (2 ∷ 19 ∷ 1 ∷ 4 ∷ 2 ∷ []) (number 2)
    ∷ bridge_instance (2 ∷ 19 ∷ 1 ∷ 5 ∷ 1 ∷ []) (number 1)
    ∷ bridge_instance (2 ∷ 19 ∷ 1 ∷ 5 ∷ 2 ∷ []) (number 1)
    ∷ bridge_instance (2 ∷ 19 ∷ 1 ∷ 6 ∷ 1 ∷ []) (number 0)
    ∷ bridge_instance (2 ∷ 19 ∷ 1 ∷ 6 ∷ 2 ∷ []) (number 0)
    ∷ bridge_instance (4 ∷ 1 ∷ 0 ∷ []) (Counter32 0)
    ∷ bridge_instance (4 ∷ 2 ∷ 0 ∷ []) (number 300)
    ∷ bridge_instance (4 ∷ 4 ∷ 1 ∷ 1 ∷ 1 ∷ []) (number 1)
    ∷ bridge_instance (4 ∷ 4 ∷ 1 ∷ 1 ∷ 2 ∷ []) (number 2)
    ∷ bridge_instance (4 ∷ 4 ∷ 1 ∷ 2 ∷ 1 ∷ []) (number 1500)
    ∷ bridge_instance (4 ∷ 4 ∷ 1 ∷ 2 ∷ 2 ∷ []) (number 1500)
    ∷ bridge_instance (4 ∷ 4 ∷ 1 ∷ 3 ∷ 1 ∷ []) (Counter32 0)
    ∷ bridge_instance (4 ∷ 4 ∷ 1 ∷ 3 ∷ 2 ∷ []) (Counter32 0)
    ∷ bridge_instance (4 ∷ 4 ∷ 1 ∷ 4 ∷ 1 ∷ []) (Counter32 0)
    ∷ bridge_instance (4 ∷ 4 ∷ 1 ∷ 4 ∷ 2 ∷ []) (Counter32 0)
    ∷ bridge_instance (4 ∷ 4 ∷ 1 ∷ 5 ∷ 1 ∷ []) (Counter32 0)
    ∷ bridge_instance (4 ∷ 4 ∷ 1 ∷ 5 ∷ 2 ∷ []) (Counter32 0)
    ∷ [])
