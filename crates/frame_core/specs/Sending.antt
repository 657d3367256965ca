-- The octets of the frame in which a BPDU is sent (IEEE 802.1D-2004, 7.12, 9.2 and 9.3; IEEE 802.3,
-- 3.2).
use Rattle.std.specs.Prelude.{◌≡◌, ℕ, ◌+◌, ◌*◌, ◌-◌, ◌^◌, ◌<◌, Bool, length, List, [], ◌∷◌, ◌++◌, replicate, if◌then◌else◌}
use Rattle.byteorder.specs.Endian.{big_bytes}
use Rattle.frame_core.specs.Layout.{role_number}
use Rattle.frame_core.specs.declared.mac.Mac.{Mac}
use Rattle.frame_core.specs.declared.mac.TheConstants.{BRIDGE_GROUP}
use Rattle.frame_core.specs.declared.frame.TheConstants.{SENT_FRAME_LEN}
use Rattle.frame_core.specs.declared.layout.TheConstants.{HEADER_LEN}
use Rattle.frame_core.specs.declared.bpdu.BridgeId.{BridgeId}
use Rattle.frame_core.specs.declared.bpdu.PriorityVector.{PriorityVector}
use Rattle.frame_core.specs.declared.bpdu.Times.{Times}
use Rattle.frame_core.specs.declared.bpdu.Config.{Config as ConfigFields}
use Rattle.frame_core.specs.declared.bpdu.Rapid.{Rapid as RapidFields}
use Rattle.frame_core.specs.declared.bpdu.Bpdu.{Bpdu}
use Rattle.frame_core.specs.declared.bpdu.Bpdu.TheVariants.{Config, TopologyChange, Rapid}

-- a bridge identifier (9.2.5)
unfoldable pub bridge_id_octets : BridgeId → List ℕ
bridge_id_octets id = big_bytes 2 id.priority ++ id.address.0

-- the root identifier and the root path cost (9.2.5, 9.2.6)
unfoldable pub root_octets : PriorityVector → List ℕ
root_octets v = bridge_id_octets v.root ++ big_bytes 4 v.cost

-- the bridge identifier and the port identifier (9.2.5, 9.2.7)
unfoldable pub sender_octets : PriorityVector → List ℕ
sender_octets v = bridge_id_octets v.bridge ++ big_bytes 2 v.port

unfoldable pub vector_octets : PriorityVector → List ℕ
vector_octets v = root_octets v ++ sender_octets v

-- the times (9.2.8)
unfoldable pub times_octets : Times → List ℕ
times_octets t = (big_bytes 2 t.message_age ++ big_bytes 2 t.max_age) ++ (big_bytes 2 t.hello ++ big_bytes 2 t.forward_delay)

unfoldable pub body_octets : PriorityVector → Times → List ℕ
body_octets v t = vector_octets v ++ times_octets t

-- the protocol identifier 0, the version, the type and the flags (9.3.1, 9.3.3)
unfoldable pub head_octets : ℕ → ℕ → ℕ → List ℕ
head_octets version kind flags = 0 ∷ 0 ∷ version ∷ kind ∷ flags ∷ []

-- what a flag adds to the octet of flags
abbrev pub weight : Bool → ℕ → ℕ
weight is_set bit = if is_set then 2 ^ bit else 0

-- the flags, with every other bit 0
unfoldable pub config_flags : ConfigFields → ℕ
config_flags c = weight c.topology_change 0 + weight c.proposal 1 + weight c.acknowledge 7

unfoldable pub rapid_flags : RapidFields → ℕ
rapid_flags r =
    weight r.topology_change 0 + weight r.proposal 1 + role_number r.role * 4 + weight r.learning 4 + weight r.forwarding 5 + weight r.agreement 6

-- a Configuration BPDU of version 0 (9.3.1)
unfoldable pub config_octets : ConfigFields → List ℕ
config_octets c = head_octets 0 0 (config_flags c) ++ body_octets c.vector c.times

-- an RST BPDU of version 2, whose version 1 length is 0 (9.3.3)
unfoldable pub rapid_octets : RapidFields → List ℕ
rapid_octets r = head_octets 2 2 (rapid_flags r) ++ body_octets r.vector r.times ++ 0 ∷ []

-- a BPDU, and how many octets it has
abbrev pub bpdu_octets : Bpdu → List ℕ
bpdu_octets (Config c) = config_octets c
bpdu_octets TopologyChange = 0 ∷ 0 ∷ 0 ∷ 0x80 ∷ []
bpdu_octets (Rapid r) = rapid_octets r

abbrev pub bpdu_len : Bpdu → ℕ
bpdu_len (Config c) = 35
bpdu_len TopologyChange = 4
bpdu_len (Rapid r) = 36

-- the bridges' group address and the sender's
unfoldable pub address_octets : Mac → List ℕ
address_octets source = BRIDGE_GROUP.0 ++ source.0

-- the length field and the LLC header, 42 42 03
unfoldable pub llc_octets : ℕ → List ℕ
llc_octets len = big_bytes 2 len ++ 0x42 ∷ 0x42 ∷ 0x03 ∷ []

unfoldable pub header_octets : Mac → ℕ → List ℕ
header_octets source len = address_octets source ++ llc_octets len

-- the whole frame, with its header and padded by 00: the length counts the LLC header and the BPDU
unfoldable pub frame_octets : Mac → Bpdu → List ℕ
frame_octets source b = header_octets source (3 + bpdu_len b) ++ bpdu_octets b ++ replicate (SENT_FRAME_LEN - HEADER_LEN - bpdu_len b) 0

-- what the fields of a BPDU are in octets: numbers of two and four octets, and addresses of six
pub record FitsBridgeId (id : BridgeId) : Type 0 where
  pub priority : id.priority < 2 ^ 16
  pub address : length id.address.0 ≡ 6

pub record FitsVector (v : PriorityVector) : Type 0 where
  pub root : FitsBridgeId v.root
  pub cost : v.cost < 2 ^ 32
  pub bridge : FitsBridgeId v.bridge
  pub port : v.port < 2 ^ 16

pub record FitsTimes (t : Times) : Type 0 where
  pub message_age : t.message_age < 2 ^ 16
  pub max_age : t.max_age < 2 ^ 16
  pub hello : t.hello < 2 ^ 16
  pub forward_delay : t.forward_delay < 2 ^ 16

abbrev pub FitsBpdu : Bpdu → Type 0
FitsBpdu (Config c) = FitsVector c.vector × FitsTimes c.times
FitsBpdu TopologyChange = Unit {0}
FitsBpdu (Rapid r) = FitsVector r.vector × FitsTimes r.times
