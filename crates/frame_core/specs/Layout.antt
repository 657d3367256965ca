-- Where each field of a BPDU stands (IEEE 802.1D-2004, 9.2 and 9.3). Octets count from 0 here, and
-- from 1 in the standard.
use Rattle.std.specs.Prelude.{◌≡◌, ℕ, ◌/◌, ◌%◌, ◌≤◌, List, length, take, drop, slice_index}
use Rattle.frame_core.specs.Octets.{number_at, has_bit}
use Rattle.frame_core.specs.declared.bpdu.BridgeId.{BridgeId}
use Rattle.frame_core.specs.declared.bpdu.PriorityVector.{PriorityVector}
use Rattle.frame_core.specs.declared.bpdu.Times.{Times}
use Rattle.frame_core.specs.declared.bpdu.PortRole.{PortRole}
use Rattle.frame_core.specs.declared.bpdu.PortRole.TheVariants as roles
use Rattle.frame_core.specs.declared.bpdu.Config.{Config as ConfigFields}
use Rattle.frame_core.specs.declared.bpdu.Rapid.{Rapid as RapidFields}
use Rattle.frame_core.specs.declared.bpdu.Bpdu.{Bpdu}
use Rattle.frame_core.specs.declared.bpdu.Bpdu.TheVariants.{Config, TopologyChange, Rapid}

-- A bridge identifier: two octets of priority and six of address (9.2.5).
pub record IsBridgeId (octets : List ℕ) (id : BridgeId) : Type 0 where
  pub priority : id.priority ≡ number_at octets 0 2
  pub address : id.address.0 ≡ take 6 (drop 2 octets)

-- The root identifier, the root path cost, the bridge identifier and the port identifier (9.2.5 to
-- 9.2.7).
pub record IsVector (octets : List ℕ) (v : PriorityVector) : Type 0 where
  pub root : IsBridgeId octets v.root
  pub cost : v.cost ≡ number_at octets 8 4
  pub bridge : IsBridgeId (drop 12 octets) v.bridge
  pub port : v.port ≡ number_at octets 20 2

-- The four times, in 1/256 second (9.2.8).
pub record AreTimes (octets : List ℕ) (t : Times) : Type 0 where
  pub message_age : t.message_age ≡ number_at octets 0 2
  pub max_age : t.max_age ≡ number_at octets 2 2
  pub hello : t.hello ≡ number_at octets 4 2
  pub forward_delay : t.forward_delay ≡ number_at octets 6 2

-- The number of a role (9.2.9).
abbrev pub role_number : PortRole → ℕ
role_number roles.Unknown = 0
role_number roles.AlternateOrBackup = 1
role_number roles.Root = 2
role_number roles.Designated = 3

-- The flags of a Configuration BPDU (9.3.1), with the proposal where an RST BPDU has it. The other
-- bits are not read.
pub record AreConfigFlags (octet : ℕ) (c : ConfigFields) : Type 0 where
  pub topology_change : c.topology_change ≡ has_bit octet 0
  pub proposal : c.proposal ≡ has_bit octet 1
  pub acknowledge : c.acknowledge ≡ has_bit octet 7

-- The flags of an RST BPDU (9.3.3). The role has bits 2 and 3; bit 7 is not read.
pub record AreRapidFlags (octet : ℕ) (r : RapidFields) : Type 0 where
  pub topology_change : r.topology_change ≡ has_bit octet 0
  pub proposal : r.proposal ≡ has_bit octet 1
  pub role : role_number r.role ≡ octet / 4 % 4
  pub learning : r.learning ≡ has_bit octet 4
  pub forwarding : r.forwarding ≡ has_bit octet 5
  pub agreement : r.agreement ≡ has_bit octet 6

-- A Configuration BPDU behind its first four octets (9.3.1): the flags, the vector and the times.
pub record IsConfig (octets : List ℕ) (c : ConfigFields) : Type 0 where
  pub flags : AreConfigFlags (slice_index octets 4) c
  pub vector : IsVector (drop 5 octets) c.vector
  pub times : AreTimes (drop 27 octets) c.times

-- An RST BPDU likewise (9.3.3). Its last octet, the length of what a version 1 would say, is not
-- read.
pub record IsRapid (octets : List ℕ) (r : RapidFields) : Type 0 where
  pub flags : AreRapidFlags (slice_index octets 4) r
  pub vector : IsVector (drop 5 octets) r.vector
  pub times : AreTimes (drop 27 octets) r.times

-- At least so many octets, of which the first two are the protocol identifier 0 (9.2.1) and the
-- fourth is the type (9.2.3).
pub record HasKind (octets : List ℕ) (least kind : ℕ) : Type 0 where
  pub long : least ≤ length octets
  pub protocol : number_at octets 0 2 ≡ 0
  pub kind_is : slice_index octets 3 ≡ kind

-- Octets that encode a BPDU (9.3.4). Octets behind it are not read, nor is the version of the
-- first two kinds.
abbrev pub IsBpdu : List ℕ → Bpdu → Type 0
IsBpdu octets (Config c) = HasKind octets 35 0 × IsConfig octets c
IsBpdu octets TopologyChange = HasKind octets 4 128
IsBpdu octets (Rapid r) = HasKind octets 36 2 × (2 ≤ slice_index octets 2) × IsRapid octets r
