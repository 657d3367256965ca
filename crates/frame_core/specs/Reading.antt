-- What a frame is read as, a function of its octets: what kind of BPDU they are, and its fields by
-- their places (IEEE 802.1D-2004, 9.2 and 9.3). Places count from 0 here, and from 1 in the
-- standard.
use Rattle.std.specs.Prelude.{ℕ, ◌+◌, ◌/◌, ◌%◌, ◌==◌, ◌&&◌, Bool, nat_le, nat_lt, if◌then◌else◌, List, [], ◌∷◌, length, take, drop, slice_index, Option, Some, None, Result, Ok, Err}
use Rattle.std.specs.Str.{bytes_eq}
use Rattle.frame_core.specs.declared.frame.TheConstants.{MIN_FRAME_LEN, MAX_FRAME_LEN}
use Rattle.frame_core.specs.declared.layout.TheConstants.{MAX_LENGTH}
use Rattle.frame_core.specs.Octets.{number_at, has_bit}
use Rattle.frame_core.specs.declared.mac.Mac.{Mac}
use Rattle.frame_core.specs.declared.mac.TheConstants.{BRIDGE_GROUP}
use Rattle.frame_core.specs.declared.bpdu.BridgeId.{BridgeId}
use Rattle.frame_core.specs.declared.bpdu.PriorityVector.{PriorityVector}
use Rattle.frame_core.specs.declared.bpdu.Times.{Times}
use Rattle.frame_core.specs.declared.bpdu.PortRole.{PortRole}
use Rattle.frame_core.specs.declared.bpdu.PortRole.TheVariants as roles
use Rattle.frame_core.specs.declared.bpdu.Config.{Config as ConfigFields}
use Rattle.frame_core.specs.declared.bpdu.Rapid.{Rapid as RapidFields}
use Rattle.frame_core.specs.declared.bpdu.Bpdu.{Bpdu}
use Rattle.frame_core.specs.declared.bpdu.Bpdu.TheVariants.{Config, TopologyChange, Rapid}
use Rattle.frame_core.specs.declared.frame.FrameIn.{FrameIn}
use Rattle.frame_core.specs.declared.fault.FrameFault.{FrameFault}
use Rattle.frame_core.specs.declared.fault.FrameFault.TheVariants.{Short, TooLong, BadBpdu}

-- six octets of an address
abbrev pub mac_at : List ℕ → ℕ → Mac
mac_at octets place = record { 0 = take 6 (drop place octets) }

-- a bridge identifier: two octets of priority and six of address (9.2.5)
abbrev pub bridge_id_at : List ℕ → ℕ → BridgeId
bridge_id_at octets place =
    record { priority = number_at octets place 2; address = mac_at octets (place + 2) }

-- the root identifier, the root path cost, the bridge identifier and the port identifier of a BPDU
-- (9.3.1)
unfoldable pub vector_in : List ℕ → PriorityVector
vector_in octets = record {
  root = bridge_id_at octets 5;
  cost = number_at octets 13 4;
  bridge = bridge_id_at octets 17;
  port = number_at octets 25 2;
}

-- its times, in 1/256 second
unfoldable pub times_in : List ℕ → Times
times_in octets = record {
  message_age = number_at octets 27 2;
  max_age = number_at octets 29 2;
  hello = number_at octets 31 2;
  forward_delay = number_at octets 33 2;
}

-- a role by its number (9.2.9)
abbrev pub role_of : ℕ → PortRole
role_of number =
    if number == 0 then roles.Unknown else if number == 1 then roles.AlternateOrBackup else if number == 2 then roles.Root else roles.Designated

-- a Configuration BPDU (9.3.1)
unfoldable pub config_in : List ℕ → ConfigFields
config_in octets =
    let flags = slice_index octets 4 in
    record {
      topology_change = has_bit flags 0;
      proposal = has_bit flags 1;
      acknowledge = has_bit flags 7;
      vector = vector_in octets;
      times = times_in octets;
    }

-- an RST BPDU (9.3.3)
unfoldable pub rapid_in : List ℕ → RapidFields
rapid_in octets =
    let flags = slice_index octets 4 in
    record {
      topology_change = has_bit flags 0;
      proposal = has_bit flags 1;
      role = role_of (flags / 4 % 4);
      learning = has_bit flags 4;
      forwarding = has_bit flags 5;
      agreement = has_bit flags 6;
      vector = vector_in octets;
      times = times_in octets;
    }

-- at least so many octets, of the protocol identifier 0 (9.2.1) and of this type (9.2.3)
abbrev pub has_kind : List ℕ → ℕ → ℕ → Bool
has_kind octets least kind =
    nat_le least (length octets) && (number_at octets 0 2 == 0 && slice_index octets 3 == kind)

abbrev pub is_config : List ℕ → Bool
is_config octets = has_kind octets 35 0

abbrev pub is_notice : List ℕ → Bool
is_notice octets = has_kind octets 4 128

abbrev pub is_rapid : List ℕ → Bool
is_rapid octets = has_kind octets 36 2 && nat_le 2 (slice_index octets 2)

-- the BPDU that octets encode (9.3.4)
unfoldable pub bpdu_in : List ℕ → Option Bpdu
bpdu_in octets =
    if is_config octets then Some (Config (config_in octets))
    else if is_notice octets then Some TopologyChange
    else if is_rapid octets then Some (Rapid (rapid_in octets))
    else None

-- what the length field of a frame counts
abbrev pub content_of : List ℕ → List ℕ
content_of frame = take (number_at frame 12 2) (drop MIN_FRAME_LEN frame)

-- the length field counts at most 1,500 octets, all of them there, and they begin with the LLC
-- header 42 42 03
abbrev pub has_llc : List ℕ → Bool
has_llc frame =
    nat_le (number_at frame 12 2) MAX_LENGTH
    && (nat_le (MIN_FRAME_LEN + number_at frame 12 2) (length frame) && bytes_eq (take 3 (content_of frame)) (0x42 ∷ 0x42 ∷ 0x03 ∷ []))

-- the BPDU that a frame carries
unfoldable pub carried_in : List ℕ → Option Bpdu
carried_in frame = if has_llc frame then bpdu_in (drop 3 (content_of frame)) else None

-- the two addresses, and what else is read
abbrev pub frame_with : List ℕ → Option Bpdu → FrameIn
frame_with frame b = record { destination = mac_at frame 0; source = mac_at frame 6; bpdu = b }

-- a frame to the bridges' group address, by the BPDU that it carries
abbrev pub to_bridges : List ℕ → Option Bpdu → Result FrameIn FrameFault
to_bridges frame None = Err BadBpdu
to_bridges frame (Some b) = Ok (frame_with frame (Some b))

-- whether a frame goes to the bridges' group address
abbrev pub is_to_bridges : List ℕ → Bool
is_to_bridges frame = bytes_eq (take 6 frame) BRIDGE_GROUP.0

-- what a bridge reads of a frame, or why not
unfoldable pub frame_at : List ℕ → Result FrameIn FrameFault
frame_at octets =
    if nat_lt (length octets) MIN_FRAME_LEN then Err Short
    else if nat_lt MAX_FRAME_LEN (length octets) then Err TooLong
    else if is_to_bridges octets then to_bridges octets (carried_in octets)
    else Ok (frame_with octets None)
