-- Sets of ports, by which frames may go out (IEEE 802.1D-2004 7.9.1; RFC 4188
-- dot1dStaticAllowedToGoTo).
use Rattle.std.specs.Prelude.{◌≡◌, ℕ, ◌+◌, ◌-◌, ◌*◌, ◌/◌, ◌%◌, ◌<◌, Bool, false, nat_lt, if◌then◌else◌, List, length, fold, map, take, drop, slice_index_or}
use Rattle.std.specs.List.{range_with_len, list_any, list_all}
use Rattle.frame_core.specs.Octets.{has_bit}
use Rattle.fdb_core.specs.declared.port_set.PortSet.{PortSet}
use Rattle.fdb_core.specs.declared.port_set.TheConstants.{MAX_SET_PORTS}

-- whether a port is in the set: ports are numbered from 1
abbrev pub has_port : PortSet → ℕ → Bool
has_port s port = slice_index_or s.0 (port - 1) false

-- the ports from 1 to the count
abbrev pub first_ports : ℕ → PortSet
first_ports count = record { 0 = map (λ k. nat_lt k count) (range_with_len 0 MAX_SET_PORTS) }

-- whether each of so many ports is in the set
abbrev pub has_all : ℕ → PortSet → Bool
has_all count s = list_all (λ present. present) (take count s.0)

-- each port of the set is one of so many
pub record IsOfPorts (count : ℕ) (s : PortSet) : Type 0 where
  pub size : length s.0 ≡ MAX_SET_PORTS
  pub within : (port : ℕ) → count < port → has_port s port ≡ false

-- the bit of a place, counted from 0 at the top bit of the first octet, which is that of port 1;
-- a bit that is missing is 0
abbrev pub has_bit_at : List ℕ → ℕ → Bool
has_bit_at octets place = has_bit (slice_index_or octets (place / 8) 0) (7 - place % 8)

-- the ports whose bits are 1
abbrev pub ports_in : List ℕ → PortSet
ports_in octets = record { 0 = map (has_bit_at octets) (range_with_len 0 MAX_SET_PORTS) }

-- whether a bit that is none of so many ports is 1
abbrev pub has_other_port : ℕ → List ℕ → Bool
has_other_port count octets = list_any (has_bit_at octets) (range_with_len count (8 * length octets - count))

-- the octet whose bits these are, the top bit first
abbrev pub octet_of_bits : List Bool → ℕ
octet_of_bits bits = fold (λ octet bit. 2 * octet + (if bit then 1 else 0)) 0 bits

-- a bit for each of so many ports, in as many octets as that takes
abbrev pub octets_of : ℕ → PortSet → List ℕ
octets_of count s =
    map (λ k. octet_of_bits (take 8 (drop (8 * k) s.0))) (range_with_len 0 ((count + 7) / 8))
