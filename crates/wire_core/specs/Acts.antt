-- What a wire did: each receive and each send is one act. UDP delivers a datagram whole or not at
-- all (RFC 768), so an act speaks of one datagram.
use Rattle.std.specs.Prelude.{ℕ, ◌+◌, ◌≤◌, List, length, take, min, Result, Ok, Err}
use Rattle.std.specs.declared.net.socket_addr.SocketAddr.{SocketAddr}
use Rattle.wire_core.specs.declared.wire.Received.{Received}
use Rattle.wire_core.specs.declared.wire.Received.TheVariants.{Datagram, Nothing, Closed}
use Rattle.wire_core.specs.declared.wire.WireFault.{WireFault}

-- Into space for so many octets came a datagram of this peer, of which these octets have space;
-- nothing came; nothing will come any more; these octets went to this peer; or a fault.
pub data Act : Type 0 where
  got : ℕ → SocketAddr → List ℕ → Act
  quiet : Act
  closed : Act
  sent : SocketAddr → List ℕ → Act
  failed : WireFault → Act

-- What `receive` did, by its answer and the lent slice afterwards.
abbrev pub act_of : Result Received WireFault → List ℕ → Act
act_of (Ok (Datagram n peer)) octets = got (length octets) peer (take n octets)
act_of (Ok Nothing) octets = quiet
act_of (Ok Closed) octets = closed
act_of (Err fault) octets = failed fault

-- What `send` did, by its answer.
abbrev pub sent_act : SocketAddr → List ℕ → Result Unit WireFault → Act
sent_act peer octets (Ok _) = sent peer octets
sent_act peer octets (Err fault) = failed fault

-- A datagram is within the lent slice, which has this length.
abbrev pub IsWithin : ℕ → Received → Type 0
IsWithin space (Datagram n peer) = n ≤ space
IsWithin space Nothing = Unit
IsWithin space Closed = Unit

-- A count of failures with one more, which stops at the largest number of 64 bits.
abbrev pub one_more : ℕ → ℕ
one_more count = min (count + 1) 18446744073709551615
