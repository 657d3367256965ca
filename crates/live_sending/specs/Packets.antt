-- What an event gives to send, and to whom: the reply to the asking peer, a forwarded frame and the
-- BPDUs to the peers of the ports.
use Rattle.std.specs.Prelude.{◌==◌, ℕ, ◌+◌, ◌-◌, List, [], ◌∷◌, ◌++◌, slice_get, Option, Some, None, if◌then◌else◌}
use Rattle.std.specs.declared.net.socket_addr.SocketAddr.{SocketAddr}
use Rattle.frame_core.specs.Sending.{frame_octets}
use Rattle.frame_core.specs.declared.bpdu.Bpdu.{Bpdu}
use Rattle.frame_core.specs.declared.mac.Mac.{Mac}
use Rattle.wire_core.specs.declared.wire.Packet.{Packet}
use Rattle.live_sending.specs.declared.sending.Delivery.{Delivery}
use Rattle.live_sending.specs.declared.sending.Delivery.TheVariants.{Nothing, Reply, Frame}

-- The peer of a port. Ports are numbered from 1, and so are the peers.
abbrev pub peer_of : List SocketAddr → ℕ → Option SocketAddr
peer_of peers port = if port == 0 then None else slice_get peers (port - 1)

-- These octets to a peer; nothing where there is none.
abbrev pub packets_to : Option SocketAddr → List ℕ → List Packet
packets_to (Some peer) octets = record { peer = peer; octets = octets } ∷ []
packets_to None octets = []

-- A reply to the peer that asked; nothing where there is no reply.
abbrev pub reply_packets : SocketAddr → List ℕ → List Packet
reply_packets peer [] = []
reply_packets peer (x ∷ octets) = record { peer = peer; octets = x ∷ octets } ∷ []

-- A frame to the peers of the ports by which it goes out.
abbrev pub frame_packets : List SocketAddr → List ℕ → List ℕ → List Packet
frame_packets peers [] octets = []
frame_packets peers (port ∷ ports) octets =
    packets_to (peer_of peers port) octets ++ frame_packets peers ports octets

-- The frame in which a port sends its BPDU, if it sends one, to the port's peer.
abbrev pub bpdu_packets_at : Mac → List SocketAddr → ℕ → Option Bpdu → List Packet
bpdu_packets_at source peers port (Some bpdu) =
    packets_to (peer_of peers port) (frame_octets source bpdu)
bpdu_packets_at source peers port None = []

-- What the ports send, from this port on, in the order of the ports.
abbrev pub bpdu_packets_from : Mac → List SocketAddr → ℕ → List (Option Bpdu) → List Packet
bpdu_packets_from source peers port [] = []
bpdu_packets_from source peers port (bpdu ∷ bpdus) =
    bpdu_packets_at source peers port bpdu ++ bpdu_packets_from source peers (port + 1) bpdus

abbrev pub bpdu_packets : Mac → List SocketAddr → List (Option Bpdu) → List Packet
bpdu_packets source peers bpdus = bpdu_packets_from source peers 1 bpdus

-- A reply to the peer that asked, or a frame by its ports.
abbrev pub delivery_packets : List SocketAddr → Delivery → List Packet
delivery_packets peers Nothing = []
delivery_packets peers (Reply peer octets) = reply_packets peer octets.now
delivery_packets peers (Frame ports octets) = frame_packets peers ports.now octets.now

-- What an event gives to send: its reply or its frame, and then what the ports send.
abbrev pub outgoing_packets : Mac → List SocketAddr → Delivery → List (Option Bpdu) → List Packet
outgoing_packets source peers delivery bpdus =
    delivery_packets peers delivery ++ bpdu_packets source peers bpdus
