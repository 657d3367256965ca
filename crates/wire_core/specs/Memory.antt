-- What a wire in memory gives and keeps.
use Rattle.std.specs.Prelude.{◌≡◌, ℕ, List, [], ◌∷◌, ◌++◌, take}
use Rattle.std.specs.declared.net.socket_addr.SocketAddr.{SocketAddr}
use Rattle.wire_core.specs.declared.wire.Packet.{Packet}
use Rattle.wire_core.specs.declared.wire.WireFault.TheVariants.{Receive, Send}
use Rattle.wire_core.specs.declared.memory.WireInput.{WireInput}
use Rattle.wire_core.specs.declared.memory.WireInput.TheVariants.{Datagram, Nothing, Fault}
use Rattle.wire_core.specs.Acts.{Act, got, quiet, closed, sent, failed}

-- What contracts see of it: what is left to give, what was sent, how often it has failed.
pub record MemoryLine : Type 0 where
  pub left : List WireInput
  pub sent : List Packet
  pub failures : ℕ

-- A datagram of a peer, to be given.
abbrev pub datagram_given : SocketAddr → List ℕ → WireInput
datagram_given peer octets = Datagram (record { peer = peer; octets = octets })

-- Each receive takes the next of what is left to give, a datagram cut to its space, and is closed
-- where nothing is left; a send takes nothing.
abbrev pub GivesAll : List WireInput → List Act → List WireInput → Type 0
GivesAll left [] left' = left' ≡ left
GivesAll left (got space peer octets ∷ acts) left' =
    (p : Packet) × (rest : List WireInput) × (left ≡ Datagram p ∷ rest) × (p.peer ≡ peer) × (octets ≡ take space p.octets) × GivesAll rest acts left'
GivesAll left (quiet ∷ acts) left' =
    (rest : List WireInput) × (left ≡ Nothing ∷ rest) × GivesAll rest acts left'
GivesAll left (closed ∷ acts) left' = (left ≡ []) × GivesAll left acts left'
GivesAll left (sent peer octets ∷ acts) left' = GivesAll left acts left'
GivesAll left (failed Receive ∷ acts) left' =
    (rest : List WireInput) × (left ≡ Fault ∷ rest) × GivesAll rest acts left'
GivesAll left (failed Send ∷ acts) left' = GivesAll left acts left'

-- The datagrams that acts sent, in order.
abbrev pub packets_of : List Act → List Packet
packets_of [] = []
packets_of (got space peer octets ∷ acts) = packets_of acts
packets_of (quiet ∷ acts) = packets_of acts
packets_of (closed ∷ acts) = packets_of acts
packets_of (sent peer octets ∷ acts) = record { peer = peer; octets = octets } ∷ packets_of acts
packets_of (failed fault ∷ acts) = packets_of acts

-- What acts lead to: they take from what is left to give, and what they sent is kept.
pub record GoesInMemory (a : MemoryLine) (acts : List Act) (b : MemoryLine) : Type 0 where
  pub gives : GivesAll a.left acts b.left
  pub keeps : b.sent ≡ a.sent ++ packets_of acts
