-- Packets that are sent one after another, until one cannot be sent.
use Rattle.std.specs.Prelude.{◌≡◌, ℕ, List, [], ◌∷◌, ◌++◌, map, Option, Some, None, Result, Ok, Err}
use Rattle.wire_core.specs.Acts.{Act, sent, failed, one_more}
use Rattle.wire_core.specs.declared.wire.Packet.{Packet}
use Rattle.wire_core.specs.declared.wire.WireFault.{WireFault}

abbrev pub sent_packet : Packet → Act
sent_packet packet = sent packet.peer packet.octets

abbrev pub all_sent : List Packet → List Act
all_sent packets = map sent_packet packets

-- The acts of sending these packets: all went, or those ahead of the first that could not be sent.
abbrev pub IsSending : List Packet → Option WireFault → List Act → Type 0
IsSending packets None acts = acts ≡ all_sent packets
IsSending packets (Some fault) acts =
    (ahead : List Packet) × (next : Packet) × (behind : List Packet)
    × (packets ≡ ahead ++ next ∷ behind) × (acts ≡ all_sent ahead ++ failed fault ∷ [])

-- what went wrong, if something did
abbrev pub fault_in : Result Unit WireFault → Option WireFault
fault_in (Ok _) = None
fault_in (Err fault) = Some fault

-- Between two states of a wire these packets were sent.
abbrev pub Sends : {W : Type 0} → (W → List Act → W → Type 0) → W → List Packet →
    Option WireFault → W → Type 0
Sends went a packets fault b = (acts : List Act) × went a acts b × IsSending packets fault acts

-- the count of a wire's failures after this
abbrev pub failures_after : Option WireFault → ℕ → ℕ
failures_after None count = count
failures_after (Some fault) count = one_more count
