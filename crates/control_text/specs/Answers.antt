-- What a command is answered, in the words of a script.
use Rattle.std.specs.Prelude.{ℕ, ◌+◌, codes, decimal, List, [], ◌∷◌, ◌++◌, Option, Some, None}
use Rattle.std.specs.List.{flat_map}
use Rattle.hex.specs.Hex.{encode_upper}
use Rattle.frame_core.specs.declared.mac.Mac.{Mac}
use Rattle.frame_core.specs.declared.bpdu.Bpdu.{Bpdu}
use Rattle.frame_core.specs.Sending.{frame_octets}
use Rattle.control_text.specs.declared.command.CommandFault.{CommandFault}
use Rattle.control_text.specs.declared.command.CommandFault.TheVariants.{BadLine, CutPolicy, LongPolicy, NoPolicy, Memory}

-- a BPDU that a port sends, as the frame that the bridge of this address sends
abbrev pub bpdu_line : Mac → ℕ → Option Bpdu → List ℕ
bpdu_line address port (Some bpdu) = codes "bpdu " ++ decimal port ++ codes " " ++ encode_upper (frame_octets address bpdu) ++ codes "\n"
bpdu_line address port None = []

-- what the ports from this one on send, in their order
abbrev pub bpdu_lines : Mac → ℕ → List (Option Bpdu) → List ℕ
bpdu_lines address port [] = []
bpdu_lines address port (bpdu ∷ bpdus) =
    bpdu_line address port bpdu ++ bpdu_lines address (port + 1) bpdus

-- a space and a number
abbrev pub space_and_number : ℕ → List ℕ
space_and_number n = codes " " ++ decimal n

-- what was dropped, by its causes
abbrev pub counts_line : List ℕ → List ℕ
counts_line counts = codes "counts" ++ flat_map space_and_number counts ++ codes "\n"

-- what is answered to octets that are refused
abbrev pub refusal_line : CommandFault → List ℕ
refusal_line BadLine = codes "badline\n"
refusal_line CutPolicy = codes "policy refused\n"
refusal_line LongPolicy = codes "policy refused\n"
refusal_line (NoPolicy cause) = codes "policy refused\n"
refusal_line Memory = codes "policy refused\n"
