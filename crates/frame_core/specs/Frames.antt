-- Frames that come in (IEEE 802.3, 3.2; IEEE 802.1D-2004, 7.12 and 9.3.4).
use Rattle.std.specs.Prelude.{◌≡◌, ◌≢◌, ℕ, ◌+◌, ◌≤◌, ◌<◌, List, ◌∷◌, length, take, drop, MatchOption}
use Rattle.frame_core.specs.Octets.{number_at}
use Rattle.frame_core.specs.Layout.{IsBpdu}
use Rattle.frame_core.specs.declared.bpdu.Bpdu.{Bpdu}
use Rattle.frame_core.specs.declared.frame.FrameIn.{FrameIn}
use Rattle.frame_core.specs.declared.fault.FrameFault.{FrameFault}
use Rattle.frame_core.specs.declared.fault.FrameFault.TheVariants.{Short, TooLong, BadBpdu}
use Rattle.frame_core.specs.declared.mac.TheConstants.{BRIDGE_GROUP}
use Rattle.frame_core.specs.declared.frame.TheConstants.{MIN_FRAME_LEN, MAX_FRAME_LEN}
use Rattle.frame_core.specs.declared.layout.TheConstants.{MAX_LENGTH}

-- A frame whose length field counts at most 1,500 octets, all of them there. They are the LLC
-- header of the spanning tree protocol, 42 42 03, and the octets of a BPDU. What stands behind them
-- is not read.
pub record CarriesBpdu (frame : List ℕ) (b : Bpdu) : Type 0 where
  pub octets : List ℕ
  pub most : number_at frame 12 2 ≤ MAX_LENGTH
  pub within : MIN_FRAME_LEN + number_at frame 12 2 ≤ length frame
  pub content : take (number_at frame 12 2) (drop MIN_FRAME_LEN frame) ≡ 0x42 ∷ 0x42 ∷ 0x03 ∷ octets
  pub bpdu : IsBpdu octets b

-- What a bridge reads of a frame of 14 to 1,518 octets: the addresses, and a BPDU exactly where the
-- frame goes to the bridges' group address.
pub record IsFrame (octets : List ℕ) (f : FrameIn) : Type 0 where
  pub least : MIN_FRAME_LEN ≤ length octets
  pub most : length octets ≤ MAX_FRAME_LEN
  pub destination : f.destination.0 ≡ take 6 octets
  pub source : f.source.0 ≡ take 6 (drop 6 octets)
  pub bpdu : MatchOption f.bpdu (f.destination ≢ BRIDGE_GROUP) (λ b. (f.destination ≡ BRIDGE_GROUP) × CarriesBpdu octets b)

-- Which octets are refused, and why.
abbrev pub IsFault : List ℕ → FrameFault → Type 0
IsFault octets Short = length octets < MIN_FRAME_LEN
IsFault octets TooLong = MAX_FRAME_LEN < length octets
IsFault octets BadBpdu = (MIN_FRAME_LEN ≤ length octets) × (length octets ≤ MAX_FRAME_LEN) × (take 6 octets ≡ BRIDGE_GROUP.0) × ((b : Bpdu) → ¬ CarriesBpdu octets b)
