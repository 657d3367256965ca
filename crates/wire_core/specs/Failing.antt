-- Which acts a failing wire hands on to the wire inside.
use Rattle.std.specs.Prelude.{◌≡◌, ℕ, ◌-◌, ◌<◌, ◌≤◌, List, ◌++◌, length, take, drop, slice_get, Some}
use Rattle.wire_core.specs.declared.wire.WireFault.{WireFault}
use Rattle.wire_core.specs.Acts.{Act, failed}

-- What contracts see of it: which call from now fails (0 where none will), the wire inside, how
-- often it has failed.
pub record FailingLine (W : Type 0) : Type 0 where
  pub fails_at : ℕ
  pub wire : W
  pub failures : ℕ

-- The acts that are handed on: all but the one of this number, counted from 1.
abbrev pub handed_on : ℕ → List Act → List Act
handed_on n acts = take (n - 1) acts ++ drop n acts

-- The act of this number, where there is one, is a fault.
abbrev pub FailsAt : ℕ → List Act → Type 0
FailsAt n acts = 0 < n → n ≤ length acts → (fault : WireFault) × (slice_get acts (n - 1) ≡ Some (failed fault))

-- What acts lead to: the act at which it fails is a fault, and the others are those of the wire
-- inside.
pub record GoesFailing {W : Type 0} (went : W → List Act → W → Type 0) (a : FailingLine W) (acts : List Act) (b : FailingLine W) : Type 0 where
  pub fails : FailsAt a.fails_at acts
  pub hands_on : went a.wire (handed_on a.fails_at acts) b.wire
  pub counts : b.fails_at ≡ a.fails_at - length acts
