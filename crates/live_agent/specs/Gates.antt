-- A wire with a gate, and a wire with a pace: what their deeds lead to.
use Rattle.std.specs.Prelude.{◌≡◌, Bool, List}
use Rattle.wire_core.specs.Acts.{Act}
use Rattle.live_agent.specs.declared.gate.Gated.{Gated}
use Rattle.live_agent.specs.declared.paced.Paced.{Paced}
use Rattle.live_agent.specs.Deeds.{Deed, Visit, acts_in, visits_in, answers_in}

-- The wire did this, and nobody visited the gate.
pub record ActsGated {W G : Type 0} (went : W → List Act → W → Type 0) (a : Gated W G) (acts : List Act) (b : Gated W G) : Type 0 where
  pub wire : went a.wire acts b.wire
  pub gate : b.gate ≡ a.gate

-- The wire did its part of the deeds, and the gate was visited so.
pub record GoesGated {W G : Type 0} (went : W → List Act → W → Type 0) (gate_went : G → List Visit → G → Type 0) (a : Gated W G) (deeds : List Deed) (b : Gated W G) : Type 0 where
  pub wire : went a.wire (acts_in deeds) b.wire
  pub gate : gate_went a.gate (visits_in deeds) b.gate

-- The wire did this, and the pace was not asked.
pub record ActsPaced {W P : Type 0} (went : W → List Act → W → Type 0) (a : Paced W P) (acts : List Act) (b : Paced W P) : Type 0 where
  pub wire : went a.wire acts b.wire
  pub pace : b.pace ≡ a.pace

-- The wire did its part of the deeds, and the pace answered so.
pub record GoesPaced {W P : Type 0} (went : W → List Act → W → Type 0) (pace_went : P → List Bool → P → Type 0) (a : Paced W P) (deeds : List Deed) (b : Paced W P) : Type 0 where
  pub wire : went a.wire (acts_in deeds) b.wire
  pub pace : pace_went a.pace (answers_in deeds) b.pace
