-- A wire of the ports with a control wire beside it: what their deeds lead to.
use Rattle.std.specs.Prelude.{◌≡◌, List}
use Rattle.wire_core.specs.Acts.{Act}
use Rattle.live_control.specs.declared.control_wire.Controlled.{Controlled}
use Rattle.live_control.specs.Deeds.{Deed, acts_in, controls_in}

-- The ports' wire did this, and the control wire nothing.
pub record ActsBeside {W C : Type 0} (went : W → List Act → W → Type 0) (a : Controlled W C) (acts : List Act) (b : Controlled W C) : Type 0 where
  pub wire : went a.wire acts b.wire
  pub control : b.control ≡ a.control

-- Each wire did its part of the deeds.
pub record GoesBeside {W C : Type 0} (went : W → List Act → W → Type 0) (control_went : C → List Act → C → Type 0) (a : Controlled W C) (deeds : List Deed) (b : Controlled W C) : Type 0 where
  pub wire : went a.wire (acts_in deeds) b.wire
  pub control : control_went a.control (controls_in deeds) b.control
