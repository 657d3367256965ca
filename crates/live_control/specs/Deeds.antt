-- What the line of the control socket does, in order: each act of the ports' wire, and each act of the
-- control wire.
use Rattle.std.specs.Prelude.{List, [], ◌∷◌, map}
use Rattle.wire_core.specs.Acts.{Act}

-- The ports' wire did this; the control wire did this.
pub data Deed : Type 0 where
  acted : Act → Deed
  controlled : Act → Deed

abbrev pub all_acted : List Act → List Deed
all_acted acts = map acted acts

-- the acts of the ports' wire among them
abbrev pub acts_in : List Deed → List Act
acts_in [] = []
acts_in (acted act ∷ deeds) = act ∷ acts_in deeds
acts_in (controlled act ∷ deeds) = acts_in deeds

-- the acts of the control wire
abbrev pub controls_in : List Deed → List Act
controls_in [] = []
controls_in (acted act ∷ deeds) = controls_in deeds
controls_in (controlled act ∷ deeds) = act ∷ controls_in deeds
