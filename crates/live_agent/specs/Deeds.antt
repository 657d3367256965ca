-- What a line does, in order, where its wire has a gate or a pace beside it: each act of the wire, each
-- visit to the gate, each answer of the pace.
use Rattle.std.specs.Prelude.{ℕ, Bool, List, [], ◌∷◌, map}
use Rattle.audit_core.specs.declared.audit.Audit.{Audit}
use Rattle.wire_core.specs.Acts.{Act}
use Rattle.live_agent.specs.declared.gate.AnsweredRequest.{AnsweredRequest}

-- Ahead of a request of the worker of this number; behind a request of it that made an entry, with the
-- entry's audit.
pub data Visit : Type 0 where
  before : ℕ → Visit
  after : ℕ → AnsweredRequest → Audit → Visit

-- The wire did this; the gate was visited so; the pace answered this.
pub data Deed : Type 0 where
  acted : Act → Deed
  visited : Visit → Deed
  answered : Bool → Deed

abbrev pub all_acted : List Act → List Deed
all_acted acts = map acted acts

-- the acts of the wire among them
abbrev pub acts_in : List Deed → List Act
acts_in [] = []
acts_in (acted act ∷ deeds) = act ∷ acts_in deeds
acts_in (visited visit ∷ deeds) = acts_in deeds
acts_in (answered more ∷ deeds) = acts_in deeds

-- the visits to the gate
abbrev pub visits_in : List Deed → List Visit
visits_in [] = []
visits_in (acted act ∷ deeds) = visits_in deeds
visits_in (visited visit ∷ deeds) = visit ∷ visits_in deeds
visits_in (answered more ∷ deeds) = visits_in deeds

-- the answers of the pace
abbrev pub answers_in : List Deed → List Bool
answers_in [] = []
answers_in (acted act ∷ deeds) = answers_in deeds
answers_in (visited visit ∷ deeds) = answers_in deeds
answers_in (answered more ∷ deeds) = more ∷ answers_in deeds
