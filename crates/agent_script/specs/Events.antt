-- What an event of a script may meet, and what it makes of the history that is kept.
use Rattle.std.specs.Prelude.{◌≡◌, ◌⊎◌, ◌&&◌, ℕ, Bool, false, not, length, List, [], ◌∷◌, map, Option, is_none}
use Rattle.setphase_core.specs.Calls.{FollowPlans}
use Rattle.setphase_core.specs.Registry.{rows_of}
use Rattle.history_core.specs.History.{History, after}
use Rattle.history_core.specs.Steps.{Notes, MayNote, MayTakeMemory, event_calls}
use Rattle.history_core.specs.declared.event.Event.{Event}
use Rattle.history_core.specs.declared.limits.TheConstants.{MAX_ENTRIES}

-- what became of an event
pub data Met : Type 0 where
  -- it was entered, and met this
  entered : (notes : Notes) → Met
  -- there was no memory, and it was not entered
  short : Met

-- An event may meet this: what its step may, each call of a device failing exactly where the plan
-- of its object says so, if that has one; or want of memory, where it takes some or the base is to
-- move.
abbrev pub MayMeetEvent : History → Event → Met → Type 0
MayMeetEvent h e (entered notes) =
    MayNote (rows_of h.objects) h.world e notes
    × FollowPlans (event_calls (rows_of h.objects) h.world e notes) h.objects
MayMeetEvent h e short = (length h.entries ≡ MAX_ENTRIES) ⊎ MayTakeMemory e

-- the history after an event that met this
abbrev pub after_event : History → Event → Met → History
after_event h e (entered notes) = after h e notes
after_event h e short = h

-- There was memory for the learned row of a frame's source and for each name that was made.
abbrev pub had_memory : Bool → Option ℕ → Bool
had_memory no_room unnamed = not no_room && is_none unnamed

-- nothing was given up for want of memory
abbrev pub is_full : Met → Bool
is_full (entered notes) = had_memory notes.no_room notes.unnamed
is_full short = false

-- an event, and what it met
pub record Happening : Type 0 where
  pub event : Event
  pub met : Met

-- the same event, once for each of these
abbrev pub each_met : Event → List Met → List Happening
each_met e mets = map (λ m. record { event = e; met = m }) mets

-- Events that happen one after another: each may meet what it met, and the history after them.
abbrev pub AreMet : History → List Happening → Type 0
AreMet h [] = Unit {0}
AreMet h (x ∷ xs) = MayMeetEvent h x.event x.met × AreMet (after_event h x.event x.met) xs

abbrev pub after_events : History → List Happening → History
after_events h [] = h
after_events h (x ∷ xs) = after_events (after_event h x.event x.met) xs
