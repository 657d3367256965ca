-- A history: what is kept of it, when it is legal, and what an event adds to it.
use Rattle.std.specs.Prelude.{◌≡◌, ◌⊎◌, ℕ, ◌+◌, ◌*◌, ◌^◌, ◌<◌, ◌≤◌, ◌==◌, List, [], ◌∷◌, ◌++◌, length, map, Option, Some, None, if◌then◌else◌, unwrap_or}
use Rattle.audit_core.specs.declared.audit.Audit.{Audit}
use Rattle.rstp_settings.specs.declared.key.Key.{Key}
use Rattle.setphase_core.specs.Objects.{ObjectRow, ObjectState, object_after_arm, object_after_release}
use Rattle.setphase_core.specs.Calls.{FollowPlans}
use Rattle.setphase_core.specs.Registry.{rows_of}
use Rattle.setphase_core.specs.declared.world.World.{World}
use Rattle.agent_core.specs.Buffered.{Buffered}
use Rattle.history_core.specs.Receipts.{reported_of}
use Rattle.history_core.specs.Steps.{Notes, Step, step_of, event_calls, MayNote, AreAtRest, cause_of, MayTakeMemory, failure_octets}
use Rattle.history_core.specs.declared.applied.Applied.{Applied}
use Rattle.history_core.specs.declared.applied.Applied.TheVariants.{Done, Dropped, Short, HistoryFull}
use Rattle.history_core.specs.declared.entry.Entry.{Entry}
use Rattle.history_core.specs.declared.event.Event.{Event}
use Rattle.history_core.specs.declared.limits.TheConstants.{MAX_ENTRIES}
use Rattle.history_core.specs.declared.receipt.Receipt.{Receipt}

-- What is kept: the number that the first entry of all had, or is to have, the base number and the
-- base, the entries from there on, and the world and the objects as they are now.
pub record History : Type 0 where
  pub first : ℕ
  pub base_number : ℕ
  pub base : World
  pub entries : List Entry
  pub world : World
  pub objects : List ObjectState

-- ---- replay

-- the settings that an audit says could not be undone
abbrev pub undos_in : Option Audit → List Key
undos_in (Some audit) = audit.unrestored
undos_in None = []

-- what an entry says that its event met
abbrev pub notes_of : Entry → Notes
notes_of e = record {
  no_room = e.no_room;
  devices = record { commit = e.failed; undos = undos_in e.audit };
  unnamed = e.unnamed;
}

-- Objects of these rows that have nothing reserved. What an event makes of a world hangs on their
-- rows alone.
abbrev pub resting : List ObjectRow → List ObjectState
resting rows = map (λ row. record { row = row; reserved = []; failures = 0; plan = None }) rows

-- what an entry's event makes of a world
abbrev pub step_at : List ObjectRow → World → Entry → Step
step_at rows w e = step_of (resting rows) w e.event (notes_of e)

-- the world after all entries
abbrev pub replay : List ObjectRow → World → List Entry → World
replay rows w [] = w
replay rows w (e ∷ es) = replay rows (step_at rows w e).world es

-- An entry is that of a step at a world.
pub record IsEntry (rows : List ObjectRow) (w : World) (e : Entry) : Type 0 where
  pub may : MayNote rows w e.event (notes_of e)
  pub egress : e.egress ≡ (step_at rows w e).egress
  pub reply : e.reply ≡ (step_at rows w e).reply
  pub audit : e.audit ≡ (step_at rows w e).audit

-- Each entry is that of the step at its place.
abbrev pub IsLegal : List ObjectRow → World → List Entry → Type 0
IsLegal rows w [] = Unit {0}
IsLegal rows w (e ∷ es) = IsEntry rows w e × IsLegal rows (step_at rows w e).world es

-- an event, and what it met
pub record EventMet : Type 0 where
  pub event : Event
  pub notes : Notes

abbrev pub event_met : Entry → EventMet
event_met e = record { event = e.event; notes = notes_of e }

abbrev pub events_met : List Entry → List EventMet
events_met es = map event_met es

-- the number of the next entry
abbrev pub next_of : History → ℕ
next_of h = h.base_number + length h.entries

-- What holds of each history that is kept: it is legal, and leads to the world as it is; no object
-- has anything reserved; at most `MAX_ENTRIES` entries are kept, and one at least once one was
-- made; the next number is one of 64 bits; and the base number is the first number, or whole blocks of
-- entries past it.
pub record IsHistory (h : History) : Type 0 where
  pub legal : IsLegal (rows_of h.objects) h.base h.entries
  pub world_is : h.world ≡ replay (rows_of h.objects) h.base h.entries
  pub at_rest : AreAtRest h.objects
  pub at_most : length h.entries ≤ MAX_ENTRIES
  pub fits : next_of h < 2 ^ 64
  pub blocks : (n : ℕ) × (h.base_number ≡ h.first + MAX_ENTRIES * n)
  pub one_kept : length h.entries ≡ 0 → h.base_number ≡ h.first

-- ---- what an event adds

-- no entries yet
abbrev pub fresh : List ObjectState → World → ℕ → History
fresh objects w n = record {
  first = n;
  base_number = n;
  base = w;
  entries = [];
  world = w;
  objects = map object_after_release objects;
}

-- the history whose objects' devices were armed with a plan
abbrev pub history_after_arm : ℕ → History → History
history_after_arm plan h = record h { objects = map (object_after_arm plan) h.objects }

-- the history with its base moved to the present world
abbrev pub history_at_new_base : History → History
history_at_new_base h = record h { base_number = next_of h; base = h.world; entries = [] }

-- The history that an event is entered into: its base moves where it is full.
abbrev pub history_before_entry : History → History
history_before_entry h = if length h.entries == MAX_ENTRIES then history_at_new_base h else h

-- the step of an event at the present world, which met this
abbrev pub next_step : History → Event → Notes → Step
next_step h e notes = step_of h.objects h.world e notes

-- its entry
abbrev pub next_entry : History → Event → Notes → Entry
next_entry h e notes = record {
  event = e;
  no_room = notes.no_room;
  failed = notes.devices.commit;
  unnamed = notes.unnamed;
  egress = (next_step h e notes).egress;
  reply = (next_step h e notes).reply;
  audit = (next_step h e notes).audit;
}

-- the history with one entry more
abbrev pub with_entry : History → Event → Notes → History
with_entry h e notes = record h {
  entries = h.entries ++ next_entry h e notes ∷ [];
  world = (next_step h e notes).world;
  objects = (next_step h e notes).objects;
}

-- the history after an event
abbrev pub after : History → Event → Notes → History
after h e notes = with_entry (history_before_entry h) e notes

-- the receipt of an event
abbrev pub next_receipt : History → Event → Notes → Receipt
next_receipt h e notes = record {
  number = next_of h;
  event = reported_of e;
  egress = (next_step h e notes).egress;
  reply = (next_step h e notes).reply;
}

-- An event was entered: one entry more, at the next number, by the step of the event at the present
-- world, with what it may have met, where each call of a device failed exactly where the plan of
-- its object has it so, if that has one; the receipt and the audit are the step's, and the buffer
-- holds the reply, if any, and what the ports send.
pub record IsEntered (h : History) (e : Event) (receipt : Receipt) (audit : Option Audit)
    (later : History) (buffer : Buffered) : Type 0 where
  pub notes : Notes
  pub may : MayNote (rows_of h.objects) h.world e notes
  pub by_plan : FollowPlans (event_calls (rows_of h.objects) h.world e notes) h.objects
  pub same_undos : undos_in audit ≡ notes.devices.undos
  pub after_is : later ≡ after h e notes
  pub receipt_is : receipt ≡ next_receipt h e notes
  pub audit_is : audit ≡ (next_step h e notes).audit
  pub reply_is : buffer.reply ≡ unwrap_or (next_step h e notes).reply []
  pub bpdus_are : buffer.bpdus ≡ (next_step h e notes).bpdus

-- The greatest number, `u64::MAX`, is no entry's.
abbrev pub last_number : ℕ
last_number = 18446744073709551615

-- What became of an event: the history before it, what was answered, the history after it and the
-- buffer.
abbrev pub Applies : History → Event → Applied → History → Buffered → Type 0
Applies h e (Done receipt audit) later buffer =
    (next_of h < last_number) × (cause_of h.world e ≡ None)
    × IsEntered h e receipt audit later buffer
Applies h e (Dropped receipt cause audit) later buffer =
    (next_of h < last_number) × (cause_of h.world e ≡ Some cause)
    × IsEntered h e receipt (Some audit) later buffer
Applies h e (Short back) later buffer =
    (next_of h < last_number) × ((length h.entries ≡ MAX_ENTRIES) ⊎ MayTakeMemory e)
    × (back ≡ e) × (later ≡ h)
    × (buffer.reply ≡ failure_octets h.world e) × (buffer.bpdus ≡ [])
Applies h e (HistoryFull back) later buffer =
    (next_of h ≡ last_number) × (back ≡ e) × (later ≡ h)
    × (buffer.reply ≡ []) × (buffer.bpdus ≡ [])
