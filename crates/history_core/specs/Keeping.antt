-- The parts of entering an event, as `apply` hands them on inside the crate.
use Rattle.std.specs.Prelude.{Box, ◌≡◌, ◌==◌, ℕ, if◌then◌else◌, List, [], ◌∷◌, ◌++◌, length, Option, Some, None}
use Rattle.std.specs.declared.alloc.Global.{Global}
use Rattle.audit_core.specs.declared.audit.Audit.{Audit}
use Rattle.decision.specs.declared.choice.Cause.{Cause}
use Rattle.setphase_core.specs.declared.world.World.{World}
use Rattle.history_core.specs.Steps.{cause_in}
use Rattle.history_core.specs.History.{History}
use Rattle.history_core.specs.declared.applied.Applied.{Applied}
use Rattle.history_core.specs.declared.applied.Applied.TheVariants.{Done, Dropped}
use Rattle.history_core.specs.declared.entry.Entry.{Entry}
use Rattle.history_core.specs.declared.event.Event.{Event}
use Rattle.history_core.specs.declared.event.ReceiptEvent.{ReceiptEvent}
use Rattle.history_core.specs.declared.happening.EventOutcome.{EventOutcome}
use Rattle.history_core.specs.declared.limits.TheConstants.{MAX_ENTRIES}
use Rattle.history_core.specs.declared.receipt.Receipt.{Receipt}

-- the world that is to be the base, where there is one
abbrev pub world_in : Option (Box World Global) → Option World
world_in None = None
world_in (Some base) = Some base.value

-- the world that is to be the base, where the base is to move: the present one
abbrev pub due_base : History → Option World
due_base h = if length h.entries == MAX_ENTRIES then Some h.world else None

-- the entry of an event of this outcome, and its receipt under a number
abbrev pub entry_of : Event → EventOutcome → Entry
entry_of e x = record {
  event = e;
  no_room = x.no_room;
  failed = x.failed;
  unnamed = x.unnamed;
  egress = x.egress;
  reply = x.reply;
  audit = x.audit;
}

abbrev pub receipt_of : ℕ → ReceiptEvent → EventOutcome → Receipt
receipt_of number reported x = record {
  number = number;
  event = reported;
  egress = x.egress;
  reply = x.reported_reply;
}

-- Where there is a new base, it takes the place of the old one and of all entries; then there is an
-- entry more.
abbrev pub Enters : Option World → ℕ → List Entry → World → ℕ → Entry → List Entry → World → ℕ →
    Type 0
Enters None next es w n entry es_later w_later n_later =
    (es_later ≡ es ++ entry ∷ []) × (w_later ≡ w) × (n_later ≡ n)
Enters (Some base) next es w n entry es_later w_later n_later =
    (es_later ≡ entry ∷ []) × (w_later ≡ base) × (n_later ≡ next)

-- what is reported of an event that was entered: that it is dropped, where it is
abbrev pub applied_because : Receipt → Audit → Option Cause → Applied
applied_because receipt audit (Some cause) = Dropped receipt cause audit
applied_because receipt audit None = Done receipt (Some audit)

abbrev pub applied_by : Receipt → Option Audit → Applied
applied_by receipt None = Done receipt None
applied_by receipt (Some audit) = applied_because receipt audit (cause_in audit.decision)
