-- What a receipt says of an event, when a copy of it takes memory, and when it stands.
use Rattle.std.specs.Prelude.{◌≡◌, ◌≢◌, ℕ, ◌-◌, ◌<◌, ◌≤◌, ◌⊎◌, List, [], length, slice_get, Option, Some, None, IfSome}
use Rattle.message_core.specs.declared.limits.TheConstants.{INLINE_OCTETS}
use Rattle.history_core.specs.declared.entry.Entry.{Entry}
use Rattle.history_core.specs.declared.event.Event.{Event}
use Rattle.history_core.specs.declared.event.Event.TheVariants as event
use Rattle.history_core.specs.declared.event.ReceiptEvent.{ReceiptEvent}
use Rattle.history_core.specs.declared.event.ReceiptEvent.TheVariants as reported
use Rattle.history_core.specs.declared.receipt.Receipt.{Receipt}

-- all of an event, but of a policy that it was one
abbrev pub reported_of : Event → ReceiptEvent
reported_of (event.Frame port frame) = reported.Frame port frame
reported_of event.Tick = reported.Tick
reported_of (event.Link port up) = reported.Link port up
reported_of (event.Policy tables) = reported.Policy
reported_of (event.Request request) = reported.Request request

-- A copy takes memory: of a request with a long community or with variable bindings.
abbrev pub TakesMemory : ReceiptEvent → Type 0
TakesMemory (reported.Frame port frame) = ⊥
TakesMemory reported.Tick = ⊥
TakesMemory (reported.Link port up) = ⊥
TakesMemory reported.Policy = ⊥
TakesMemory (reported.Request request) =
    (INLINE_OCTETS < length request.community) ⊎ (request.bindings ≢ [])

-- there is a reply, and a copy of it takes memory
abbrev pub IsLong : Option (List ℕ) → Type 0
IsLong reply = IfSome reply (λ octets. INLINE_OCTETS < length octets)

-- a receipt is that of an entry, whatever the number: event, egress and reply are the entry's
pub record IsReceiptOf (entry : Entry) (receipt : Receipt) : Type 0 where
  pub event : reported_of entry.event ≡ receipt.event
  pub egress : entry.egress ≡ receipt.egress
  pub reply : entry.reply ≡ receipt.reply

abbrev pub IsReceiptAt : Option Entry → Receipt → Type 0
IsReceiptAt None receipt = ⊥
IsReceiptAt (Some entry) receipt = IsReceiptOf entry receipt

-- A receipt stands among entries that are numbered from the base number on: its number is at or
-- past that, and it is the receipt of the entry of its number.
abbrev pub Stands : ℕ → List Entry → Receipt → Type 0
Stands base_number entries receipt =
    (base_number ≤ receipt.number)
    × IsReceiptAt (slice_get entries (receipt.number - base_number)) receipt

-- a receipt is older than the entries, or stands among them
abbrev pub Fits : ℕ → List Entry → Receipt → Type 0
Fits base_number entries receipt =
    (receipt.number < base_number) ⊎ Stands base_number entries receipt
