-- When an entry keeps the request of its event encoded, and which request octets encode.
use Rattle.std.specs.Prelude.{◌≡◌, ◌≢◌, ℕ, pos, ◌≤◌, List, [], length, Option, Some, None, Result, Ok, Err}
use Rattle.message_core.specs.Canon.{canon_request}
use Rattle.message_core.specs.Encodable.{AreEncodable}
use Rattle.message_core.specs.FirstFault.{request_at}
use Rattle.message_core.specs.declared.cause.DropCause.{DropCause}
use Rattle.message_core.specs.declared.limits.TheConstants.{MAX_REQUEST}
use Rattle.message_core.specs.declared.request.Kind.TheVariants.{Get}
use Rattle.message_core.specs.declared.request.Request.{Request}
use Rattle.history_core.specs.Receipts.{reported_of}
use Rattle.history_core.specs.declared.duplicate.Duplicate.{Duplicate}
use Rattle.history_core.specs.declared.duplicate.Duplicate.TheVariants.{Encoded, Copied}
use Rattle.history_core.specs.declared.event.Event.{Event}
use Rattle.history_core.specs.declared.event.Event.TheVariants as event

-- A request with variable bindings whose shortest encoding has at most `MAX_REQUEST` octets.
pub record IsShort (r : Request) : Type 0 where
  pub some : r.bindings ≢ []
  pub most : length (canon_request r) ≤ MAX_REQUEST

-- The events that are kept encoded: such requests. Any other is kept as it is.
abbrev pub IsKeptEncoded : Event → Type 0
IsKeptEncoded (event.Frame port frame) = ⊥
IsKeptEncoded event.Tick = ⊥
IsKeptEncoded (event.Link port up) = ⊥
IsKeptEncoded (event.Policy tables) = ⊥
IsKeptEncoded (event.Request r) = IsShort r

-- These octets are the shortest encoding of a short request, and read as it.
pub record IsEncodingOf (octets : List ℕ) (r : Request) : Type 0 where
  pub shortest : octets ≡ canon_request r
  pub read : request_at octets ≡ Ok r
  pub encodable : AreEncodable r.bindings
  pub short : IsShort r

-- The request that octets read as; for octets that read as none, which no entry keeps, a Get of
-- nothing.
abbrev pub request_or : Request → Result Request DropCause → Request
request_or other (Ok r) = r
request_or other (Err cause) = other

abbrev pub request_in : List ℕ → Request
request_in octets = request_or (record { kind = Get; id = pos 0; first = pos 0; second = pos 0; community = []; bindings = [] }) (request_at octets)

-- the event is a request of which these octets are the encoding
abbrev pub IsEncodedEvent : List ℕ → Event → Type 0
IsEncodedEvent octets (event.Frame port frame) = ⊥
IsEncodedEvent octets event.Tick = ⊥
IsEncodedEvent octets (event.Link port up) = ⊥
IsEncodedEvent octets (event.Policy tables) = ⊥
IsEncodedEvent octets (event.Request r) = IsEncodingOf octets r

-- What stands for an event beside itself: the octets of a request that is kept encoded, and of any
-- other event what a receipt reports of it.
abbrev pub IsDuplicateOf : Event → Duplicate → Type 0
IsDuplicateOf e (Encoded octets) = IsEncodedEvent octets e
IsDuplicateOf e (Copied reported) = (¬ IsKeptEncoded e) × (reported ≡ reported_of e)

-- the request of an event that is one
abbrev pub request_of : Event → Option Request
request_of (event.Frame port frame) = None
request_of event.Tick = None
request_of (event.Link port up) = None
request_of (event.Policy tables) = None
request_of (event.Request r) = Some r
