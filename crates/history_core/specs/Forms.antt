-- The forms in which an entry keeps its event.
use Rattle.history_core.specs.Encoded.{IsKeptEncoded, IsEncodingOf, request_in}
use Rattle.history_core.specs.declared.event.Event.{Event}
use Rattle.history_core.specs.declared.event.Event.TheVariants as event
use Rattle.history_core.specs.declared.kept_event.Form.{Form}
use Rattle.history_core.specs.declared.kept_event.Form.TheVariants.{Whole, Encoded}

-- the event of a form
abbrev pub event_in : Form → Event
event_in (Whole e) = e
event_in (Encoded octets) = event.Request (request_in octets)

-- An event is in encoded form exactly where it is one that is kept encoded.
abbrev pub IsForm : Form → Type 0
IsForm (Whole e) = ¬ IsKeptEncoded e
IsForm (Encoded octets) = IsEncodingOf octets (request_in octets)
