-- Denied bindings, as they lie in memory.
use Rattle.std.specs.Prelude.{Box, ◌≢◌, List, [], Option, Some, None}
use Rattle.std.specs.declared.alloc.Global.{Global}
use Rattle.audit_core.specs.declared.denied.Denied.{Denied}

-- what lies there, none where nothing does
abbrev pub denied_in : Option (Box (List Denied) Global) → List Denied
denied_in None = []
denied_in (Some list) = list.value

-- something lies there only where something is denied
abbrev pub IsDenials : Option (Box (List Denied) Global) → Type 0
IsDenials None = Unit {0}
IsDenials (Some list) = list.value ≢ []
