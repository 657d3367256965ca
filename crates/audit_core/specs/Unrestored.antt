-- The settings that a Set left at their new values, and space for them, as they lie in memory.
use Rattle.std.specs.Prelude.{Box, Bool, true, false, List, [], Option, Some, None}
use Rattle.std.specs.declared.alloc.Global.{Global}
use Rattle.rstp_settings.specs.declared.key.Key.{Key}

-- the keys that lie there, none where nothing does
abbrev pub keys_in : Option (Box (List Key) Global) → List Key
keys_in None = []
keys_in (Some keys) = keys.value

-- whether there is space
abbrev pub is_space : Option (Box (List Key) Global) → Bool
is_space None = false
is_space (Some keys) = true
