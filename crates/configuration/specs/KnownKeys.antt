-- The keys that a table of a configuration may have, and the first that it may not.
use Rattle.std.specs.Prelude.{ℕ, ◌||◌, Bool, true, bytes_eq, codes, if◌then◌else◌, List, Option, Some, None, option_and_then}
use Rattle.toml.specs.Data.{Members, no_members, member}
use Rattle.community_core.specs.declared.fault.PolicyTable.{PolicyTable}
use Rattle.community_core.specs.declared.fault.PolicyTable.TheVariants.{Groups, Access, Families, Contexts, Communities}
use Rattle.configuration.specs.declared.known_keys.Part.{Part}
use Rattle.configuration.specs.declared.known_keys.Part.TheVariants.{Top, Port, Serve, Row}

abbrev pub is_top_key : List ℕ → Bool
is_top_key key =
    bytes_eq key (codes "address") || bytes_eq key (codes "port") || bytes_eq key (codes "serve")
    || bytes_eq key (codes "contexts") || bytes_eq key (codes "community") || bytes_eq key (codes "group")
    || bytes_eq key (codes "access") || bytes_eq key (codes "family")

abbrev pub is_port_key : List ℕ → Bool
is_port_key key =
    bytes_eq key (codes "ifindex") || bytes_eq key (codes "speed") || bytes_eq key (codes "full")
    || bytes_eq key (codes "listen") || bytes_eq key (codes "peer")

abbrev pub is_serve_key : List ℕ → Bool
is_serve_key key =
    bytes_eq key (codes "snmp") || bytes_eq key (codes "workers") || bytes_eq key (codes "rounds")

abbrev pub is_group_key : List ℕ → Bool
is_group_key key =
    bytes_eq key (codes "model") || bytes_eq key (codes "name") || bytes_eq key (codes "group")

abbrev pub is_access_key : List ℕ → Bool
is_access_key key =
    bytes_eq key (codes "group") || bytes_eq key (codes "prefix") || bytes_eq key (codes "model")
    || bytes_eq key (codes "level") || bytes_eq key (codes "exact") || bytes_eq key (codes "read")
    || bytes_eq key (codes "write") || bytes_eq key (codes "notify")

abbrev pub is_family_key : List ℕ → Bool
is_family_key key =
    bytes_eq key (codes "view") || bytes_eq key (codes "subtree") || bytes_eq key (codes "mask")
    || bytes_eq key (codes "included")

abbrev pub is_community_key : List ℕ → Bool
is_community_key key =
    bytes_eq key (codes "index") || bytes_eq key (codes "name") || bytes_eq key (codes "security")
    || bytes_eq key (codes "context")

-- a row of a policy's table may have the key; a context is no table, so of one no key is unknown
abbrev pub is_row_key : PolicyTable → List ℕ → Bool
is_row_key Groups key = is_group_key key
is_row_key Access key = is_access_key key
is_row_key Families key = is_family_key key
is_row_key Contexts key = true
is_row_key Communities key = is_community_key key

abbrev pub is_key_of : Part → List ℕ → Bool
is_key_of Top key = is_top_key key
is_key_of Port key = is_port_key key
is_key_of Serve key = is_serve_key key
is_key_of (Row table) key = is_row_key table key

-- the first key that the part may not have, in the order of the members
abbrev pub unknown_key : Part → Members → Option (List ℕ)
unknown_key place no_members = None
unknown_key place (member key d ms) =
    if is_key_of place key then unknown_key place ms else Some key

-- the same of a table, where there is one
abbrev pub unknown_of : Part → Option Members → Option (List ℕ)
unknown_of place ms = option_and_then (unknown_key place) ms
