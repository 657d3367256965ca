-- The keys of a policy, beside those that a configuration has of its own.
use Rattle.std.specs.Prelude.{◌≡◌, ◌≢◌, ℕ, codes, List, Some, IsSome, IsNone}
use Rattle.toml.specs.Data.{Members}
use Rattle.policy_text.specs.Keys.{key_count, array_at}
use Rattle.policy_text.specs.Policies.{Arrays, arrays_of}
use Rattle.configuration.specs.declared.fault.PolicyKey.{PolicyKey}
use Rattle.configuration.specs.declared.fault.PolicyKey.TheVariants.{Contexts, Community, Group, Access, Family, Other}

-- the table has exactly the keys of a policy, each an array
abbrev pub HasKeys : Members → Type 0
HasKeys ms = (a : Arrays) × (arrays_of ms ≡ Some a)

-- the key holds an array, or it does not
abbrev pub HasArray : List ℕ → Members → Type 0
HasArray key ms = IsSome (array_at key ms)

abbrev pub LacksArray : List ℕ → Members → Type 0
LacksArray key ms = IsNone (array_at key ms)

-- This is the first key that is wrong, in the order of these cases.
abbrev pub IsKeysFault : Members → PolicyKey → Type 0
IsKeysFault ms Contexts = LacksArray (codes "contexts") ms
IsKeysFault ms Community =
    HasArray (codes "contexts") ms × LacksArray (codes "community") ms
IsKeysFault ms Group =
    HasArray (codes "contexts") ms × HasArray (codes "community") ms
    × LacksArray (codes "group") ms
IsKeysFault ms Access =
    HasArray (codes "contexts") ms × HasArray (codes "community") ms
    × HasArray (codes "group") ms × LacksArray (codes "access") ms
IsKeysFault ms Family =
    HasArray (codes "contexts") ms × HasArray (codes "community") ms
    × HasArray (codes "group") ms × HasArray (codes "access") ms
    × LacksArray (codes "family") ms
IsKeysFault ms Other =
    HasArray (codes "contexts") ms × HasArray (codes "community") ms
    × HasArray (codes "group") ms × HasArray (codes "access") ms
    × HasArray (codes "family") ms × (key_count ms ≢ 5)
