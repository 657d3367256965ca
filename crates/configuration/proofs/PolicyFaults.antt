-- The fault of a policy, as that of its configuration.
use Rattle.std.proofs.Common.{◌≡◌, ◌≢◌, ◌⊎◌, true, codes, Option, Some, None, is_some, refl}
use Rattle.toml.specs.Data.{Members}
use Rattle.community_core.specs.declared.fault.PolicyFault.{PolicyFault}
use Rattle.community_core.specs.declared.fault.PolicyFault.TheVariants.{Memory as NoMemory, Duplicate, BadLength, BadField}
use Rattle.policy_text.specs.Keys.{key_count, array_at}
use Rattle.policy_text.specs.Policies.{arrays_of, IsUnread, IsWrongPolicy}
use Rattle.configuration.specs.declared.fault.ConfigurationFault.{ConfigurationFault}
use Rattle.configuration.specs.declared.fault.ConfigurationFault.TheVariants.{Memory, BadOctets, BadText, BadAddress, BadPorts, BadPort, BadServe, BadKeys, Policy}
use Rattle.configuration.specs.Configurations.{policy_members, HasAddress, HasPorts, HasServing, IsRestFault, IsFault}
use Rattle.configuration.specs.PolicyKeys.{HasKeys, HasArray}
use Rattle.configuration.specs.Faults.{of_policy}

pub there : {A : Type 0} (o : Option A) → is_some o ≡ true → (a : A) × (o ≡ Some a)
there (Some a) h = (a, refl)
there None h = absurd cc

-- five arrays, and five keys
pub keys_there : (ms : Members) → HasArray (codes "contexts") ms → HasArray (codes "community") ms
    → HasArray (codes "group") ms → HasArray (codes "access") ms → HasArray (codes "family") ms
    → key_count ms ≡ 5 → HasKeys ms
keys_there ms contexts community group access family count =
    let a = there (array_at (codes "group") ms) group in
    let b = there (array_at (codes "access") ms) access in
    let c = there (array_at (codes "family") ms) family in
    let d = there (array_at (codes "contexts") ms) contexts in
    let e = there (array_at (codes "community") ms) community in
    there (arrays_of ms) (rw (count, a.1, b.1, c.1, d.1, e.1) refl)

-- a fault of a policy that has its keys
pub values_fault : (ms : Members) (e : PolicyFault) → HasKeys ms → (e ≢ NoMemory → IsUnread ms e ⊎ IsWrongPolicy ms e)
    → of_policy e ≢ Memory → IsRestFault ms (of_policy e)
values_fault ms NoMemory keys fault other = absurd (other refl)
values_fault ms (Duplicate t n) keys fault other = (keys, fault (λ same. cc))
values_fault ms (BadLength t n) keys fault other = (keys, fault (λ same. cc))
values_fault ms (BadField t n) keys fault other = (keys, fault (λ same. cc))

-- a fault of the rest where all before it is right
pub rest_fault : (ms : Members) (e : ConfigurationFault) → HasAddress ms → HasPorts ms → HasServing ms → IsRestFault (policy_members ms) e → IsFault ms e
rest_fault ms Memory a p s h = h
rest_fault ms BadOctets a p s h = absurd h
rest_fault ms (BadText line) a p s h = absurd h
rest_fault ms BadAddress a p s h = absurd h
rest_fault ms BadPorts a p s h = absurd h
rest_fault ms (BadPort n key) a p s h = absurd h
rest_fault ms (BadServe key) a p s h = absurd h
rest_fault ms (BadKeys key) a p s h = (a, p, s, h)
rest_fault ms (Policy e) a p s h = (a, p, s, h)
