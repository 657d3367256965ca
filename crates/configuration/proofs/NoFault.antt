-- A table that says a configuration has no fault.
use Rattle.std.proofs.Common.{◌≡◌, ◌⊎◌, ℕ, zero, suc, ◌==◌, if◌then◌else◌, codes, List, [], ◌∷◌, Option, Some, None, is_some, subst, sym, ap, ◌∙◌, inl, inr}
use Rattle.std.specs.Prelude.{IsSome, IsNone}
use Rattle.std.specs.List.{slice_get}
use Rattle.std.proofs.lemmas.Bool.{cases_Bool, eqb-true}
use Rattle.toml.specs.Data.{Data, Members, as_table}
use Rattle.rstp_settings.specs.declared.config.PortConfig.{PortConfig}
use Rattle.policy_text.specs.Keys.{key_count, array_at}
use Rattle.community_core.specs.declared.fault.PolicyFault.{PolicyFault}
use Rattle.community_core.specs.Communities.{PolicyTables}
use Rattle.policy_text.specs.Policies.{Arrays, array_keys, arrays_of, IsPolicy, IsUnread, IsWrongPolicy}
use Rattle.policy_text.specs.Reading.{AreRows}
use Rattle.policy_text.proofs.StatedLemmas.{policy_reported, refused_reported}
use Rattle.configuration.specs.declared.configuration.Configuration.{Configuration}
use Rattle.configuration.specs.declared.configuration.Port.{Port}
use Rattle.configuration.specs.declared.fault.ConfigurationFault.{ConfigurationFault}
use Rattle.configuration.specs.declared.fault.ConfigurationFault.TheVariants.{Memory, BadOctets, BadText, BadAddress, BadPorts, BadPort, BadServe, BadKeys, Policy}
use Rattle.configuration.specs.declared.configuration.Serve.{Serve}
use Rattle.configuration.specs.declared.fault.PortKey.{PortKey}
use Rattle.configuration.specs.declared.fault.PortKey.TheVariants.{Ifindex, Speed, Full, Listen, Peer, Other as AnotherOfPort}
use Rattle.configuration.specs.declared.fault.ServeKey.{ServeKey}
use Rattle.configuration.specs.declared.fault.ServeKey.TheVariants.{Serve as Itself, Snmp, Workers, Rounds, Other as AnotherOfServe}
use Rattle.configuration.specs.declared.fault.PolicyKey.{PolicyKey}
use Rattle.configuration.specs.declared.fault.PolicyKey.TheVariants.{Contexts, Community, Group, Access, Family, Other as AnotherOfPolicy}
use Rattle.configuration.specs.Ports.{ifindex_at, speed_at, full_at, port_config_of, IsPort, SaysPort, ArePorts, port_says}
use Rattle.configuration.specs.PortFaults.{IsPortFault, IsFaultOf, IsBadPort}
use Rattle.configuration.specs.Serving.{IsServe, IsServeOf, IsServeRow, IsServeFault, IsFaultOf as IsServeFaultOf, IsFaultUnder}
use Rattle.configuration.specs.PolicyKeys.{IsKeysFault}
use Rattle.configuration.specs.Sockets.{IsOptional}
use Rattle.configuration.proofs.BoundLemmas.{stepped}
use Rattle.configuration.specs.Configurations.{policy_members, IsConfiguration, IsFault}

some_is_some : {A : Type 0} (o : Option A) (x : A) → o ≡ Some x → o ≡ None → ⊥
some_is_some o x e none = absurd cc

some_none : {A : Type 0} (o : Option A) (x : A) → o ≡ Some x → IsNone o → ⊥
some_none None x e none = absurd cc
some_none (Some y) x e none = absurd cc

same_some : {A : Type 0} (o : Option A) (x y : A) → o ≡ Some x → o ≡ Some y → x ≡ y
same_some o x y p q = cc

-- each value that was read says a row
stated_at : (ds : List Data) (ports : List Port) (n : ℕ) (value : Data) → AreRows port_says ds ports → slice_get ds n ≡ Some value → (port : Port) × port_says value (Some port)
stated_at [] [] n value h e = absurd cc
stated_at [] (p ∷ ports) n value h e = absurd h
stated_at (d ∷ ds) [] n value h e = absurd h
stated_at (d ∷ ds) (p ∷ ports) zero value h e =
    let same : d ≡ value = cc in
    (p, subst (λ (v : Data). port_says v (Some p)) same h.0)
stated_at (d ∷ ds) (p ∷ ports) (suc n) value h e = stated_at ds ports n value h.1 e

-- the keys of a port's configuration are there
config_there : (ms : Members) (c : PortConfig) → port_config_of ms ≡ Some c
    → IsSome (ifindex_at ms) × IsSome (speed_at ms) × IsSome (full_at ms)
config_there ms c e =
    let first = stepped (ifindex_at ms) _ c e in
    let second = stepped (speed_at ms) _ c first.2 in
    let third = stepped (full_at ms) _ c second.2 in
    (ap is_some first.1, ap is_some second.1, ap is_some third.1)

none_some : {A : Type 0} (o : Option A) → IsSome o → IsNone o → ⊥
none_some None some none = absurd cc
none_some (Some a) some none = absurd cc

-- a table that says a port has no key that is wrong
no_wrong_key : (ms : Members) (port : Port) (key : PortKey) → IsPort ms port → IsPortFault ms key → ⊥
no_wrong_key ms port Ifindex is h = none_some _ (config_there ms port.config is.config).0 h
no_wrong_key ms port Speed is h = none_some _ (config_there ms port.config is.config).1 h.1
no_wrong_key ms port Full is h = none_some _ (config_there ms port.config is.config).2 h.2
no_wrong_key ms port Listen is h = h.1 port.listen is.listen
no_wrong_key ms port Peer is h = h.2 port.peer is.peer
no_wrong_key ms port AnotherOfPort is h = h.3 is.keys

no_wrong_row : (o : Option Members) (port : Port) (key : PortKey) → SaysPort o port → IsFaultOf o key → ⊥
no_wrong_row None port key is h = is
no_wrong_row (Some ms) port key is h = no_wrong_key ms port key is h

no_bad_port : (ms : Members) (ports : List Port) (n : ℕ) (key : PortKey) → ArePorts ms ports → IsBadPort ms n key → ⊥
no_bad_port ms ports n key are bad =
    let same : are.rows ≡ bad.rows = same_some _ are.rows bad.rows are.are bad.are in
    let stated = stated_at bad.rows ports n bad.first.value (subst (λ (ds : List Data). AreRows port_says ds ports) same are.say) bad.first.here in
    no_wrong_row _ stated.0 key stated.1 bad.first.wrong

-- a table that says how to serve has none either
no_wrong_serve : (ms : Members) (serve : Serve) (key : ServeKey) → IsServe ms serve → IsServeFault ms key → ⊥
no_wrong_serve ms serve Itself is h = h
no_wrong_serve ms serve Snmp is h = h serve.snmp is.snmp
no_wrong_serve ms serve Workers is h = some_none _ serve.workers is.workers h.1
no_wrong_serve ms serve Rounds is h = some_none _ serve.rounds is.rounds h.2
no_wrong_serve ms serve AnotherOfServe is h = h.3 is.keys

no_wrong_table : (o : Option Members) (serve : Serve) (key : ServeKey) → IsServeOf o serve → IsServeFaultOf o key → ⊥
no_wrong_table None serve key is h = is
no_wrong_table (Some ms) serve key is h = no_wrong_serve ms serve key is h

no_wrong_value : (o : Option Data) (serve : Option Serve) (key : ServeKey) → IsOptional IsServeRow o serve → IsFaultUnder o key → ⊥
no_wrong_value None serve key is h = h
no_wrong_value (Some d) None key is h = is
no_wrong_value (Some d) (Some serve) key is h = no_wrong_table (as_table d) serve key is h

-- a table with the keys of a policy has none either
arrays_there : (ms : Members) (a : Arrays) → arrays_of ms ≡ Some a → (key_count ms ≡ 5) × (array_keys ms ≡ Some a)
arrays_there ms a e =
    elim (cases_Bool (key_count ms == 5)) [
      | inl five ↦ (eqb-true _ _ five, sym (ap (λ test. if test then array_keys ms else None) five) ∙ e)
      | inr other ↦ absurd (some_is_some _ a e (ap (λ test. if test then array_keys ms else None) other))
    ]

no_wrong_of : (ms : Members) (key : PolicyKey) (contexts community group access family : List Data)
    → array_at (codes "contexts") ms ≡ Some contexts → array_at (codes "community") ms ≡ Some community
    → array_at (codes "group") ms ≡ Some group → array_at (codes "access") ms ≡ Some access
    → array_at (codes "family") ms ≡ Some family → key_count ms ≡ 5 → IsKeysFault ms key → ⊥
no_wrong_of ms Contexts c m g a f cs is gs ss fs five h = some_none _ c cs h
no_wrong_of ms Community c m g a f cs is gs ss fs five h = some_none _ m is h.1
no_wrong_of ms Group c m g a f cs is gs ss fs five h = some_none _ g gs h.2
no_wrong_of ms Access c m g a f cs is gs ss fs five h = some_none _ a ss h.3
no_wrong_of ms Family c m g a f cs is gs ss fs five h = some_none _ f fs h.4
no_wrong_of ms AnotherOfPolicy c m g a f cs is gs ss fs five h = h.5 five

pub no_wrong_array : (ms : Members) (a : Arrays) (key : PolicyKey) → arrays_of ms ≡ Some a → IsKeysFault ms key → ⊥
no_wrong_array ms a key e =
    let there = arrays_there ms a e in
    let groups = stepped (array_at (codes "group") ms) _ a there.1 in
    let access = stepped (array_at (codes "access") ms) _ a groups.2 in
    let families = stepped (array_at (codes "family") ms) _ a access.2 in
    let contexts = stepped (array_at (codes "contexts") ms) _ a families.2 in
    let communities = stepped (array_at (codes "community") ms) _ a contexts.2 in
    no_wrong_of ms key _ _ _ _ _ contexts.1 communities.1 groups.1 access.1 families.1 there.0

no_policy_fault : (ms : Members) (policy : PolicyTables) (e : PolicyFault) → IsPolicy ms policy → IsUnread ms e ⊎ IsWrongPolicy ms e → ⊥
no_policy_fault ms policy e is fault = some_is_some _ policy (policy_reported ms policy is) (refused_reported ms e fault)

pub no_fault : (ms : Members) (c : Configuration) (e : ConfigurationFault) → IsConfiguration ms c → IsFault ms e → ⊥
no_fault ms c Memory is h = h
no_fault ms c BadOctets is h = h
no_fault ms c (BadText line) is h = h
no_fault ms c BadAddress is h = some_is_some _ c.address is.address h
no_fault ms c BadPorts is h = some_is_some _ is.ports.rows is.ports.are h.1
no_fault ms c (BadPort n key) is h = no_bad_port ms c.ports.items n key is.ports h.1
no_fault ms c (BadServe key) is h = no_wrong_value _ c.serve key is.serve h.2
no_fault ms c (BadKeys key) is h = no_wrong_array (policy_members ms) is.policy.stated.arrays key is.policy.stated.are h.3
no_fault ms c (Policy e) is h = no_policy_fault _ c.policy e is.policy h.3.1
