-- `==` of frames and of their parts decides whether two are one.
use Rattle.std.proofs.Common.{◌≡◌, ℕ, Bool, true, false, refl, ap, ap₂, rules, Option, Some, None}
use Rattle.std.specs.Prelude.{◌&&◌}
use Rattle.std.specs.Bool.{Decides}
use Rattle.std.specs.Option.{option_eq}
use Rattle.std.specs.Cmp.{unsigned_Decides, booleans_Decides}
use Rattle.std.proofs.lemmas.Slice.Eq.{bytes_eq-Decides}
use Rattle.frame_core.proofs.Same.{same_mac, also}
use Rattle.frame_core.specs.declared.mac.Mac.{Mac}
use Rattle.frame_core.specs.declared.bpdu.BridgeId.{BridgeId}
use Rattle.frame_core.specs.declared.bpdu.PriorityVector.{PriorityVector}
use Rattle.frame_core.specs.declared.bpdu.Times.{Times}
use Rattle.frame_core.specs.declared.bpdu.PortRole.{PortRole}
use Rattle.frame_core.specs.declared.bpdu.Config.{Config as ConfigFields}
use Rattle.frame_core.specs.declared.bpdu.Rapid.{Rapid as RapidFields}
use Rattle.frame_core.specs.declared.bpdu.Bpdu.{Bpdu}
use Rattle.frame_core.specs.declared.bpdu.Bpdu.TheVariants.{Config, TopologyChange, Rapid}
use Rattle.frame_core.specs.declared.frame.FrameIn.{FrameIn}
use Rattle.frame_core.specs.contracts.mac.MacPartialEq.TheImpl as macs
use Rattle.frame_core.specs.contracts.bpdu.BridgeIdPartialEq.TheImpl as identifiers
use Rattle.frame_core.specs.contracts.bpdu.PriorityVectorPartialEq.TheImpl as vectors
use Rattle.frame_core.specs.contracts.bpdu.TimesPartialEq.TheImpl as times
use Rattle.frame_core.specs.contracts.bpdu.PortRolePartialEq.TheImpl as roles
use Rattle.frame_core.specs.contracts.bpdu.ConfigPartialEq.TheImpl as configs
use Rattle.frame_core.specs.contracts.bpdu.RapidPartialEq.TheImpl as rapids
use Rattle.frame_core.specs.contracts.bpdu.BpduPartialEq.TheImpl as bpdus
use Rattle.frame_core.specs.contracts.frame.FrameInPartialEq.TheImpl as frames

-- two tests, and both
both : (r s : Bool) {P Q : Type 0} → Decides r P → Decides s Q → Decides (r && s) (P × Q)
both true true h k = ((λ e. (h.0 refl, k.0 refl)), λ p. refl)
both true false h k = ((λ e. cc), λ p. k.1 p.1)
both false s h k = ((λ e. cc), λ p. h.1 p.0)

-- a test of what amounts to another thing
amounts : (r : Bool) {P Q : Type 0} → Decides r P → (P → Q) → (Q → P) → Decides r Q
amounts r h to from = ((λ e. to (h.0 e)), λ q. h.1 (from q))

mac_decides : (a b : Mac) → Decides (macs.eq-value.it a b) (a ≡ b)
mac_decides a b = amounts _ (bytes_eq-Decides a.0 b.0) (same_mac a b) (λ e. ap (λ (m : Mac). m.0) e)

identifier_decides : (a b : BridgeId) → Decides (identifiers.eq-value.it a b) (a ≡ b)
identifier_decides a b =
    let of : ℕ → Mac → BridgeId = λ priority address. record { priority = priority; address = address } in
    amounts _ (both _ _ (unsigned_Decides a.priority b.priority) (mac_decides a.address b.address))
    (λ p. ap₂ of p.0 p.1)
    (λ e. (ap (λ (x : BridgeId). x.priority) e, ap (λ (x : BridgeId). x.address) e))

vector_decides : (a b : PriorityVector) → Decides (vectors.eq-value.it a b) (a ≡ b)
vector_decides a b =
    let of : BridgeId → ℕ → BridgeId → ℕ → PriorityVector = λ root cost bridge port. record { root = root; cost = cost; bridge = bridge; port = port } in
    amounts _ (both _ _ (identifier_decides a.root b.root) (both _ _ (unsigned_Decides a.cost b.cost) (both _ _ (identifier_decides a.bridge b.bridge) (unsigned_Decides a.port b.port))))
    (λ p. also (also (also (ap of p.0) p.1.0) p.1.1.0) p.1.1.1)
    (λ e. (ap (λ (x : PriorityVector). x.root) e, (ap (λ (x : PriorityVector). x.cost) e, (ap (λ (x : PriorityVector). x.bridge) e, ap (λ (x : PriorityVector). x.port) e))))

times_decides : (a b : Times) → Decides (times.eq-value.it a b) (a ≡ b)
times_decides a b =
    let of : ℕ → ℕ → ℕ → ℕ → Times = λ age most hello delay. record { message_age = age; max_age = most; hello = hello; forward_delay = delay } in
    amounts _ (both _ _ (unsigned_Decides a.message_age b.message_age) (both _ _ (unsigned_Decides a.max_age b.max_age) (both _ _ (unsigned_Decides a.hello b.hello) (unsigned_Decides a.forward_delay b.forward_delay))))
    (λ p. also (also (also (ap of p.0) p.1.0) p.1.1.0) p.1.1.1)
    (λ e. (ap (λ (x : Times). x.message_age) e, (ap (λ (x : Times). x.max_age) e, (ap (λ (x : Times). x.hello) e, ap (λ (x : Times). x.forward_delay) e))))

role_decides : (a b : PortRole) → Decides (roles.eq-value.it a b) (a ≡ b)
role_decides a b = search rules

config_decides : (a b : ConfigFields) → Decides (configs.eq-value.it a b) (a ≡ b)
config_decides a b =
    let of : Bool → Bool → Bool → PriorityVector → Times → ConfigFields = λ change proposal acknowledge vector times. record { topology_change = change; proposal = proposal; acknowledge = acknowledge; vector = vector; times = times } in
    let rest = both _ _ (vector_decides a.vector b.vector) (times_decides a.times b.times) in
    amounts _ (both _ _ (booleans_Decides a.topology_change b.topology_change) (both _ _ (booleans_Decides a.proposal b.proposal) (both _ _ (booleans_Decides a.acknowledge b.acknowledge) rest)))
    (λ p. also (also (also (also (ap of p.0) p.1.0) p.1.1.0) p.1.1.1.0) p.1.1.1.1)
    (λ e. (ap (λ (x : ConfigFields). x.topology_change) e, (ap (λ (x : ConfigFields). x.proposal) e, (ap (λ (x : ConfigFields). x.acknowledge) e, (ap (λ (x : ConfigFields). x.vector) e, ap (λ (x : ConfigFields). x.times) e)))))

rapid_decides : (a b : RapidFields) → Decides (rapids.eq-value.it a b) (a ≡ b)
rapid_decides a b =
    let of : Bool → Bool → PortRole → Bool → Bool → Bool → PriorityVector → Times → RapidFields =
    λ change proposal role learning forwarding agreement vector times. record { topology_change = change; proposal = proposal; role = role; learning = learning; forwarding = forwarding; agreement = agreement; vector = vector; times = times } in
    let rest = both _ _ (vector_decides a.vector b.vector) (times_decides a.times b.times) in
    let states = both _ _ (booleans_Decides a.learning b.learning) (both _ _ (booleans_Decides a.forwarding b.forwarding) (both _ _ (booleans_Decides a.agreement b.agreement) rest)) in
    amounts _ (both _ _ (booleans_Decides a.topology_change b.topology_change) (both _ _ (booleans_Decides a.proposal b.proposal) (both _ _ (role_decides a.role b.role) states)))
    (λ p. also (also (also (also (also (also (also (ap of p.0) p.1.0) p.1.1.0) p.1.1.1.0) p.1.1.1.1.0) p.1.1.1.1.1.0) p.1.1.1.1.1.1.0) p.1.1.1.1.1.1.1)
    (λ e. (ap (λ (x : RapidFields). x.topology_change) e, (ap (λ (x : RapidFields). x.proposal) e, (ap (λ (x : RapidFields). x.role) e, (ap (λ (x : RapidFields). x.learning) e, (ap (λ (x : RapidFields). x.forwarding) e, (ap (λ (x : RapidFields). x.agreement) e, (ap (λ (x : RapidFields). x.vector) e, ap (λ (x : RapidFields). x.times) e))))))))

-- what a BPDU says, and something else for other kinds
config_of : ConfigFields → Bpdu → ConfigFields
config_of other (Config c) = c
config_of other TopologyChange = other
config_of other (Rapid r) = other

rapid_of : RapidFields → Bpdu → RapidFields
rapid_of other (Config c) = other
rapid_of other TopologyChange = other
rapid_of other (Rapid r) = r

bpdu_decides : (a b : Bpdu) → Decides (bpdus.eq-value.it a b) (a ≡ b)
unfolding config_of rapid_of
bpdu_decides (Config a) (Config b) = amounts _ (config_decides a b) (ap Config) (ap (config_of a))
bpdu_decides (Config a) TopologyChange = ((λ e. cc), λ e. cc)
bpdu_decides (Config a) (Rapid b) = ((λ e. cc), λ e. cc)
bpdu_decides TopologyChange (Config b) = ((λ e. cc), λ e. cc)
bpdu_decides TopologyChange TopologyChange = ((λ e. refl), λ e. refl)
bpdu_decides TopologyChange (Rapid b) = ((λ e. cc), λ e. cc)
bpdu_decides (Rapid a) (Config b) = ((λ e. cc), λ e. cc)
bpdu_decides (Rapid a) TopologyChange = ((λ e. cc), λ e. cc)
bpdu_decides (Rapid a) (Rapid b) = amounts _ (rapid_decides a b) (ap Rapid) (ap (rapid_of a))

carried_decides : (a b : Option Bpdu) → Decides (option_eq bpdus.eq-value.it a b) (a ≡ b)
carried_decides None None = ((λ e. refl), λ e. refl)
carried_decides None (Some b) = ((λ e. cc), λ e. cc)
carried_decides (Some a) None = ((λ e. cc), λ e. cc)
carried_decides (Some a) (Some b) = amounts _ (bpdu_decides a b) (ap Some) (λ e. cc)

pub frame_decides : (a b : FrameIn) → Decides (frames.eq-value.it a b) (a ≡ b)
frame_decides a b =
    let of : Mac → Mac → Option Bpdu → FrameIn = λ destination source bpdu. record { destination = destination; source = source; bpdu = bpdu } in
    amounts _ (both _ _ (mac_decides a.destination b.destination) (both _ _ (mac_decides a.source b.source) (carried_decides a.bpdu b.bpdu)))
    (λ p. also (also (ap of p.0) p.1.0) p.1.1)
    (λ e. (ap (λ (x : FrameIn). x.destination) e, (ap (λ (x : FrameIn). x.source) e, ap (λ (x : FrameIn). x.bpdu) e)))
