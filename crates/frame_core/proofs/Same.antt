-- Octets have one meaning.
use Rattle.std.proofs.Common.{◌≡◌, ℕ, ◌+◌, ◌≤◌, Bool, true, false, List, [], ◌∷◌, ◌++◌, length, take, drop, ◌<◌, refl, sym, ap, ap₂, ◌∙◌, subst, arith, Option, Some, None, Result, Ok, Err, IfOk, IfErr, MatchOption, ◌≢◌}
use Rattle.std.specs.Prelude.{not}
use Rattle.std.specs.Str.{bytes_eq}
use Rattle.std.proofs.lemmas.Slice.Eq.{bytes_eq-Decides}
use Rattle.std.proofs.lemmas.List.{take-append-drop}
use Rattle.frame_core.specs.Octets.{number_at}
use Rattle.frame_core.specs.Layout.{IsBridgeId, IsVector, AreTimes, IsConfig, IsRapid, HasKind, IsBpdu, role_number}
use Rattle.frame_core.specs.Frames.{CarriesBpdu, IsFrame, IsFault}
use Rattle.frame_core.specs.declared.fault.FrameFault.{FrameFault}
use Rattle.frame_core.specs.declared.fault.FrameFault.TheVariants.{Short, TooLong, BadBpdu}
use Rattle.frame_core.specs.declared.mac.TheConstants.{BRIDGE_GROUP}
use Rattle.frame_core.specs.declared.bpdu.BridgeId.{BridgeId}
use Rattle.frame_core.specs.declared.bpdu.PriorityVector.{PriorityVector}
use Rattle.frame_core.specs.declared.bpdu.Times.{Times}
use Rattle.frame_core.specs.declared.bpdu.PortRole.{PortRole}
use Rattle.frame_core.specs.declared.bpdu.PortRole.TheVariants as roles
use Rattle.frame_core.specs.declared.bpdu.Config.{Config as ConfigFields}
use Rattle.frame_core.specs.declared.bpdu.Rapid.{Rapid as RapidFields}
use Rattle.frame_core.specs.declared.bpdu.Bpdu.{Bpdu}
use Rattle.frame_core.specs.declared.bpdu.Bpdu.TheVariants.{Config, TopologyChange, Rapid}
use Rattle.frame_core.specs.declared.frame.FrameIn.{FrameIn}
use Rattle.frame_core.specs.declared.mac.Mac.{Mac}

pub same_mac : (a b : Mac) → a.0 ≡ b.0 → a ≡ b
same_mac a b e = let of : List ℕ → Mac = λ octets. record { 0 = octets } in ap of e

same_bridge_id : (octets : List ℕ) (x y : BridgeId) → IsBridgeId octets x → IsBridgeId octets y → x ≡ y
same_bridge_id octets x y h k =
    let of : ℕ → Mac → BridgeId = λ priority address. record { priority = priority; address = address } in
    ap₂ of (h.priority ∙ sym k.priority) (same_mac _ _ (h.address ∙ sym k.address))

-- functions that are the same give the same of the same
pub also : {A B : Type 0} {f g : A → B} {a b : A} → f ≡ g → a ≡ b → f a ≡ g b
also e h = ap₂ (λ f a. f a) e h

same_vector : (octets : List ℕ) (x y : PriorityVector) → IsVector octets x → IsVector octets y → x ≡ y
same_vector octets x y h k =
    let of : BridgeId → ℕ → BridgeId → ℕ → PriorityVector = λ root cost bridge port. record { root = root; cost = cost; bridge = bridge; port = port } in
    also (also (also (ap of (same_bridge_id _ _ _ h.root k.root)) (h.cost ∙ sym k.cost)) (same_bridge_id _ _ _ h.bridge k.bridge)) (h.port ∙ sym k.port)

same_times : (octets : List ℕ) (x y : Times) → AreTimes octets x → AreTimes octets y → x ≡ y
same_times octets x y h k =
    let of : ℕ → ℕ → ℕ → ℕ → Times = λ age most hello delay. record { message_age = age; max_age = most; hello = hello; forward_delay = delay } in
    also (also (also (ap of (h.message_age ∙ sym k.message_age)) (h.max_age ∙ sym k.max_age)) (h.hello ∙ sym k.hello)) (h.forward_delay ∙ sym k.forward_delay)

same_role : (r s : PortRole) → role_number r ≡ role_number s → r ≡ s
same_role roles.Unknown roles.Unknown e = refl
same_role roles.AlternateOrBackup roles.AlternateOrBackup e = refl
same_role roles.Root roles.Root e = refl
same_role roles.Designated roles.Designated e = refl
same_role _ _ e = absurd (omega arith)

same_config : (octets : List ℕ) (x y : ConfigFields) → IsConfig octets x → IsConfig octets y → x ≡ y
same_config octets x y h k =
    let of : Bool → Bool → Bool → PriorityVector → Times → ConfigFields = λ change proposal acknowledge vector times. record { topology_change = change; proposal = proposal; acknowledge = acknowledge; vector = vector; times = times } in
    let flags = also (also (ap of (h.flags.topology_change ∙ sym k.flags.topology_change)) (h.flags.proposal ∙ sym k.flags.proposal)) (h.flags.acknowledge ∙ sym k.flags.acknowledge) in
    also (also flags (same_vector _ _ _ h.vector k.vector)) (same_times _ _ _ h.times k.times)

same_rapid : (octets : List ℕ) (x y : RapidFields) → IsRapid octets x → IsRapid octets y → x ≡ y
same_rapid octets x y h k =
    let of : Bool → Bool → PortRole → Bool → Bool → Bool → PriorityVector → Times → RapidFields =
    λ change proposal role learning forwarding agreement vector times. record { topology_change = change; proposal = proposal; role = role; learning = learning; forwarding = forwarding; agreement = agreement; vector = vector; times = times } in
    let first = also (also (ap of (h.flags.topology_change ∙ sym k.flags.topology_change)) (h.flags.proposal ∙ sym k.flags.proposal)) (same_role _ _ (h.flags.role ∙ sym k.flags.role)) in
    let flags = also (also (also first (h.flags.learning ∙ sym k.flags.learning)) (h.flags.forwarding ∙ sym k.flags.forwarding)) (h.flags.agreement ∙ sym k.flags.agreement) in
    also (also flags (same_vector _ _ _ h.vector k.vector)) (same_times _ _ _ h.times k.times)

-- two types in one octet
other_kind : {A : Type 0} (octets : List ℕ) (l m j k : ℕ) → HasKind octets l j → HasKind octets m k → j < k → A
other_kind octets l m j k h g lt = absurd (omega (arith, h.kind_is, g.kind_is))

pub same_bpdu : (octets : List ℕ) (x y : Bpdu) → IsBpdu octets x → IsBpdu octets y → x ≡ y
same_bpdu octets (Config x) (Config y) h k = ap Config (same_config octets x y h.1 k.1)
same_bpdu octets (Config x) TopologyChange h k = other_kind octets _ _ 0 128 h.0 k (omega arith)
same_bpdu octets (Config x) (Rapid y) h k = other_kind octets _ _ 0 2 h.0 k.0 (omega arith)
same_bpdu octets TopologyChange (Config y) h k = other_kind octets _ _ 0 128 k.0 h (omega arith)
same_bpdu octets TopologyChange TopologyChange h k = refl
same_bpdu octets TopologyChange (Rapid y) h k = other_kind octets _ _ 2 128 k.0 h (omega arith)
same_bpdu octets (Rapid x) (Config y) h k = other_kind octets _ _ 0 2 k.0 h.0 (omega arith)
same_bpdu octets (Rapid x) TopologyChange h k = other_kind octets _ _ 2 128 h.0 k (omega arith)
same_bpdu octets (Rapid x) (Rapid y) h k = ap Rapid (same_rapid octets x y h.2 k.2)

same_carried : (frame : List ℕ) (x y : Bpdu) → CarriesBpdu frame x → CarriesBpdu frame y → x ≡ y
same_carried frame x y h k =
    let e : h.octets ≡ k.octets = let joined = sym h.content ∙ k.content in cc in
    same_bpdu k.octets x y (subst (λ l. IsBpdu l x) e h.bpdu) k.bpdu

same_carriage : (octets : List ℕ) (d : Mac) (x y : Option Bpdu) → MatchOption x (d ≢ BRIDGE_GROUP) (λ b. (d ≡ BRIDGE_GROUP) × CarriesBpdu octets b) → MatchOption y (d ≢ BRIDGE_GROUP) (λ b. (d ≡ BRIDGE_GROUP) × CarriesBpdu octets b) → x ≡ y
same_carriage octets d None None h k = refl
same_carriage octets d None (Some y) h k = absurd (h k.0)
same_carriage octets d (Some x) None h k = absurd (k h.0)
same_carriage octets d (Some x) (Some y) h k = ap Some (same_carried octets x y h.1 k.1)

pub same_frame : (octets : List ℕ) (f g : FrameIn) → IsFrame octets f → IsFrame octets g → f ≡ g
same_frame octets f g h k =
    let of : Mac → Mac → Option Bpdu → FrameIn = λ destination source bpdu. record { destination = destination; source = source; bpdu = bpdu } in
    let d = same_mac g.destination f.destination (k.destination ∙ sym h.destination) in
    let s = same_mac f.source g.source (h.source ∙ sym k.source) in
    let other = subst (λ m. MatchOption g.bpdu (m ≢ BRIDGE_GROUP) (λ b. (m ≡ BRIDGE_GROUP) × CarriesBpdu octets b)) d k.bpdu in
    also (also (ap of (sym d)) s) (same_carriage octets f.destination f.bpdu g.bpdu h.bpdu other)

-- what is refused is no frame
pub fault_no_frame : (octets : List ℕ) (e : FrameFault) (f : FrameIn) → IsFault octets e → IsFrame octets f → ⊥
fault_no_frame octets Short f short h = omega (arith, h.least)
fault_no_frame octets TooLong f long h = omega (arith, h.most)
fault_no_frame octets BadBpdu f bad h = no_bpdu f.bpdu h.bpdu
  where
    no_bpdu : (x : Option Bpdu) → MatchOption x (f.destination ≢ BRIDGE_GROUP) (λ b. (f.destination ≡ BRIDGE_GROUP) × CarriesBpdu octets b) → ⊥
    no_bpdu None h' = h' (same_mac f.destination BRIDGE_GROUP (h.destination ∙ bad.2))
    no_bpdu (Some b) h' = bad.3 b h'.1

-- and for one reason
pub same_fault : (octets : List ℕ) (e d : FrameFault) → IsFault octets e → IsFault octets d → e ≡ d
same_fault octets Short Short h k = refl
same_fault octets TooLong TooLong h k = refl
same_fault octets BadBpdu BadBpdu h k = refl
same_fault octets Short TooLong h k = absurd (omega arith)
same_fault octets Short BadBpdu h k = absurd (omega (arith, k.0))
same_fault octets TooLong Short h k = absurd (omega arith)
same_fault octets TooLong BadBpdu h k = absurd (omega (arith, k.1))
same_fault octets BadBpdu Short h k = absurd (omega (arith, h.0))
same_fault octets BadBpdu TooLong h k = absurd (omega (arith, h.1))

-- what a reader answers, right in all four ways
pub record Reads (octets : List ℕ) (r : Result FrameIn FrameFault) : Type 0 where
  pub found : IfOk r (λ f. IsFrame octets f)
  pub only : (f : FrameIn) → IsFrame octets f → r ≡ Ok f
  pub fault : IfErr r (λ e. IsFault octets e)
  pub exactly : (e : FrameFault) → IsFault octets e → r ≡ Err e

pub reads_frame : (octets : List ℕ) (f : FrameIn) → IsFrame octets f → Reads octets (Ok f)
reads_frame octets f h = record {
  found = h;
  only = λ g k. ap Ok (same_frame octets f g h k);
  fault = tt;
  exactly = λ e k. absurd (fault_no_frame octets e f k h);
}

pub refuses : (octets : List ℕ) (e : FrameFault) → IsFault octets e → Reads octets (Err e)
refuses octets e h = record {
  found = tt;
  only = λ f k. absurd (fault_no_frame octets e f h k);
  fault = h;
  exactly = λ d k. ap Err (same_fault octets e d h k);
}

-- an address that `!=` does not separate from the group address
pub group_from : (d : Mac) → false ≡ not (bytes_eq d.0 BRIDGE_GROUP.0) → d ≡ BRIDGE_GROUP
group_from d e = same_mac d BRIDGE_GROUP ((bytes_eq-Decides d.0 BRIDGE_GROUP.0).0 (reported (bytes_eq d.0 BRIDGE_GROUP.0) e))
  where
    reported : (b : Bool) → false ≡ not b → b ≡ true
    reported true h = refl
    reported false h = cc

-- an address that `!=` separates from the group address
pub other_from : (d : Mac) → true ≡ not (bytes_eq d.0 BRIDGE_GROUP.0) → d ≢ BRIDGE_GROUP
other_from d e = λ group. reported (bytes_eq d.0 BRIDGE_GROUP.0) e ((bytes_eq-Decides d.0 BRIDGE_GROUP.0).1 (ap (λ (m : Mac). m.0) group))
  where
    reported : (b : Bool) → true ≡ not b → b ≡ true → ⊥
    reported true h k = cc
    reported false h k = cc

-- a frame to another address
pub to_other : (octets : List ℕ) (d s : Mac) → 14 ≤ length octets → length octets ≤ 1518 → d.0 ≡ take 6 octets → s.0 ≡ take 6 (drop 6 octets) → d ≢ BRIDGE_GROUP → IsFrame octets (record { destination = d; source = s; bpdu = None })
to_other octets d s least most at behind other = record { least = least; most = most; destination = at; source = behind; bpdu = other }

-- a frame to the group address, with what it carries
pub to_group : (octets : List ℕ) (d s : Mac) (b : Bpdu) → 14 ≤ length octets → length octets ≤ 1518 → d.0 ≡ take 6 octets → s.0 ≡ take 6 (drop 6 octets) → d ≡ BRIDGE_GROUP → CarriesBpdu octets b → IsFrame octets (record { destination = d; source = s; bpdu = Some b })
to_group octets d s b least most at behind group carried = record { least = least; most = most; destination = at; source = behind; bpdu = (group, carried) }

-- what the octets behind the header are, the frame carries
pub carried_from : (frame content octets : List ℕ) (n : ℕ) (r : Option Bpdu) → n ≡ number_at frame 12 2 → n ≤ 1500 → 14 + n ≤ length frame → content ≡ take n (drop 14 frame) → bytes_eq (take 3 content) (0x42 ∷ 0x42 ∷ 0x03 ∷ []) ≡ true → octets ≡ drop 3 content → MatchOption r ((b : Bpdu) → ¬ IsBpdu octets b) (λ b. IsBpdu octets b) → MatchOption r ((b : Bpdu) → ¬ CarriesBpdu frame b) (λ b. CarriesBpdu frame b)
carried_from frame content octets n r number most within part llc behind found =
    let head : take 3 content ≡ 0x42 ∷ 0x42 ∷ 0x03 ∷ [] = (bytes_eq-Decides (take 3 content) (0x42 ∷ 0x42 ∷ 0x03 ∷ [])).0 llc in
    let whole : take (number_at frame 12 2) (drop 14 frame) ≡ 0x42 ∷ 0x42 ∷ 0x03 ∷ octets =
    ap (λ k. take k (drop 14 frame)) (sym number) ∙ sym part ∙ sym (take-append-drop 3 content) ∙ ap₂ (λ x y. x ++ y) head (sym behind) in
    matched r whole found
  where
    matched : (o : Option Bpdu) → take (number_at frame 12 2) (drop 14 frame) ≡ 0x42 ∷ 0x42 ∷ 0x03 ∷ octets → MatchOption o ((b : Bpdu) → ¬ IsBpdu octets b) (λ b. IsBpdu octets b) → MatchOption o ((b : Bpdu) → ¬ CarriesBpdu frame b) (λ b. CarriesBpdu frame b)
    matched None whole none = λ b h.
        let joined = sym h.content ∙ whole in
        let same : h.octets ≡ octets = cc in
        none b (subst (λ l. IsBpdu l b) same h.bpdu)
    matched (Some b) whole here = record { octets = octets; most = rw (sym number) most; within = rw (sym number) within; content = whole; bpdu = here }
