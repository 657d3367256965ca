-- The function reads what the relations say.
use Rattle.std.proofs.Common.{◌≡◌, ℕ, ◌+◌, ◌≤◌, ◌<◌, ◌/◌, ◌%◌, ◌&&◌, false, eqb, leb, ltb, List, [], ◌∷◌, ◌++◌, length, take, drop, slice_index, refl, sym, ap, ◌∙◌, subst, arith, Option, Some, None, Ok, Err, MatchOption}
use Rattle.std.specs.Bool.{Decides}
use Rattle.std.specs.Str.{bytes_eq}
use Rattle.std.proofs.lemmas.Bool.{cond_both, leb-true, le-leb, ltb-true, ltb-false}
use Rattle.std.proofs.lemmas.Bool.Decides.{Decides-and, Decides-eqb, Decides-like, not_from_Decides}
use Rattle.std.proofs.lemmas.Slice.Eq.{bytes_eq-Decides}
use Rattle.std.proofs.lemmas.List.{take-append-drop, drop-drop}
use Rattle.byteorder.specs.Endian.{big_number}
use Rattle.frame_core.specs.Octets.{number_at}
use Rattle.frame_core.specs.Layout.{IsBridgeId, IsVector, AreTimes, IsConfig, IsRapid, HasKind, IsBpdu, role_number}
use Rattle.frame_core.specs.Frames.{CarriesBpdu, IsFrame, IsFault}
use Rattle.frame_core.specs.Reading.{bridge_id_at, vector_in, times_in, role_of, config_in, rapid_in, has_kind, is_config, is_notice, is_rapid, bpdu_in, content_of, has_llc, carried_in, frame_with, to_bridges, is_to_bridges, frame_at}
use Rattle.frame_core.specs.declared.fault.FrameFault.{FrameFault}
use Rattle.frame_core.specs.declared.fault.FrameFault.TheVariants.{Short, TooLong, BadBpdu}
use Rattle.frame_core.specs.declared.mac.Mac.{Mac}
use Rattle.frame_core.specs.declared.mac.TheConstants.{BRIDGE_GROUP}
use Rattle.frame_core.specs.declared.bpdu.PortRole.TheVariants as roles
use Rattle.frame_core.specs.declared.bpdu.Bpdu.{Bpdu}
use Rattle.frame_core.specs.declared.bpdu.Bpdu.TheVariants.{Config, TopologyChange, Rapid}
use Rattle.frame_core.specs.declared.frame.FrameIn.{FrameIn}
use Rattle.frame_core.proofs.Same.{same_mac, Reads, reads_frame, refuses}

-- ---- fields

-- a number further on, behind a place
number_behind : (octets : List ℕ) (place more n : ℕ) → number_at octets (place + more) n ≡ number_at (drop place octets) more n
number_behind octets place more n = sym (ap (big_number n) (drop-drop more place octets))

bridge_id_read : (octets : List ℕ) (place : ℕ) → IsBridgeId (drop place octets) (bridge_id_at octets place)
bridge_id_read octets place = record {
  priority = refl;
  address = sym (ap (take 6) (drop-drop 2 place octets));
}

-- the same behind another place
bridge_id_behind : (octets : List ℕ) (place more : ℕ) → IsBridgeId (drop more (drop place octets)) (bridge_id_at octets (place + more))
bridge_id_behind octets place more =
    subst (λ l. IsBridgeId l (bridge_id_at octets (place + more))) (sym (drop-drop more place octets)) (bridge_id_read octets (place + more))

vector_read : (octets : List ℕ) → IsVector (drop 5 octets) (vector_in octets)
unfolding vector_in
vector_read octets = record {
  root = bridge_id_read octets 5;
  cost = number_behind octets 5 8 4;
  bridge = bridge_id_behind octets 5 12;
  port = number_behind octets 5 20 2;
}

times_read : (octets : List ℕ) → AreTimes (drop 27 octets) (times_in octets)
unfolding times_in
times_read octets = record {
  message_age = refl;
  max_age = number_behind octets 27 2 2;
  hello = number_behind octets 27 4 2;
  forward_delay = number_behind octets 27 6 2;
}

role_read : (n : ℕ) → n < 4 → role_number (role_of n) ≡ n
role_read n h =
    cond_both (eqb n 0) roles.Unknown _ (λ r. role_number r ≡ n) (λ e. sym ((Decides-eqb n 0).0 e)) (λ zero.
    cond_both (eqb n 1) roles.AlternateOrBackup _ (λ r. role_number r ≡ n) (λ e. sym ((Decides-eqb n 1).0 e)) (λ one.
    cond_both (eqb n 2) roles.Root roles.Designated (λ r. role_number r ≡ n) (λ e. sym ((Decides-eqb n 2).0 e)) (λ two.
    let a = not_from_Decides (eqb n 0) (Decides-eqb n 0) zero in
    let b = not_from_Decides (eqb n 1) (Decides-eqb n 1) one in
    let d = not_from_Decides (eqb n 2) (Decides-eqb n 2) two in
    omega (arith, a, b, d))))

config_read : (octets : List ℕ) → IsConfig octets (config_in octets)
unfolding config_in
config_read octets = record {
  flags = record { topology_change = refl; proposal = refl; acknowledge = refl };
  vector = vector_read octets;
  times = times_read octets;
}

rapid_read : (octets : List ℕ) → IsRapid octets (rapid_in octets)
unfolding rapid_in
rapid_read octets = record {
  flags = record {
    topology_change = refl;
    proposal = refl;
    role = role_read (slice_index octets 4 / 4 % 4) (omega arith);
    learning = refl;
    forwarding = refl;
    agreement = refl;
  };
  vector = vector_read octets;
  times = times_read octets;
}

-- ---- kinds

Decides-le : (a b : ℕ) → Decides (leb a b) (a ≤ b)
Decides-le a b = (leb-true a b, le-leb a b)

kind_reported : (octets : List ℕ) (least kind : ℕ) → Decides (has_kind octets least kind) (HasKind octets least kind)
kind_reported octets least kind =
    Decides-like (has_kind octets least kind) (λ h. record { long = h.0; protocol = h.1.0; kind_is = h.1.1 }) (λ h. (h.long, (h.protocol, h.kind_is))) (
    Decides-and (leb least (length octets)) (eqb (number_at octets 0 2) 0 && eqb (slice_index octets 3) kind) (Decides-le least (length octets)) (
    Decides-and (eqb (number_at octets 0 2) 0) (eqb (slice_index octets 3) kind) (Decides-eqb _ _) (Decides-eqb _ _)))

rapid_reported : (octets : List ℕ) → Decides (is_rapid octets) (HasKind octets 36 2 × (2 ≤ slice_index octets 2))
rapid_reported octets =
    Decides-and (has_kind octets 36 2) (leb 2 (slice_index octets 2)) (kind_reported octets 36 2) (Decides-le 2 (slice_index octets 2))

-- what a reader of a BPDU answers
EncodesBpdu : List ℕ → Option Bpdu → Type 0
EncodesBpdu octets r = MatchOption r ((b : Bpdu) → ¬ IsBpdu octets b) (λ b. IsBpdu octets b)

no_bpdu : (octets : List ℕ) → is_config octets ≡ false → is_notice octets ≡ false → is_rapid octets ≡ false → (b : Bpdu) → ¬ IsBpdu octets b
no_bpdu octets config notice rapid (Config c) h = not_from_Decides (is_config octets) (kind_reported octets 35 0) config h.0
no_bpdu octets config notice rapid TopologyChange h = not_from_Decides (is_notice octets) (kind_reported octets 4 128) notice h
no_bpdu octets config notice rapid (Rapid r) h = not_from_Decides (is_rapid octets) (rapid_reported octets) rapid (h.0, h.1)

bpdu_read : (octets : List ℕ) → EncodesBpdu octets (bpdu_in octets)
unfolding bpdu_in EncodesBpdu
bpdu_read octets =
    cond_both (is_config octets) (Some (Config (config_in octets))) _ (EncodesBpdu octets) (λ e. ((kind_reported octets 35 0).0 e, config_read octets)) (λ config.
    cond_both (is_notice octets) (Some TopologyChange) _ (EncodesBpdu octets) (λ e. (kind_reported octets 4 128).0 e) (λ notice.
    cond_both (is_rapid octets) (Some (Rapid (rapid_in octets))) None (EncodesBpdu octets) (λ e. let h = (rapid_reported octets).0 e in (h.0, h.1, rapid_read octets)) (λ rapid.
    no_bpdu octets config notice rapid)))

-- ---- frames

-- the content of a frame begins with the header
record HasLlc (frame : List ℕ) : Type 0 where
  most : number_at frame 12 2 ≤ 1500
  within : 14 + number_at frame 12 2 ≤ length frame
  header : take 3 (content_of frame) ≡ 0x42 ∷ 0x42 ∷ 0x03 ∷ []

llc_reported : (frame : List ℕ) → Decides (has_llc frame) (HasLlc frame)
llc_reported frame =
    let n = number_at frame 12 2 in
    let header = bytes_eq (take 3 (content_of frame)) (0x42 ∷ 0x42 ∷ 0x03 ∷ []) in
    Decides-like (has_llc frame) (λ h. record { most = h.0; within = h.1.0; header = h.1.1 }) (λ h. (h.most, (h.within, h.header))) (
    Decides-and (leb n 1500) (leb (14 + n) (length frame) && header) (Decides-le n 1500) (
    Decides-and (leb (14 + n) (length frame)) header (Decides-le (14 + n) (length frame)) (bytes_eq-Decides _ _)))

-- what a reader of a frame's content answers
CarriesWhat : List ℕ → Option Bpdu → Type 0
CarriesWhat frame r = MatchOption r ((b : Bpdu) → ¬ CarriesBpdu frame b) (λ b. CarriesBpdu frame b)

no_llc : (frame : List ℕ) → has_llc frame ≡ false → (b : Bpdu) → ¬ CarriesBpdu frame b
no_llc frame e b h =
    not_from_Decides (has_llc frame) (llc_reported frame) e (record { most = h.most; within = h.within; header = ap (take 3) h.content })

content_read : (frame : List ℕ) (r : Option Bpdu) → HasLlc frame → EncodesBpdu (drop 3 (content_of frame)) r → CarriesWhat frame r
unfolding EncodesBpdu CarriesWhat
content_read frame None llc none = λ b h.
    let same : h.octets ≡ drop 3 (content_of frame) = sym (ap (drop 3) h.content) in
    none b (subst (λ l. IsBpdu l b) same h.bpdu)
content_read frame (Some b) llc here = record {
  octets = drop 3 (content_of frame);
  most = llc.most;
  within = llc.within;
  content = sym (take-append-drop 3 (content_of frame)) ∙ ap (λ l. l ++ drop 3 (content_of frame)) llc.header;
  bpdu = here;
}

carried_read : (frame : List ℕ) → CarriesWhat frame (carried_in frame)
unfolding carried_in CarriesWhat
carried_read frame =
    cond_both (has_llc frame) (bpdu_in (drop 3 (content_of frame))) None (CarriesWhat frame) (λ e. content_read frame _ ((llc_reported frame).0 e) (bpdu_read _)) (λ e. no_llc frame e)

-- a frame to the bridges
bridges_read : (octets : List ℕ) (r : Option Bpdu) → 14 ≤ length octets → length octets ≤ 1518 → take 6 octets ≡ BRIDGE_GROUP.0 → CarriesWhat octets r → Reads octets (to_bridges octets r)
unfolding CarriesWhat
bridges_read octets None least most group none = refuses octets BadBpdu (least, most, group, none)
bridges_read octets (Some b) least most group here =
    reads_frame octets (frame_with octets (Some b)) (record { least = least; most = most; destination = refl; source = refl; bpdu = (same_mac _ _ group, here) })

other_read : (octets : List ℕ) → 14 ≤ length octets → length octets ≤ 1518 → is_to_bridges octets ≡ false → Reads octets (Ok (frame_with octets None))
other_read octets least most other =
    reads_frame octets (frame_with octets None) (record {
      least = least;
      most = most;
      destination = refl;
      source = refl;
      bpdu = λ group. not_from_Decides (is_to_bridges octets) (bytes_eq-Decides (take 6 octets) BRIDGE_GROUP.0) other (ap (λ (m : Mac). m.0) group);
    })

pub frame_reads : (octets : List ℕ) → Reads octets (frame_at octets)
unfolding frame_at
frame_reads octets =
    cond_both (ltb (length octets) 14) (Err Short) _ (Reads octets) (λ e. refuses octets Short (ltb-true _ _ e)) (λ least.
    cond_both (ltb 1518 (length octets)) (Err TooLong) _ (Reads octets) (λ e. refuses octets TooLong (ltb-true _ _ e)) (λ most.
    cond_both (is_to_bridges octets) (to_bridges octets (carried_in octets)) (Ok (frame_with octets None)) (Reads octets) (λ group.
    bridges_read octets (carried_in octets) (ltb-false _ _ least) (ltb-false _ _ most) ((bytes_eq-Decides (take 6 octets) BRIDGE_GROUP.0).0 group) (carried_read octets)) (λ other.
    other_read octets (ltb-false _ _ least) (ltb-false _ _ most) other)))

-- ---- both ways

pub frame_reported : (octets : List ℕ) (f : FrameIn) → IsFrame octets f → frame_at octets ≡ Ok f
frame_reported octets f h = (frame_reads octets).only f h

pub reported_frame : (octets : List ℕ) (f : FrameIn) → frame_at octets ≡ Ok f → IsFrame octets f
reported_frame octets f e = let reads : Reads octets (Ok f) = subst (λ r. Reads octets r) e (frame_reads octets) in reads.found

pub fault_reported : (octets : List ℕ) (e : FrameFault) → IsFault octets e → frame_at octets ≡ Err e
fault_reported octets e h = (frame_reads octets).exactly e h

pub reported_fault : (octets : List ℕ) (e : FrameFault) → frame_at octets ≡ Err e → IsFault octets e
reported_fault octets e h = let reads : Reads octets (Err e) = subst (λ r. Reads octets r) h (frame_reads octets) in reads.fault
