-- What is sent is laid out as it is read.
use Rattle.std.proofs.Common.{◌≡◌, ℕ, suc, ◌+◌, ◌-◌, ◌^◌, ◌<◌, ◌≤◌, List, [], ◌∷◌, ◌++◌, length, take, drop, replicate, Some, refl, sym, ap, ◌∙◌, subst, arith, append_assoc, append-nil, length-append}
use Rattle.std.proofs.lemmas.List.{take_at, drop_at, length-replicate}
use Rattle.byteorder.specs.Endian.{big_bytes}
use Rattle.byteorder.specs.Numbers.{big_number-reads_back}
use Rattle.frame_core.specs.Octets.{number_at}
use Rattle.frame_core.specs.Layout.{IsBridgeId, IsVector, AreTimes, IsBpdu}
use Rattle.frame_core.specs.Frames.{IsFrame}
use Rattle.frame_core.specs.Sending.{bridge_id_octets, root_octets, sender_octets, vector_octets, times_octets, body_octets, head_octets, config_octets, rapid_octets, bpdu_octets, bpdu_len, address_octets, llc_octets, header_octets, frame_octets, FitsBridgeId, FitsVector, FitsTimes, FitsBpdu}
use Rattle.frame_core.specs.declared.mac.Mac.{Mac}
use Rattle.frame_core.specs.declared.mac.TheConstants.{BRIDGE_GROUP}
use Rattle.frame_core.specs.declared.bpdu.BridgeId.{BridgeId}
use Rattle.frame_core.specs.declared.bpdu.PriorityVector.{PriorityVector}
use Rattle.frame_core.specs.declared.bpdu.Times.{Times}
use Rattle.frame_core.specs.declared.bpdu.Config.{Config as ConfigFields}
use Rattle.frame_core.specs.declared.bpdu.Rapid.{Rapid as RapidFields}
use Rattle.frame_core.specs.declared.bpdu.Bpdu.{Bpdu}
use Rattle.frame_core.specs.declared.bpdu.Bpdu.TheVariants.{Config, TopologyChange, Rapid}
use Rattle.frame_core.proofs.Bits.{config_flags_laid, rapid_flags_laid}

-- lengths
pub bridge_id_len : (id : BridgeId) → FitsBridgeId id → length (bridge_id_octets id) ≡ 8
unfolding bridge_id_octets
bridge_id_len id fits = omega (arith, fits.address)

pub root_len : (v : PriorityVector) → FitsBridgeId v.root → length (root_octets v) ≡ 12
unfolding root_octets
root_len v fits = omega (arith, length-append (bridge_id_octets v.root) (big_bytes 4 v.cost), bridge_id_len v.root fits)

sender_len : (v : PriorityVector) → FitsBridgeId v.bridge → length (sender_octets v) ≡ 10
unfolding sender_octets
sender_len v fits = omega (arith, length-append (bridge_id_octets v.bridge) (big_bytes 2 v.port), bridge_id_len v.bridge fits)

pub vector_len : (v : PriorityVector) → FitsVector v → length (vector_octets v) ≡ 22
unfolding vector_octets
vector_len v fits = omega (arith, length-append (root_octets v) (sender_octets v), root_len v fits.root, sender_len v fits.bridge)

times_len : (t : Times) → length (times_octets t) ≡ 8
unfolding times_octets
times_len t = refl

pub body_len : (v : PriorityVector) (t : Times) → FitsVector v → length (body_octets v t) ≡ 30
unfolding body_octets
body_len v t fits = omega (arith, length-append (vector_octets v) (times_octets t), vector_len v fits, times_len t)

pub address_len : (source : Mac) → length source.0 ≡ 6 → length (address_octets source) ≡ 12
unfolding address_octets
address_len source six = omega (arith, six)

-- fields
number_laid : (front rest octets : List ℕ) (place n x : ℕ) → octets ≡ front ++ (big_bytes n x ++ rest) → length front ≡ place → x < 256 ^ n → x ≡ number_at octets place n
number_laid front rest octets place n x parts len fits =
    sym (ap (λ l. number_at l place n) parts ∙ ap (λ l. number_at l 0 n) (drop_at front (big_bytes n x ++ rest) place len) ∙ big_number-reads_back n x rest fits)

pub bridge_id_front : (id : BridgeId) (rest : List ℕ) → FitsBridgeId id → IsBridgeId (bridge_id_octets id ++ rest) id
unfolding bridge_id_octets
bridge_id_front id rest fits = record {
  priority = sym (big_number-reads_back 2 id.priority (id.address.0 ++ rest) fits.priority);
  address = sym (take_at id.address.0 rest 6 fits.address);
}

bridge_id_laid : (front rest octets : List ℕ) (place : ℕ) (id : BridgeId) → octets ≡ front ++ (bridge_id_octets id ++ rest) → length front ≡ place → FitsBridgeId id → IsBridgeId (drop place octets) id
bridge_id_laid front rest octets place id parts len fits =
    subst (λ l. IsBridgeId l id) (sym (ap (drop place) parts ∙ drop_at front (bridge_id_octets id ++ rest) place len)) (bridge_id_front id rest fits)

vector_laid : (v : PriorityVector) (rest : List ℕ) → FitsVector v → IsVector (vector_octets v ++ rest) v
unfolding vector_octets root_octets sender_octets
vector_laid v rest fits =
    let root = bridge_id_octets v.root in
    let cost = big_bytes 4 v.cost in
    let bridge = bridge_id_octets v.bridge in
    let port = big_bytes 2 v.port in
    let octets = ((root ++ cost) ++ (bridge ++ port)) ++ rest in
    record {
      root = subst (λ l. IsBridgeId l v.root) (sym (simp append_assoc)) (bridge_id_front v.root (cost ++ (bridge ++ (port ++ rest))) fits.root);
      cost = number_laid root (bridge ++ (port ++ rest)) octets 8 4 v.cost (simp append_assoc) (bridge_id_len v.root fits.root) fits.cost;
      bridge = bridge_id_laid (root ++ cost) (port ++ rest) octets 12 v.bridge (simp append_assoc) (root_len v fits.root) fits.bridge;
      port = number_laid ((root ++ cost) ++ bridge) rest octets 20 2 v.port (simp append_assoc) (omega (arith, length-append (root ++ cost) bridge, root_len v fits.root, bridge_id_len v.bridge fits.bridge)) fits.port;
    }

times_laid : (t : Times) (rest : List ℕ) → FitsTimes t → AreTimes (times_octets t ++ rest) t
unfolding times_octets
times_laid t rest fits = record {
  message_age = sym (big_number-reads_back 2 t.message_age (big_bytes 2 t.max_age ++ big_bytes 2 t.hello ++ big_bytes 2 t.forward_delay ++ rest) fits.message_age);
  max_age = sym (big_number-reads_back 2 t.max_age (big_bytes 2 t.hello ++ big_bytes 2 t.forward_delay ++ rest) fits.max_age);
  hello = sym (big_number-reads_back 2 t.hello (big_bytes 2 t.forward_delay ++ rest) fits.hello);
  forward_delay = sym (big_number-reads_back 2 t.forward_delay rest fits.forward_delay);
}

-- the vector and the times behind the flags
body_vector : (v : PriorityVector) (t : Times) (rest : List ℕ) → FitsVector v → IsVector (body_octets v t ++ rest) v
unfolding body_octets
body_vector v t rest fits = subst (λ l. IsVector l v) (sym (append_assoc (vector_octets v) (times_octets t) rest)) (vector_laid v (times_octets t ++ rest) fits)

body_times : (v : PriorityVector) (t : Times) (rest : List ℕ) → FitsVector v → FitsTimes t → AreTimes (drop 22 (body_octets v t ++ rest)) t
unfolding body_octets
body_times v t rest fits times =
    subst (λ l. AreTimes l t) (sym (ap (drop 22) (append_assoc (vector_octets v) (times_octets t) rest) ∙ drop_at (vector_octets v) (times_octets t ++ rest) 22 (vector_len v fits))) (times_laid t rest times)

pub config_len : (c : ConfigFields) → FitsVector c.vector → length (config_octets c) ≡ 35
unfolding config_octets head_octets
config_len c fits = omega (arith, body_len c.vector c.times fits)

pub rapid_len : (r : RapidFields) → FitsVector r.vector → length (rapid_octets r) ≡ 36
unfolding rapid_octets head_octets
rapid_len r fits = omega (arith, body_len r.vector r.times fits, length-append (body_octets r.vector r.times) (0 ∷ []))

config_laid : (c : ConfigFields) → FitsVector c.vector → FitsTimes c.times → IsBpdu (config_octets c) (Config c)
unfolding config_octets head_octets
config_laid c fits times =
    let whole = append-nil (body_octets c.vector c.times) in (
      record { long = omega (arith, body_len c.vector c.times fits); protocol = refl; kind_is = refl },
      record {
        flags = config_flags_laid c;
        vector = subst (λ l. IsVector l c.vector) whole (body_vector c.vector c.times [] fits);
        times = subst (λ l. AreTimes (drop 22 l) c.times) whole (body_times c.vector c.times [] fits times);
      },
    )

rapid_laid : (r : RapidFields) → FitsVector r.vector → FitsTimes r.times → IsBpdu (rapid_octets r) (Rapid r)
unfolding rapid_octets head_octets
rapid_laid r fits times = (
  record { long = omega (arith, body_len r.vector r.times fits, length-append (body_octets r.vector r.times) (0 ∷ [])); protocol = refl; kind_is = refl },
  omega arith,
  record {
    flags = rapid_flags_laid r;
    vector = body_vector r.vector r.times (0 ∷ []) fits;
    times = body_times r.vector r.times (0 ∷ []) fits times;
  },
)

bpdu_laid : (b : Bpdu) → FitsBpdu b → IsBpdu (bpdu_octets b) b
bpdu_laid (Config c) fits = config_laid c fits.0 fits.1
bpdu_laid TopologyChange fits = record { long = omega arith; protocol = refl; kind_is = refl }
bpdu_laid (Rapid r) fits = rapid_laid r fits.0 fits.1

pub bpdu_has_len : (b : Bpdu) → FitsBpdu b → length (bpdu_octets b) ≡ bpdu_len b
bpdu_has_len (Config c) fits = config_len c fits.0
bpdu_has_len TopologyChange fits = refl
bpdu_has_len (Rapid r) fits = rapid_len r fits.0

len_most : (b : Bpdu) → bpdu_len b ≤ 36
len_most (Config c) = omega arith
len_most TopologyChange = omega arith
len_most (Rapid r) = omega arith

three : (n : ℕ) → 3 + n ≡ suc (suc (suc n))
three n = omega arith

-- the whole frame
module _ (s0 s1 s2 s3 s4 s5 : ℕ) where
  of_six : Mac
  of_six = record { 0 = s0 ∷ s1 ∷ s2 ∷ s3 ∷ s4 ∷ s5 ∷ [] }

  frame_from : (b : Bpdu) (octets pad : List ℕ) → length octets ≡ bpdu_len b → length pad ≡ 43 - bpdu_len b → IsBpdu octets b → IsFrame ((header_octets of_six (3 + bpdu_len b) ++ octets) ++ pad) (record { destination = BRIDGE_GROUP; source = of_six; bpdu = Some b })
  unfolding of_six header_octets address_octets llc_octets
  frame_from b octets pad len padding laid =
      let n = bpdu_len b in
      let most : n ≤ 36 = len_most b in
      let total = length-append octets pad in
      let counted : number_at ((header_octets of_six (3 + n) ++ octets) ++ pad) 12 2 ≡ 3 + n = big_number-reads_back 2 (3 + n) (0x42 ∷ 0x42 ∷ 0x03 ∷ ((octets ++ pad))) (omega arith) in
      record {
        least = omega arith;
        most = omega arith;
        destination = refl;
        source = refl;
        bpdu = (
          refl,
          record {
            octets = octets;
            most = rw counted (omega arith);
            within = rw counted (omega arith);
            content = ap (λ k. take k (0x42 ∷ 0x42 ∷ 0x03 ∷ (octets ++ pad))) counted ∙ ap (λ k. take k (0x42 ∷ 0x42 ∷ 0x03 ∷ (octets ++ pad))) (three n) ∙ ap (λ l. 0x42 ∷ 0x42 ∷ 0x03 ∷ l) (take_at octets pad n len);
            bpdu = laid;
          },
        );
      }

-- six octets are six octets
six : (P : List ℕ → Type 0) → ((a b c d e f : ℕ) → P (a ∷ b ∷ c ∷ d ∷ e ∷ f ∷ [])) → (xs : List ℕ) → length xs ≡ 6 → P xs
six P h (a ∷ b ∷ c ∷ d ∷ e ∷ f ∷ []) len = h a b c d e f
six P h _ len = absurd (omega arith)

pub frame_laid : (source : Mac) (b : Bpdu) → length source.0 ≡ 6 → FitsBpdu b → IsFrame (frame_octets source b) (record { destination = BRIDGE_GROUP; source = source; bpdu = Some b })
unfolding frame_octets of_six
frame_laid source b len fits =
    let of : List ℕ → Mac = λ octets. record { 0 = octets } in
    six (λ l. IsFrame ((header_octets (of l) (3 + bpdu_len b) ++ bpdu_octets b) ++ replicate (43 - bpdu_len b) 0) (record { destination = BRIDGE_GROUP; source = of l; bpdu = Some b })) (λ s0 s1 s2 s3 s4 s5. frame_from s0 s1 s2 s3 s4 s5 b (bpdu_octets b) (replicate (43 - bpdu_len b) 0) (bpdu_has_len b fits) (length-replicate (43 - bpdu_len b) 0) (bpdu_laid b fits)) source.0 len

pub header_len : (source : Mac) (n : ℕ) → length source.0 ≡ 6 → length (header_octets source n) ≡ 17
unfolding header_octets llc_octets
header_len source n six = omega (arith, length-append (address_octets source) (big_bytes 2 n ++ 0x42 ∷ 0x42 ∷ 0x03 ∷ []), address_len source six)
