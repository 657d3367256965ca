-- Packets sent one after another.
use Rattle.std.proofs.Common.{◌≡◌, ◌∙◌, ℕ, ◌+◌, ◌<◌, suc, List, [], ◌∷◌, ◌++◌, length, take, drop, get_or, refl, sym, ap, subst, arith, append_assoc, append-nil, length-take}
use Rattle.std.specs.Prelude.{Option, Some, None, Result, Ok, Err}
use Rattle.std.proofs.lemmas.List.{take_more}
use Rattle.std.proofs.Math.Seq.{split_at}
use Rattle.std.specs.declared.net.socket_addr.SocketAddr.{SocketAddr}
use Rattle.frame_core.specs.declared.bpdu.Bpdu.{Bpdu}
use Rattle.frame_core.specs.declared.mac.Mac.{Mac}
use Rattle.wire_core.specs.Acts.{Act, sent, failed, sent_act}
use Rattle.wire_core.specs.declared.wire.Packet.{Packet}
use Rattle.wire_core.specs.declared.wire.WireFault.{WireFault}
use Rattle.live_sending.specs.Packets.{peer_of, packets_to, reply_packets, frame_packets, bpdu_packets_at, bpdu_packets_from, bpdu_packets}
use Rattle.live_sending.specs.Sending.{sent_packet, all_sent, IsSending, fault_in, Sends}

all_sent-append : (p q : List Packet) → all_sent (p ++ q) ≡ all_sent p ++ all_sent q
all_sent-append [] q = refl
all_sent-append (x ∷ p) q = ap (λ (acts : List Act). sent_packet x ∷ acts) (all_sent-append p q)

IsSending-then : (p q : List Packet) (fault : Option WireFault) (xs ys : List Act) → IsSending p None xs → IsSending q fault ys → IsSending (p ++ q) fault (xs ++ ys)
IsSending-then p q None xs ys first next =
    ap (λ (l : List Act). l ++ ys) first ∙ ap (λ (l : List Act). all_sent p ++ l) next ∙ sym (all_sent-append p q)
IsSending-then p q (Some fault) xs ys first next = (
  p ++ next.0,
  next.1,
  next.2,
  ap (λ (l : List Packet). p ++ l) next.3 ∙ sym (append_assoc p next.0 (next.1 ∷ next.2)),
  ap (λ (l : List Act). l ++ ys) first ∙ ap (λ (l : List Act). all_sent p ++ l) next.4
      ∙ sym (append_assoc (all_sent p) (all_sent next.0) (failed fault ∷ []))
      ∙ ap (λ (l : List Act). l ++ failed fault ∷ []) (sym (all_sent-append p next.0)),
)

-- Packets were sent, and then others.
pub sends_then : {W : Type 0} (went : W → List Act → W → Type 0)
    → ((a b c : W) (xs ys : List Act) → went a xs b → went b ys c → went a (xs ++ ys) c)
    → (a b c : W) (p q : List Packet) (fault : Option WireFault)
    → Sends went a p None b → Sends went b q fault c → Sends went a (p ++ q) fault c
sends_then went goes_on a b c p q fault first next =
    (first.0 ++ next.0, goes_on a b c first.0 next.0 first.1 next.1, IsSending-then p q fault first.0 next.0 first.2 next.2)

-- One could not be sent, and the others were not tried.
pub sends_stop : {W : Type 0} (went : W → List Act → W → Type 0) (a b : W) (p q : List Packet) (fault : WireFault)
    → Sends went a p (Some fault) b → Sends went a (p ++ q) (Some fault) b
sends_stop went a b p q fault first =
    let s = first.2 in (
      first.0,
      first.1,
      (s.0, s.1, s.2 ++ q, ap (λ (l : List Packet). l ++ q) s.3 ∙ append_assoc s.0 (s.1 ∷ s.2) q, s.4),
    )

pub sends_none : {W : Type 0} (went : W → List Act → W → Type 0) → ((a : W) → went a [] a) → (a : W) → Sends went a [] None a
sends_none went starts a = ([], starts a, refl)

-- ---- one more of a list

-- the first i elements and the next one
pub one_more : {X : Type 0} (xs : List X) (i : ℕ) (x d : X) → i < length xs → x ≡ get_or xs i d → take (i + 1) xs ≡ take i xs ++ x ∷ []
one_more xs i x d lt is = take_more xs i d lt ∙ ap (λ y. take i xs ++ y ∷ []) (sym is)

pub frame_packets-append : (peers : List SocketAddr) (ports others : List ℕ) (octets : List ℕ)
    → frame_packets peers (ports ++ others) octets ≡ frame_packets peers ports octets ++ frame_packets peers others octets
frame_packets-append peers [] others octets = refl
frame_packets-append peers (port ∷ ports) others octets =
    ap (λ (l : List Packet). packets_to (peer_of peers port) octets ++ l) (frame_packets-append peers ports others octets)
    ∙ sym (append_assoc (packets_to (peer_of peers port) octets) (frame_packets peers ports octets) (frame_packets peers others octets))

pub bpdu_packets-append : (source : Mac) (peers : List SocketAddr) (port : ℕ) (bpdus others : List (Option Bpdu))
    → bpdu_packets_from source peers port (bpdus ++ others) ≡ bpdu_packets_from source peers port bpdus ++ bpdu_packets_from source peers (port + length bpdus) others
bpdu_packets-append source peers port [] others =
    let n : port + 0 ≡ port = omega arith in
    ap (λ (k : ℕ). bpdu_packets_from source peers k others) (sym n)
bpdu_packets-append source peers port (b ∷ bpdus) others =
    let n : port + 1 + length bpdus ≡ port + length (b ∷ bpdus) = omega arith in
    ap (λ (l : List Packet). bpdu_packets_at source peers port b ++ l) (bpdu_packets-append source peers (port + 1) bpdus others)
    ∙ sym (append_assoc (bpdu_packets_at source peers port b) (bpdu_packets_from source peers (port + 1) bpdus) (bpdu_packets_from source peers (port + 1 + length bpdus) others))
    ∙ ap (λ (k : ℕ). (bpdu_packets_at source peers port b ++ bpdu_packets_from source peers (port + 1) bpdus) ++ bpdu_packets_from source peers k others) n

-- a list about one of its elements
pub cut_at : {X : Type 0} (xs : List X) (i : ℕ) (x d : X) → i < length xs → x ≡ get_or xs i d → xs ≡ take i xs ++ x ∷ drop (suc i) xs
cut_at xs i x d lt is = split_at xs i d lt ∙ ap (λ y. take i xs ++ y ∷ drop (suc i) xs) (sym is)

-- ---- one packet

pub sent_one : {W : Type 0} (went : W → List Act → W → Type 0) (a b : W) (peer : SocketAddr) (octets : List ℕ) (result : Result Unit WireFault)
    → went a (sent_act peer octets result ∷ []) b → Sends went a (record { peer = peer; octets = octets } ∷ []) (fault_in result) b
sent_one went a b peer octets (Ok u) w = (sent peer octets ∷ [], w, refl)
sent_one went a b peer octets (Err fault) w =
    (failed fault ∷ [], w, ([], record { peer = peer; octets = octets }, [], refl, refl))

pub sent_to : {W : Type 0} (went : W → List Act → W → Type 0) (a b : W) (at : Option SocketAddr) (peer : SocketAddr) (octets : List ℕ) (result : Result Unit WireFault)
    → Some peer ≡ at → went a (sent_act peer octets result ∷ []) b → Sends went a (packets_to at octets) (fault_in result) b
sent_to went a b at peer octets result is w =
    subst (λ (o : Option SocketAddr). Sends went a (packets_to o octets) (fault_in result) b) is (sent_one went a b peer octets result w)

reply_is : (peer : SocketAddr) (octets : List ℕ) → 0 < length octets → reply_packets peer octets ≡ record { peer = peer; octets = octets } ∷ []
reply_is peer [] some = absurd (omega arith)
reply_is peer (x ∷ octets) some = refl

pub sent_reply : {W : Type 0} (went : W → List Act → W → Type 0) (a b : W) (peer : SocketAddr) (octets : List ℕ) (result : Result Unit WireFault)
    → 0 < length octets → went a (sent_act peer octets result ∷ []) b → Sends went a (reply_packets peer octets) (fault_in result) b
sent_reply went a b peer octets result some w =
    subst (λ (p : List Packet). Sends went a p (fault_in result) b) (sym (reply_is peer octets some)) (sent_one went a b peer octets result w)

-- ---- a frame by one port more

pub frame_goes : {W : Type 0} (went : W → List Act → W → Type 0)
    → ((a b c : W) (xs ys : List Act) → went a xs b → went b ys c → went a (xs ++ ys) c)
    → (a b c : W) (peers : List SocketAddr) (ports : List ℕ) (i port d : ℕ) (octets : List ℕ)
    → i < length ports → port ≡ get_or ports i d
    → Sends went a (frame_packets peers (take i ports) octets) None b → Sends went b (packets_to (peer_of peers port) octets) None c
    → Sends went a (frame_packets peers (take (i + 1) ports) octets) None c
frame_goes went goes_on a b c peers ports i port d octets lt is first next =
    let more = ap (λ (l : List ℕ). frame_packets peers l octets) (one_more ports i port d lt is) ∙ frame_packets-append peers (take i ports) (port ∷ []) octets
    ∙ ap (λ (l : List Packet). frame_packets peers (take i ports) octets ++ l) (append-nil (packets_to (peer_of peers port) octets)) in
    subst (λ (p : List Packet). Sends went a p None c) (sym more)
    (sends_then went goes_on a b c (frame_packets peers (take i ports) octets) (packets_to (peer_of peers port) octets) None first next)

pub frame_stops : {W : Type 0} (went : W → List Act → W → Type 0)
    → ((a b c : W) (xs ys : List Act) → went a xs b → went b ys c → went a (xs ++ ys) c)
    → (a b c : W) (peers : List SocketAddr) (ports : List ℕ) (i port d : ℕ) (octets : List ℕ) (fault : WireFault)
    → i < length ports → port ≡ get_or ports i d
    → Sends went a (frame_packets peers (take i ports) octets) None b → Sends went b (packets_to (peer_of peers port) octets) (Some fault) c
    → Sends went a (frame_packets peers ports octets) (Some fault) c
frame_stops went goes_on a b c peers ports i port d octets fault lt is first next =
    let whole = ap (λ (l : List ℕ). frame_packets peers l octets) (cut_at ports i port d lt is) ∙ frame_packets-append peers (take i ports) (port ∷ drop (suc i) ports) octets in
    subst (λ (p : List Packet). Sends went a p (Some fault) c) (sym whole)
    (sends_then went goes_on a b c (frame_packets peers (take i ports) octets) (packets_to (peer_of peers port) octets ++ frame_packets peers (drop (suc i) ports) octets) (Some fault) first
    (sends_stop went b c (packets_to (peer_of peers port) octets) (frame_packets peers (drop (suc i) ports) octets) fault next))

-- ---- what one port more sends

pub bpdus_go : {W : Type 0} (went : W → List Act → W → Type 0)
    → ((a b c : W) (xs ys : List Act) → went a xs b → went b ys c → went a (xs ++ ys) c)
    → (a b c : W) (source : Mac) (peers : List SocketAddr) (bpdus : List (Option Bpdu)) (i port : ℕ) (bpdu d : Option Bpdu)
    → i < length bpdus → bpdu ≡ get_or bpdus i d → port ≡ 1 + i
    → Sends went a (bpdu_packets source peers (take i bpdus)) None b → Sends went b (bpdu_packets_at source peers port bpdu) None c
    → Sends went a (bpdu_packets source peers (take (i + 1) bpdus)) None c
bpdus_go went goes_on a b c source peers bpdus i port bpdu d lt is number first next =
    let place : 1 + length (take i bpdus) ≡ port = omega (arith, length-take i bpdus, lt) in
    let more = ap (λ (l : List (Option Bpdu)). bpdu_packets source peers l) (one_more bpdus i bpdu d lt is) ∙ bpdu_packets-append source peers 1 (take i bpdus) (bpdu ∷ [])
    ∙ ap (λ (l : List Packet). bpdu_packets source peers (take i bpdus) ++ l) (append-nil (bpdu_packets_at source peers (1 + length (take i bpdus)) bpdu))
    ∙ ap (λ (k : ℕ). bpdu_packets source peers (take i bpdus) ++ bpdu_packets_at source peers k bpdu) place in
    subst (λ (p : List Packet). Sends went a p None c) (sym more)
    (sends_then went goes_on a b c (bpdu_packets source peers (take i bpdus)) (bpdu_packets_at source peers port bpdu) None first next)

pub bpdus_stop : {W : Type 0} (went : W → List Act → W → Type 0)
    → ((a b c : W) (xs ys : List Act) → went a xs b → went b ys c → went a (xs ++ ys) c)
    → (a b c : W) (source : Mac) (peers : List SocketAddr) (bpdus : List (Option Bpdu)) (i port : ℕ) (bpdu d : Option Bpdu) (fault : WireFault)
    → i < length bpdus → bpdu ≡ get_or bpdus i d → port ≡ 1 + i
    → Sends went a (bpdu_packets source peers (take i bpdus)) None b → Sends went b (bpdu_packets_at source peers port bpdu) (Some fault) c
    → Sends went a (bpdu_packets source peers bpdus) (Some fault) c
bpdus_stop went goes_on a b c source peers bpdus i port bpdu d fault lt is number first next =
    let place : 1 + length (take i bpdus) ≡ port = omega (arith, length-take i bpdus, lt) in
    let rest = drop (suc i) bpdus in
    let whole = ap (λ (l : List (Option Bpdu)). bpdu_packets source peers l) (cut_at bpdus i bpdu d lt is) ∙ bpdu_packets-append source peers 1 (take i bpdus) (bpdu ∷ rest)
    ∙ ap (λ (k : ℕ). bpdu_packets source peers (take i bpdus) ++ (bpdu_packets_at source peers k bpdu ++ bpdu_packets_from source peers (k + 1) rest)) place in
    subst (λ (p : List Packet). Sends went a p (Some fault) c) (sym whole)
    (sends_then went goes_on a b c (bpdu_packets source peers (take i bpdus)) (bpdu_packets_at source peers port bpdu ++ bpdu_packets_from source peers (port + 1) rest) (Some fault) first
    (sends_stop went b c (bpdu_packets_at source peers port bpdu) (bpdu_packets_from source peers (port + 1) rest) fault next))
