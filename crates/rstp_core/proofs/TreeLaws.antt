-- The laws of legal settings and trees.
use Rattle.std.proofs.Common.{◌≡◌, ◌≢◌, ℕ, zero, suc, ◌+◌, ◌-◌, ◌*◌, ◌%◌, ◌<◌, ◌≤◌, Bool, true, false, ◌&&◌, not, eqb, ◌⊎◌, inl, inr, List, length, get_or, min, refl, sym, ap, subst, ◌∙◌, arith, Contains, ◌↔◌}
use Rattle.std.specs.Prelude.{Some}
use Rattle.std.specs.List.{filter_map}
use Rattle.std.specs.Cmp.{nat_cmp_is}
use Rattle.std.specs.declared.cmp.Ordering.{Ordering}
use Rattle.std.specs.declared.cmp.Ordering.TheVariants.{Less, Equal, Greater}
use Rattle.std.specs.Ordering.{nat_cmp, ordering_then, ordering_reverse, is_lt}
use Rattle.std.proofs.lemmas.List.Elements.{All-head}
use Rattle.std.proofs.lemmas.Bool.Decides.{eqb_tells}
use Rattle.std.proofs.lemmas.Map.Views.{exact_unsigned_eq}
use Rattle.std.proofs.lemmas.Slice.Eq.{bytes_eq-Decides}
use Rattle.std.specs.Cmp.{IsTotalOrder}
use Rattle.frame_core.specs.declared.mac.Mac.{Mac}
use Rattle.frame_core.specs.declared.bpdu.BridgeId.{BridgeId}
use Rattle.rstp_settings.specs.Table.{Table, get}
use Rattle.rstp_settings.specs.declared.key.Key.TheVariants as key
use Rattle.rstp_settings.specs.declared.key.PortKey.TheVariants as port
use Rattle.rstp_rules.specs.declared.port.Port.{Port}
use Rattle.rstp_rules.specs.declared.row.PortInEvent.{PortInEvent}
use Rattle.rstp_rules.specs.declared.row.Best.{Best}
use Rattle.rstp_rules.specs.Ports.{is_received, is_root_or_designated}
use Rattle.rstp_rules.specs.Vectors.{port_number, bridge_cmp}
use Rattle.frame_core.specs.Octets.{same_mac}
use Rattle.rstp_rules.specs.Lines.{own_id}
use Rattle.rstp_settings.specs.Config.{cost_in_use, no_config}
use Rattle.rstp_rules.specs.Roles.{candidate, candidates, own_best, beats}
use Rattle.rstp_rules.specs.Turns.{no_row}
use Rattle.rstp_core.specs.declared.rstp.Outcome.{Outcome}
use Rattle.rstp_core.specs.Tree.{Tree, rows_of}
use Rattle.rstp_core.specs.Runs.{Happening, Happens, IsRootPort, LeavesActivity}
use Rattle.rstp_core.specs.Legal.{IsLegal, IsRootBridge}
use Rattle.rstp_core.proofs.Bests.{bridge_total}
use Rattle.rstp_core.proofs.Roled.{choice-root, choice-first, own_vector, offered_if}
use Rattle.rstp_core.proofs.Places.{IsFrom, candidate_from}
use Rattle.rstp_core.proofs.TurnsClosed.{same_number}
use Rattle.rstp_core.proofs.Happenings.{Left-at, id_of, row_at, event_of}
use Rattle.rstp_core.proofs.LegalTrees.{rows_are, row_is, row_chosen, row_role, legal_ready}

cost_above : (setting speed : ℕ) → 1 ≤ cost_in_use setting speed
cost_above setting speed = elim (eqb_tells setting 0) [
  | inl e ↦ rw e.0 (default speed)
  | inr d ↦ rw d.0 (omega (arith, d.1))
] where
  default : (speed : ℕ) → 1 ≤ cost_in_use 0 speed
  default speed = elim (eqb_tells speed 10) [
    | inl e ↦ rw e.0 (omega arith)
    | inr d ↦ rw d.0 (elim (eqb_tells speed 100) [ inl e ↦ rw e.0 (omega arith) | inr f ↦ rw f.0 (omega arith) ])
  ]

same_place : (p q m n r : ℕ) → r ≡ 256 * p + m → r ≡ 256 * q + n → m < 256 → n < 256 → m ≡ n
same_place p q m n r e f h i = omega arith

-- the bridge's own vector beats one with its id as root and some cost
cmp_same : {K : Type 0} (R : K → K → Ordering) → IsTotalOrder R → (x : K) → R x x ≡ Equal
cmp_same R o x = by (R x x) (o.antisymm x x) where
  by : (c : Ordering) → c ≡ ordering_reverse c → c ≡ Equal
  by Less e = cc
  by Equal e = refl
  by Greater e = cc

then_less : (o p q r : Ordering) → o ≡ Equal → p ≡ Less → is_lt (ordering_then (ordering_then o (ordering_then p q)) r) ≡ true
then_less Equal Less q r e f = refl
then_less Less p q r e f = cc
then_less Greater p q r e f = cc
then_less Equal Equal q r e f = cc
then_less Equal Greater q r e f = cc

own_beats : (own : BridgeId) (b : Best) → b.vector.root ≡ own → 1 ≤ b.vector.cost → beats (own_best own) b ≡ true
own_beats own b e h = then_less (bridge_cmp own b.vector.root) (nat_cmp 0 b.vector.cost) _ _ (ap (bridge_cmp own) e ∙ cmp_same bridge_cmp bridge_total own) (sym (nat_cmp_is 0 b.vector.cost Less (omega (arith, h))))

-- a root port: the root vector came by it
record IsRootAt (s : Table) (t : Tree) (k : ℕ) : Type 0 where
  within : k < length t.ports
  receiver : t.facts.root.receiver ≡ id_of s (1 + k)

root_at : (s : Table) (t : Tree) → IsLegal s t → (n : ℕ) → IsRootPort t n → IsRootAt s t (n - 1)
root_at s t h n p =
    let k = n - 1 in
    let within : k < length t.ports = omega (arith, p.has_port.0, p.has_port.1) in
    let q = row_at s t k in
    let own = own_id s t.address in
    let best = t.facts.root in
    let role = row_role own best q (row_chosen s t h k within) ∙ p.root in
    record {
      within = within;
      receiver = exact_unsigned_eq _ _ (choice-root q.inputs.on _ _ _ (own_vector own best q.inputs.id) q.port.info q.port.vector role);
    }

pub one_root_port : (s : Table) (t : Tree) → IsLegal s t → length t.ports ≤ 32 → (m n : ℕ) → IsRootPort t m → IsRootPort t n → m ≡ n
one_root_port s t h small m n p q =
    let one = root_at s t h m p in
    let two = root_at s t h n q in
    let same : 1 + (m - 1) ≡ 1 + (n - 1) = same_place _ _ _ _ _ one.receiver two.receiver (omega (arith, one.within, small)) (omega (arith, two.within, small)) in
    omega (arith, same, p.has_port.0, q.has_port.0)

-- what a row offers
record IsOffer (own : BridgeId) (r : PortInEvent) (b : Best) : Type 0 where
  on : r.inputs.on ≡ true
  received : is_received r.port.info ≡ true
  other : same_mac r.port.vector.bridge.address own.address ≡ false
  receiver : b.receiver ≡ r.inputs.id
  cost : b.vector.cost ≡ min (r.port.vector.cost + r.inputs.cost) 4294967295

three : (x y z : Bool) → (x && y && not z) ≡ true → (x ≡ true) × (y ≡ true) × (z ≡ false)
three true true false e = (refl, refl, refl)
three true true true e = cc
three true false z e = cc
three false y z e = cc

offer : (own : BridgeId) (r : PortInEvent) (b : Best) → candidate own r ≡ Some b → IsOffer own r b
offer own r b e =
    let h = offered_if (r.inputs.on && is_received r.port.info && not (same_mac r.port.vector.bridge.address own.address)) (record { vector = record r.port.vector { cost = min (r.port.vector.cost + r.inputs.cost) 4294967295 }; receiver = r.inputs.id }) b e in
    let each = three r.inputs.on (is_received r.port.info) (same_mac r.port.vector.bridge.address own.address) h.0 in
    record {
      on = each.0;
      received = each.1;
      other = each.2;
      receiver = ap (λ (x : Best). x.receiver) (sym h.1);
      cost = ap (λ (x : Best). x.vector.cost) (sym h.1);
    }

-- The root vector is this bridge's own, or what a port offers.
record IsOffered (s : Table) (t : Tree) (k : ℕ) : Type 0 where
  within : k < length t.ports
  offered : IsOffer (own_id s t.address) (row_at s t k) t.facts.root

source : (own : BridgeId) (rows : List PortInEvent) (b : Best) (k : ℕ) → k < length (candidates own rows) → get_or (candidates own rows) k b ≡ b → (b ≡ own_best own) ⊎ IsFrom own rows b
source own rows b zero h e = inl (sym e)
source own rows b (suc k) h e = inr (candidate_from own rows b k (omega arith) e)

root_source : (s : Table) (t : Tree) → IsLegal s t → IsRootBridge s t ⊎ ((k : ℕ) × IsOffered s t k)
root_source s t h =
    let own = own_id s t.address in
    let rows = rows_of s t in
    let best = t.facts.root in
    let one = h.roles.root.one in
    elim (source own rows best one.0 one.1 one.2) [
      | inl e ↦ inl e
      | inr from ↦
          let within : from.place < length t.ports = omega (arith, from.within, rows_are s t h.configured) in
          inr (from.place, record { within = within; offered = offer own (row_at s t from.place) best (ap (candidate own) (sym (row_is s t h.configured from.place within)) ∙ from.offers) })
    ]

-- the port that offers it is the root port
offered_root : (s : Table) (t : Tree) → IsLegal s t → (k : ℕ) → IsOffered s t k → IsRootPort t (1 + k)
offered_root s t h k o =
    let q = row_at s t k in
    let own = own_id s t.address in
    let best = t.facts.root in
    let first = sym (ap (λ (x : ℕ). eqb best.receiver x) (o.offered.receiver)) ∙ same_number best.receiver in
    let role = sym (row_role own best q (row_chosen s t h k o.within)) ∙ choice-first q.inputs.on _ _ _ (own_vector own best q.inputs.id) q.port.info q.port.vector o.offered.on o.offered.received first in
    let place : (1 + k) - 1 ≡ k = omega arith in
    record {
      has_port = (omega arith, omega (arith, o.within));
      root = ap (λ (i : ℕ). (get_or t.ports i no_row.port).role) place ∙ role;
    }

no_own : (s : Table) (t : Tree) → IsLegal s t → IsRootBridge s t → (n : ℕ) → IsRootPort t n → ⊥
no_own s t h own n p =
    let at = root_at s t h n p in
    omega (arith, at.receiver, ap (λ (b : Best). b.receiver) own)

pub no_root_port : (s : Table) (t : Tree) → IsLegal s t → ((n : ℕ) → ¬ IsRootPort t n) ↔ IsRootBridge s t
no_root_port s t h = (
  λ none. elim (root_source s t h) [ inl e ↦ e | inr o ↦ absurd (none (1 + o.0) (offered_root s t h o.0 o.1)) ],
  λ own n p. no_own s t h own n p,
)

above_is : (c d x : ℕ) → x ≡ min (c + d) 4294967295 → 1 ≤ d → 1 ≤ x
above_is c d x e h = omega (arith, e, h)

pub own_root : (s : Table) (t : Tree) → IsLegal s t → (t.facts.root.vector.root ≡ own_id s t.address) ↔ IsRootBridge s t
own_root s t h = (λ same. by same (root_source s t h), λ e. ap (λ (b : Best). b.vector.root) e) where
  by : t.facts.root.vector.root ≡ own_id s t.address → IsRootBridge s t ⊎ ((k : ℕ) × IsOffered s t k) → IsRootBridge s t
  by same (inl e) = e
  by same (inr o) =
      let own = own_id s t.address in
      let best = t.facts.root in
      let above : 1 ≤ best.vector.cost = above_is _ _ _ o.1.offered.cost (cost_above (get s (key.Port (1 + o.0) port.Cost)) (get_or t.config o.0 no_config).speed) in
      let least : beats (own_best own) best ≡ false = All-head (λ c. beats c best ≡ false) (own_best own) (filter_map (candidate own) (rows_of s t)) h.roles.root.least in
      let clash : true ≡ false = sym (own_beats own best same above) ∙ least in
      cc

not_zero : (p n : ℕ) → 1 ≤ n → n ≤ 32 → (256 * p + n) % 4096 ≡ 0 → ⊥
not_zero p n h i e = omega (arith, h, i, e)

pub root_port_zero : (s : Table) (t : Tree) → IsLegal s t → length t.ports ≤ 32 → (port_number t.facts.root.receiver ≡ 0) ↔ IsRootBridge s t
root_port_zero s t h small = (λ e. by e (root_source s t h), λ e. ap (λ (b : Best). port_number b.receiver) e) where
  by : port_number t.facts.root.receiver ≡ 0 → IsRootBridge s t ⊎ ((k : ℕ) × IsOffered s t k) → IsRootBridge s t
  by e (inl own) = own
  by e (inr o) =
      absurd (not_zero (get s (key.Port (1 + o.0) port.Priority)) (1 + o.0) (omega arith) (omega (arith, o.1.within, small)) (ap port_number (sym o.1.offered.receiver) ∙ e))

same_mac-self : (x : Mac) → same_mac x x ≡ true
same_mac-self x = (bytes_eq-Decides x.0 x.0).1 refl

pub hears_another : (s : Table) (t : Tree) → IsLegal s t → length t.ports ≤ 32 → (n : ℕ) → IsRootPort t n → (get_or t.ports (n - 1) no_row.port).vector.bridge.address ≢ t.address
hears_another s t h small n p = λ same.
    let at = root_at s t h n p in
    elim (root_source s t h) [
      | inl own ↦ no_own s t h own n p
      | inr o ↦
          let place : 1 + o.0 ≡ 1 + (n - 1) = same_place _ _ _ _ _ o.1.offered.receiver at.receiver (omega (arith, o.1.within, small)) (omega (arith, at.within, small)) in
          let here : n - 1 ≡ o.0 = omega (arith, place) in
          let heard : (get_or t.ports o.0 no_row.port).vector.bridge.address ≡ t.address = ap (λ (i : ℕ). (get_or t.ports i no_row.port).vector.bridge.address) (sym here) ∙ same in
          let clash : true ≡ false = sym (same_mac-self t.address) ∙ (ap (λ (x : Mac). same_mac x t.address) (sym heard) ∙ o.1.offered.other) in
          cc
    ]

-- a port that left activity is flushed
pub leaving_flushes : (s r : Table) (t u : Tree) (h : Happening) (out : Outcome) → IsLegal s t → Happens h s t r u out → (n : ℕ) → LeavesActivity t u n → Contains out.flushed.items n
leaving_flushes s r t u h out legal happens n leaves =
    let event = event_of s t (legal_ready s t legal) h r u out happens in
    let k = n - 1 in
    let here : k < length t.ports = omega (arith, leaves.has_port.0, leaves.has_port.1) in
    let left = Left-at event.0 r t u out event.1 k here in
    let at : 1 + k ≡ n = omega (arith, leaves.has_port.0) in
    subst (λ (m : ℕ). Contains out.flushed.items m) at (left.flushed leaves.learned (ap (λ (p : Port). is_root_or_designated p.role) (sym left.port) ∙ leaves.now))
