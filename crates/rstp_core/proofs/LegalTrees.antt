-- Legal settings and trees: each event keeps them legal, and the opening is.
use Rattle.std.proofs.Common.{◌≡◌, ℕ, zero, suc, ◌+◌, ◌-◌, ◌<◌, ◌≤◌, Bool, true, false, ◌&&◌, ◌⊎◌, inl, inr, List, [], ◌∷◌, length, get_or, map, refl, sym, ap, subst, ◌∙◌, arith, All}
use Rattle.std.specs.Prelude.{Some, None}
use Rattle.std.specs.List.{filter_map, best_of}
use Rattle.std.proofs.lemmas.List.{get_or-map, length-map, length-append, ext_get_or, get_or_append_left, get_or-append_right, get_or-replicate}
use Rattle.std.proofs.lemmas.List.Elements.{All-get_or, All-from_get_or}
use Rattle.frame_core.specs.declared.mac.Mac.{Mac}
use Rattle.frame_core.specs.declared.bpdu.BridgeId.{BridgeId}
use Rattle.frame_core.specs.declared.bpdu.Times.{Times}
use Rattle.rstp_settings.specs.Table.{Table, opening, opening_port as opening_values, no_values}
use Rattle.rstp_settings.specs.declared.key.PortValues.{PortValues}
use Rattle.rstp_settings.specs.declared.config.PortConfig.{PortConfig}
use Rattle.rstp_rules.specs.declared.port.Info.TheVariants.{Mine}
use Rattle.rstp_rules.specs.declared.port.Port.{Port}
use Rattle.rstp_rules.specs.declared.port.Role.TheVariants.{Disabled}
use Rattle.rstp_rules.specs.declared.port.State.{State}
use Rattle.rstp_rules.specs.declared.port.State.TheVariants.{Discarding}
use Rattle.rstp_rules.specs.declared.row.PortInEvent.{PortInEvent}
use Rattle.rstp_rules.specs.declared.row.PortInputs.{PortInputs}
use Rattle.rstp_rules.specs.declared.row.Best.{Best}
use Rattle.rstp_rules.specs.Ports.{is_root_or_designated, is_discarding}
use Rattle.rstp_rules.specs.Vectors.{port_id}
use Rattle.rstp_rules.specs.Lines.{own_id, enabled_by, set_times, timers_of}
use Rattle.rstp_settings.specs.Config.{cost_in_use, no_config}
use Rattle.rstp_rules.specs.Roles.{after_expiry, with_role, candidate, candidates, own_best, beats, IsBest}
use Rattle.rstp_rules.specs.Turns.{no_row}
use Rattle.rstp_core.specs.declared.rstp.Outcome.{Outcome}
use Rattle.rstp_core.specs.Passes.{rows_with_roles}
use Rattle.rstp_core.specs.Tree.{Tree, rows_of, opening_port_of, opening_ports, opening_tree}
use Rattle.rstp_core.specs.Runs.{Happening, Happens}
use Rattle.rstp_core.specs.Legal.{MayLearn, IsLegal}
use Rattle.rstp_core.proofs.Bests.{IsBest-best_of}
use Rattle.rstp_core.proofs.Roled.{choice-off, choice_of, row_choice, row_offer, offer_of, own_vector, with_choice, with_role-is, chosen-keeps, offer-keeps}
use Rattle.rstp_core.proofs.Places.{length-rows_from, rows_from-at, OfferLess, best_stays}
use Rattle.rstp_core.proofs.Happenings.{IsCalm, IsReady, IsEvent, Left-at, which, row_at, event_of, same_length}

-- the rows of a tree, place by place
pub rows_are : (s : Table) (t : Tree) → length t.config ≡ length t.ports → length (rows_of s t) ≡ length t.ports
rows_are s t each = length-rows_from s t.settled 1 t.config t.ports each

pub row_is : (s : Table) (t : Tree) → length t.config ≡ length t.ports → (k : ℕ) → k < length t.ports → get_or (rows_of s t) k no_row ≡ row_at s t k
row_is s t each k b = rows_from-at s t.settled 1 t.config t.ports k each b

-- each row has its role
pub row_chosen : (s : Table) (t : Tree) → IsLegal s t → (k : ℕ) → k < length t.ports → with_role (own_id s t.address) t.facts.root (row_at s t k) ≡ row_at s t k
row_chosen s t h k b =
    let own = own_id s t.address in
    let best = t.facts.root in
    let rows = rows_of s t in
    let within : k < length rows = omega (arith, b, rows_are s t h.configured) in
    let here : with_role own best (get_or rows k no_row) ≡ get_or rows k no_row = sym (get_or-map (with_role own best) rows k no_row no_row within) ∙ ap (λ (rs : List PortInEvent). get_or rs k no_row) h.roles.ports in
    subst (λ (q : PortInEvent). with_role own best q ≡ q) (row_is s t h.configured k b) here

pub row_role : (own : BridgeId) (best : Best) (q : PortInEvent) → with_role own best q ≡ q → (row_choice own best q).role ≡ q.port.role
row_role own best q h = ap (λ (y : PortInEvent). y.port.role) (sym (with_role-is own best q) ∙ h)

-- a port that is off is disabled
off_disabled : (own : BridgeId) (best : Best) (q : PortInEvent) → with_role own best q ≡ q → q.inputs.on ≡ false → q.port.role ≡ Disabled
off_disabled own best q h e = sym (row_role own best q h) ∙ choice-off q.inputs.on _ _ _ (own_vector own best q.inputs.id) q.port.info q.port.vector e

stopped : (st : State) → is_discarding st ≡ true → st ≡ Discarding
stopped Discarding e = refl
stopped st e = cc

calm_of : (s : Table) (t : Tree) → IsLegal s t → (k : ℕ) → k < length t.ports → IsCalm (enabled_by s (1 + k)) (get_or t.ports k no_row.port)
calm_of s t h k b =
    let q = row_at s t k in
    let own = own_id s t.address in
    let may : MayLearn q = subst MayLearn (row_is s t h.configured k b) (All-get_or MayLearn (rows_of s t) k no_row (omega (arith, b, rows_are s t h.configured)) h.active) in
    record {
      still = λ e. elim (which (is_discarding q.port.state)) [
        | inl y ↦ stopped q.port.state y
        | inr n ↦ let clash : true ≡ false = sym (may n).role ∙ e in cc
      ];
      off = λ e. off_disabled own t.facts.root q (row_chosen s t h k b) e;
    }

pub legal_ready : (s : Table) (t : Tree) → IsLegal s t → IsReady s t
legal_ready s t h = record { configured = h.configured; settled = h.settled; calm = calm_of s t h }

-- what makes settings and tree legal, place by place
record AreRoled (s : Table) (t : Tree) : Type 0 where
  chosen : (k : ℕ) → k < length t.ports → with_role (own_id s t.address) t.facts.root (row_at s t k) ≡ row_at s t k
  still : (k : ℕ) → k < length t.ports → is_root_or_designated (get_or t.ports k no_row.port).role ≡ false → (get_or t.ports k no_row.port).state ≡ Discarding

roled_list : (s : Table) (t : Tree) → length t.config ≡ length t.ports → AreRoled s t → rows_with_roles (own_id s t.address) t.facts.root (rows_of s t) ≡ rows_of s t
roled_list s t each h =
    let own = own_id s t.address in
    let best = t.facts.root in
    let rows = rows_of s t in
    ext_get_or no_row (map (with_role own best) rows) rows (length-map rows (with_role own best)) (λ k b.
    let within : k < length rows = omega (arith, b, length-map rows (with_role own best)) in
    let here : k < length t.ports = omega (arith, within, rows_are s t each) in
    get_or-map (with_role own best) rows k no_row no_row within ∙ subst (λ (q : PortInEvent). with_role own best q ≡ q) (sym (row_is s t each k here)) (h.chosen k here))

roled_active : (s : Table) (t : Tree) → length t.config ≡ length t.ports → AreRoled s t → All MayLearn (rows_of s t)
roled_active s t each h = All-from_get_or MayLearn (rows_of s t) no_row (λ k b.
    let here : k < length t.ports = omega (arith, b, rows_are s t each) in
    subst MayLearn (sym (row_is s t each k here)) (may k here)) where
      role : (k : ℕ) → k < length t.ports → is_discarding (row_at s t k).port.state ≡ false → is_root_or_designated (row_at s t k).port.role ≡ true
      role k here f = elim (which (is_root_or_designated (row_at s t k).port.role)) [
        | inl y ↦ y
        | inr n ↦ let clash : true ≡ false = ap is_discarding (sym (h.still k here n)) ∙ f in cc
      ]

      may : (k : ℕ) → k < length t.ports → MayLearn (row_at s t k)
      may k here f = record {
        on = elim (which (row_at s t k).inputs.on) [
          | inl y ↦ y
          | inr n ↦
              let off : (row_at s t k).port.role ≡ Disabled = off_disabled (own_id s t.address) t.facts.root (row_at s t k) (h.chosen k here) n in
              let clash : false ≡ true = ap is_root_or_designated (sym off) ∙ role k here f in
              cc
        ];
        role = role k here f;
      }

-- An event: the row at a place as the next event begins has the line, as far as roles go, and the port that this one left.
record IsNext (row q : PortInEvent) : Type 0 where
  on : q.inputs.on ≡ row.inputs.on
  cost : q.inputs.cost ≡ row.inputs.cost
  id : q.inputs.id ≡ row.inputs.id
  port : q.port ≡ row.port

next_row : (v r : Table) (t u : Tree) (out : Outcome) (e : IsEvent v r t u out) (k : ℕ) (b : k < length t.ports) → IsNext (Left-at v r t u out e k b).row (row_at r u k)
next_row v r t u out e k b =
    let left = Left-at v r t u out e k b in
    let inputs = left.done.inputs in
    let config : u.config ≡ t.config = ap (λ (x : Tree). x.config) e.ends.tree ∙ e.config in
    let n = 1 + k in
    record {
      on = (λ i. e.alike.enabled n i && (left.port i).link) ∙ sym (ap (λ (l : PortInputs). l.on) inputs);
      cost = (λ i. cost_in_use (e.alike.cost n i) (get_or (config i) k no_config).speed) ∙ sym (ap (λ (l : PortInputs). l.cost) inputs);
      id = e.alike.id n ∙ sym (ap (λ (l : PortInputs). l.id) inputs);
      port = left.port;
    }

next_chosen : (own : BridgeId) (best : Best) (row q : PortInEvent) → IsNext row q → with_role own best row ≡ row → with_role own best q ≡ q
next_chosen own best row q h e =
    chosen-keeps own best row q e h.on h.id (ap (λ (p : Port). p.info) h.port) (ap (λ (p : Port). p.role) h.port) (ap (λ (p : Port). p.vector) h.port)

next_offer : (own : BridgeId) (row q : PortInEvent) → IsNext row q → row_offer own q ≡ row_offer own row
next_offer own row q h =
    offer-keeps own row q h.on h.cost h.id (ap (λ (p : Port). p.info) h.port) (ap (λ (p : Port). p.vector) h.port)

-- the candidates after an event
offer_less : (v r : Table) (t u : Tree) (out : Outcome) (e : IsEvent v r t u out) → length u.config ≡ length u.ports → OfferLess (own_id v e.base.address) e.ends.context.root (map after_expiry e.rows) (rows_of r u)
offer_less v r t u out e each = record { same = same; less = less; root = root } where
  same : length (rows_of r u) ≡ length (map after_expiry e.rows)
  same = omega (arith, rows_are r u each, same_length v r t u out e, length-map e.rows after_expiry, e.part.same)

  within : (k : ℕ) → k < length (map after_expiry e.rows) → k < length t.ports
  within k b = omega (arith, b, length-map e.rows after_expiry, e.part.same)

  old_is : (k : ℕ) → k < length (map after_expiry e.rows) → get_or (map after_expiry e.rows) k no_row ≡ after_expiry (get_or e.rows k no_row)
  old_is k b = get_or-map after_expiry e.rows k no_row no_row (omega (arith, b, length-map e.rows after_expiry))

  new_is : (k : ℕ) → k < length t.ports → get_or (rows_of r u) k no_row ≡ row_at r u k
  new_is k b = row_is r u each k (omega (arith, b, same_length v r t u out e))

  less : (k : ℕ) → k < length (map after_expiry e.rows) → (candidate (own_id v e.base.address) (get_or (rows_of r u) k no_row) ≡ None) ⊎ (candidate (own_id v e.base.address) (get_or (rows_of r u) k no_row) ≡ candidate (own_id v e.base.address) (get_or (map after_expiry e.rows) k no_row))
  less k b =
      let own = own_id v e.base.address in
      let here = within k b in
      let left = Left-at v r t u out e k here in
      let now : candidate own (get_or (rows_of r u) k no_row) ≡ row_offer own left.row = ap (candidate own) (new_is k here) ∙ next_offer own left.row (row_at r u k) (next_row v r t u out e k here) in
      elim left.done.less [
        | inl x ↦ inl (now ∙ x)
        | inr x ↦ inr (now ∙ (x ∙ sym (ap (candidate own) (old_is k b))))
      ]

  root : (k : ℕ) → k < length (map after_expiry e.rows) → candidate (own_id v e.base.address) (get_or (map after_expiry e.rows) k no_row) ≡ Some e.ends.context.root → candidate (own_id v e.base.address) (get_or (rows_of r u) k no_row) ≡ Some e.ends.context.root
  root k b x =
      let own = own_id v e.base.address in
      let here = within k b in
      let left = Left-at v r t u out e k here in
      ap (candidate own) (new_is k here) ∙ (next_offer own left.row (row_at r u k) (next_row v r t u out e k here) ∙ left.done.root (sym (ap (candidate own) (old_is k b)) ∙ x))

pub legal_after : (s : Table) (t : Tree) (v r : Table) (u : Tree) (out : Outcome) → IsLegal s t → IsEvent v r t u out → IsLegal r u
legal_after s t v r u out h e = record {
  configured = each;
  settled = ap (λ (x : Tree). x.settled) e.ends.tree ∙ e.settled;
  roles = record { root = root; ports = roled_list r u each roled };
  active = roled_active r u each roled;
} where
  each : length u.config ≡ length u.ports
  each =
      let config : u.config ≡ t.config = ap (λ (x : Tree). x.config) e.ends.tree ∙ e.config in
      ap length config ∙ (h.configured ∙ sym (same_length v r t u out e))

  facts : u.facts.root ≡ e.ends.context.root
  facts = ap (λ (x : Tree). x.facts.root) e.ends.tree

  own : own_id r u.address ≡ own_id v e.base.address
  own = e.alike.own u.address ∙ ap (λ (x : Tree). own_id v x.address) e.ends.tree

  root : IsBest (candidates (own_id r u.address) (rows_of r u)) u.facts.root
  root = subst (λ (x : BridgeId). IsBest (candidates x (rows_of r u)) u.facts.root) (sym own) (subst (λ (x : Best). IsBest (candidates (own_id v e.base.address) (rows_of r u)) x) (sym facts) (best_stays (own_id v e.base.address) e.ends.context.root (map after_expiry e.rows) (rows_of r u) (offer_less v r t u out e each) e.ends.concludes.root))

  roled : AreRoled r u
  roled = record {
    chosen = λ k b.
        let here : k < length t.ports = omega (arith, b, same_length v r t u out e) in
        let left = Left-at v r t u out e k here in
        let it : with_role (own_id v e.base.address) e.ends.context.root (row_at r u k) ≡ row_at r u k = next_chosen (own_id v e.base.address) e.ends.context.root left.row (row_at r u k) (next_row v r t u out e k here) left.done.chosen in
        subst (λ (x : BridgeId). with_role x u.facts.root (row_at r u k) ≡ row_at r u k) (sym own) (subst (λ (x : Best). with_role (own_id v e.base.address) x (row_at r u k) ≡ row_at r u k) (sym facts) it);
    still = λ k b f.
        let here : k < length t.ports = omega (arith, b, same_length v r t u out e) in
        let left = Left-at v r t u out e k here in
        ap (λ (p : Port). p.state) left.port ∙ left.done.still (ap (λ (p : Port). is_root_or_designated p.role) (sym left.port) ∙ f);
  }

-- the opening
length-opening_ports : (own : BridgeId) (times : Times) (n : ℕ) → length (opening_ports own times n) ≡ n
length-opening_ports own times zero = refl
length-opening_ports own times (suc n) = omega (arith, length-append (opening_ports own times n) (opening_port_of own times (n + 1) ∷ []), length-opening_ports own times n)

opening_at : (own : BridgeId) (times : Times) (n k : ℕ) (d : Port) → k < n → get_or (opening_ports own times n) k d ≡ opening_port_of own times (1 + k)
opening_at own times zero k d h = absurd (omega arith)
opening_at own times (suc n) k d h = elim (below k n (omega arith)) [
  | inl lt ↦ get_or_append_left (opening_ports own times n) (opening_port_of own times (n + 1) ∷ []) d k (omega (arith, lt, length-opening_ports own times n)) ∙ opening_at own times n k d lt
  | inr e ↦
      let zero_is : k - n ≡ 0 = omega (arith, e) in
      let number : n + 1 ≡ 1 + k = omega (arith, e) in
      get_or-append_right (opening_ports own times n) (opening_port_of own times (n + 1) ∷ []) n k d (length-opening_ports own times n) (omega (arith, e)) ∙ (ap (λ (i : ℕ). get_or (opening_port_of own times (n + 1) ∷ []) i d) zero_is ∙ ap (opening_port_of own times) number)
] where
  below : (k n : ℕ) → k ≤ n → (k < n) ⊎ (k ≡ n)
  below k n h = search arith

off_link : (b : Bool) → (b && false) ≡ false
off_link true = refl
off_link false = refl

-- a port of the opening, as the first event begins
record IsAtFirst (own : BridgeId) (q : PortInEvent) : Type 0 where
  on : q.inputs.on ≡ false
  info : q.port.info ≡ Mine
  role : q.port.role ≡ Disabled
  state : q.port.state ≡ Discarding
  vector : q.port.vector ≡ own_vector own (own_best own) q.inputs.id

at_first : (a : Mac) (cs : List PortConfig) (k : ℕ) → k < length cs → (let s = opening (length cs) in IsAtFirst (own_id s a) (row_at s (opening_tree a cs) k))
at_first a cs k b =
    let s = opening (length cs) in
    let own = own_id s a in
    let t = opening_tree a cs in
    let p : get_or t.ports k no_row.port ≡ opening_port_of own (set_times (timers_of s)) (1 + k) = opening_at own (set_times (timers_of s)) (length cs) k no_row.port b in
    let place : (1 + k) - 1 ≡ k = omega arith in
    let priority : get_or s.ports ((1 + k) - 1) no_values ≡ opening_values = ap (λ (i : ℕ). get_or s.ports i no_values) place ∙ get_or-replicate (length cs) k opening_values no_values b in
    record {
      on = ap (λ (x : Port). enabled_by s (1 + k) && x.link) p ∙ off_link (enabled_by s (1 + k));
      info = ap (λ (x : Port). x.info) p;
      role = ap (λ (x : Port). x.role) p;
      state = ap (λ (x : Port). x.state) p;
      vector = ap (λ (x : Port). x.vector) p ∙ ap (λ (x : PortValues). own_vector own (own_best own) (port_id x.priority (1 + k))) (sym priority);
    }

first_chosen : (own : BridgeId) (q : PortInEvent) → IsAtFirst own q → with_role own (own_best own) q ≡ q
first_chosen own q h =
    let best = own_best own in
    with_role-is own best q ∙ ap (with_choice q) ((λ i. choice_of own best (h.on i) q.inputs.id (q.port.info) (q.port.vector)) ∙ (λ i. record { info = q.port.info; role = sym h.role i; vector = sym h.vector i }))

first_offer : (own : BridgeId) (q : PortInEvent) → IsAtFirst own q → row_offer own q ≡ None
first_offer own q h = λ i. offer_of own (h.on i) q.inputs.cost q.inputs.id q.port.info q.port.vector

none_offered : (own : BridgeId) (rows : List PortInEvent) → ((k : ℕ) → k < length rows → candidate own (get_or rows k no_row) ≡ None) → filter_map (candidate own) rows ≡ []
none_offered own [] h = refl
none_offered own (r ∷ rows) h = rw (h 0 (omega arith)) (none_offered own rows (λ k b. h (suc k) (omega arith)))

pub opening_legal : (a : Mac) (cs : List PortConfig) → IsLegal (opening (length cs)) (opening_tree a cs)
opening_legal a cs = record {
  configured = each;
  settled = refl;
  roles = record { root = root; ports = roled_list (opening (length cs)) (opening_tree a cs) each roled };
  active = roled_active (opening (length cs)) (opening_tree a cs) each roled;
} where
  each : length (opening_tree a cs).config ≡ length (opening_tree a cs).ports
  each = sym (length-opening_ports (own_id (opening (length cs)) a) (set_times (timers_of (opening (length cs)))) (length cs))

  first : (k : ℕ) → k < length (opening_tree a cs).ports → IsAtFirst (own_id (opening (length cs)) a) (row_at (opening (length cs)) (opening_tree a cs) k)
  first k b = at_first a cs k (omega (arith, b, each))

  roled : AreRoled (opening (length cs)) (opening_tree a cs)
  roled = record {
    chosen = λ k b. first_chosen (own_id (opening (length cs)) a) (row_at (opening (length cs)) (opening_tree a cs) k) (first k b);
    still = λ k b _. (first k b).state;
  }

  none : filter_map (candidate (own_id (opening (length cs)) a)) (rows_of (opening (length cs)) (opening_tree a cs)) ≡ []
  none = none_offered (own_id (opening (length cs)) a) (rows_of (opening (length cs)) (opening_tree a cs)) (λ k b.
      let here : k < length (opening_tree a cs).ports = omega (arith, b, rows_are (opening (length cs)) (opening_tree a cs) each) in
      ap (candidate (own_id (opening (length cs)) a)) (row_is (opening (length cs)) (opening_tree a cs) each k here) ∙ first_offer (own_id (opening (length cs)) a) (row_at (opening (length cs)) (opening_tree a cs) k) (first k here))

  root : IsBest (candidates (own_id (opening (length cs)) a) (rows_of (opening (length cs)) (opening_tree a cs))) (opening_tree a cs).facts.root
  root = subst (λ (b : Best). IsBest (candidates (own_id (opening (length cs)) a) (rows_of (opening (length cs)) (opening_tree a cs))) b) (ap (best_of beats (own_best (own_id (opening (length cs)) a))) none) (IsBest-best_of (own_id (opening (length cs)) a) (rows_of (opening (length cs)) (opening_tree a cs)))

pub happening_legal : (h : Happening) (s r : Table) (t u : Tree) (out : Outcome) → IsLegal s t → Happens h s t r u out → IsLegal r u
happening_legal h s r t u out legal happens =
    let event = event_of s t (legal_ready s t legal) h r u out happens in
    legal_after s t event.0 r u out legal event.1
