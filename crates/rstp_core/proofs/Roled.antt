-- A port once its role is chosen, and what follows from that.
use Rattle.std.proofs.Common.{◌≡◌, ℕ, ◌+◌, Bool, true, false, cond, ◌&&◌, not, ◌⊎◌, inl, inr, refl, sym, ap, subst, ◌∙◌, eqb, min}
use Rattle.std.specs.Prelude.{Option, Some, None}
use Rattle.std.specs.Ordering.{is_lt}
use Rattle.std.proofs.lemmas.Bool.Decides.{eqb_tells}
use Rattle.frame_core.specs.declared.bpdu.BridgeId.{BridgeId}
use Rattle.frame_core.specs.declared.bpdu.PriorityVector.{PriorityVector}
use Rattle.rstp_settings.specs.Table.{Table}
use Rattle.rstp_settings.specs.declared.config.PortConfig.{PortConfig}
use Rattle.rstp_rules.specs.declared.settled.SettledPort.{SettledPort}
use Rattle.rstp_rules.specs.declared.port.Info.{Info}
use Rattle.rstp_rules.specs.declared.port.Info.TheVariants.{Mine, Received}
use Rattle.rstp_rules.specs.declared.port.Role.{Role}
use Rattle.rstp_rules.specs.declared.port.Role.TheVariants.{Disabled, Designated, Root, Alternate, Backup}
use Rattle.rstp_rules.specs.declared.port.State.{State}
use Rattle.rstp_rules.specs.declared.port.State.TheVariants.{Discarding}
use Rattle.rstp_rules.specs.declared.row.PortInEvent.{PortInEvent}
use Rattle.rstp_rules.specs.declared.row.Best.{Best}
use Rattle.rstp_rules.specs.declared.row.PortInputs.{PortInputs}
use Rattle.rstp_rules.specs.declared.row.Context.{Context}
use Rattle.rstp_rules.specs.Ports.{is_received, is_root_or_designated, is_alternate_or_backup, same_role, is_discarding}
use Rattle.rstp_rules.specs.Lines.{line_of}
use Rattle.rstp_rules.specs.Vectors.{vector_cmp}
use Rattle.frame_core.specs.Octets.{same_mac}
use Rattle.rstp_rules.specs.Roles.{with_role}
use Rattle.rstp_rules.specs.Transitions.{has_changed_role, after_blocking, after_first_transitions}
use Rattle.rstp_core.proofs.Keeps.{IsStill, Keeps, turned-keeps}
use Rattle.rstp_core.proofs.Fresh.{IsFresh}

-- What the choice of a role gives a port.
pub record Choice : Type 0 where
  pub info : Info
  pub role : Role
  pub vector : PriorityVector

-- By the tests of the choice: the port is on; the root vector came by it; its designated vector is better; its vector is of
-- this bridge.
abbrev pub choice : Bool → Bool → Bool → Bool → PriorityVector → Info → PriorityVector → Choice
choice on first better mine own i v =
    cond (not on) (record { info = i; role = Disabled; vector = own }) (cond (not (is_received i)) (record { info = Mine; role = Designated; vector = own }) (cond first (record { info = i; role = Root; vector = v }) (cond better (record { info = Mine; role = Designated; vector = own }) (cond mine (record { info = i; role = Backup; vector = v }) (record { info = i; role = Alternate; vector = v })))))

abbrev pub own_vector : BridgeId → Best → ℕ → PriorityVector
own_vector own best id = record { root = best.vector.root; cost = best.vector.cost; bridge = own; port = id }

abbrev pub choice_of : BridgeId → Best → Bool → ℕ → Info → PriorityVector → Choice
choice_of own best on id i v =
    let w = own_vector own best id in
    choice on (eqb best.receiver id) (is_lt (vector_cmp w v)) (same_mac v.bridge.address own.address) w i v

abbrev pub with_choice : PortInEvent → Choice → PortInEvent
with_choice r x = record r { port = record r.port { info = x.info; role = x.role; vector = x.vector } }

five : (r : PortInEvent) (b1 b2 b3 b4 b5 : Bool) (x1 x2 x3 x4 x5 x6 : Choice) → cond b1 (with_choice r x1) (cond b2 (with_choice r x2) (cond b3 (with_choice r x3) (cond b4 (with_choice r x4) (cond b5 (with_choice r x5) (with_choice r x6))))) ≡ with_choice r (cond b1 x1 (cond b2 x2 (cond b3 x3 (cond b4 x4 (cond b5 x5 x6)))))
five r true b2 b3 b4 b5 x1 x2 x3 x4 x5 x6 = refl
five r false true b3 b4 b5 x1 x2 x3 x4 x5 x6 = refl
five r false false true b4 b5 x1 x2 x3 x4 x5 x6 = refl
five r false false false true b5 x1 x2 x3 x4 x5 x6 = refl
five r false false false false true x1 x2 x3 x4 x5 x6 = refl
five r false false false false false x1 x2 x3 x4 x5 x6 = refl

abbrev pub row_choice : BridgeId → Best → PortInEvent → Choice
row_choice own best r = choice_of own best r.inputs.on r.inputs.id r.port.info r.port.vector

-- the choice of a role writes these three
pub with_role-is : (own : BridgeId) (best : Best) (r : PortInEvent) → with_role own best r ≡ with_choice r (row_choice own best r)
with_role-is own best r =
    let w = own_vector own best r.inputs.id in
    let i = r.port.info in
    let v = r.port.vector in
    five r (not r.inputs.on) (not (is_received i)) (eqb best.receiver r.inputs.id) (is_lt (vector_cmp w v)) (same_mac v.bridge.address own.address) (record { info = i; role = Disabled; vector = w }) (record { info = Mine; role = Designated; vector = w }) (record { info = i; role = Root; vector = v }) (record { info = Mine; role = Designated; vector = w }) (record { info = i; role = Backup; vector = v }) (record { info = i; role = Alternate; vector = v })

-- a choice that is made again is the same
again : (on first : Bool) (better mine : PriorityVector → Bool) (b m : Bool) (own : PriorityVector) (i : Info) (v : PriorityVector) → better v ≡ b → mine v ≡ m → (let x = choice on first b m own i v in choice on first (better x.vector) (mine x.vector) own x.info x.vector ≡ x)
again false first better mine b m own i v e f = refl
again true first better mine b m own Mine v e f = refl
again true true better mine b m own Received v e f = refl
again true false better mine true m own Received v e f = refl
again true false better mine false true own Received v e f =
    ap (λ (k : Bool). choice true false k (mine v) own Received v) e ∙ ap (λ (k : Bool). choice true false false k own Received v) f
again true false better mine false false own Received v e f =
    ap (λ (k : Bool). choice true false k (mine v) own Received v) e ∙ ap (λ (k : Bool). choice true false false k own Received v) f

choice-again : (own : BridgeId) (best : Best) (on : Bool) (id : ℕ) (i : Info) (v : PriorityVector) → (let x = choice_of own best on id i v in choice_of own best on id x.info x.vector ≡ x)
choice-again own best on id i v =
    let w = own_vector own best id in
    again on (eqb best.receiver id) (λ u. is_lt (vector_cmp w u)) (λ u. same_mac u.bridge.address own.address) _ _ w i v refl refl

apart : (b : Bool) → b ≡ true → b ≡ false → ⊥
apart true e i = cc
apart false e i = cc

pub choice-off : (on first b m : Bool) (own : PriorityVector) (i : Info) (v : PriorityVector) → on ≡ false → (choice on first b m own i v).role ≡ Disabled
choice-off true first b m own i v e = cc
choice-off false first b m own i v e = refl

choice-disabled : (on first b m : Bool) (own : PriorityVector) (i : Info) (v : PriorityVector) → (choice on first b m own i v).role ≡ Disabled → on ≡ false
choice-disabled false first b m own i v e = refl
choice-disabled true first b m own Mine v e = cc
choice-disabled true true b m own Received v e = cc
choice-disabled true false true m own Received v e = cc
choice-disabled true false false true own Received v e = cc
choice-disabled true false false false own Received v e = cc

-- the root port is the one by which the root vector came
pub choice-root : (on first b m : Bool) (own : PriorityVector) (i : Info) (v : PriorityVector) → (choice on first b m own i v).role ≡ Root → first ≡ true
choice-root on true b m own i v e = refl
choice-root false false b m own i v e = cc
choice-root true false b m own Mine v e = cc
choice-root true false true m own Received v e = cc
choice-root true false false true own Received v e = cc
choice-root true false false false own Received v e = cc

pub choice-first : (on first b m : Bool) (own : PriorityVector) (i : Info) (v : PriorityVector) → on ≡ true → is_received i ≡ true → first ≡ true → (choice on first b m own i v).role ≡ Root
choice-first false first b m own i v e f g = cc
choice-first true first b m own Mine v e f g = cc
choice-first true false b m own Received v e f g = cc
choice-first true true b m own Received v e f g = refl

-- What a port offers for the root vector.
abbrev pub offer_of : BridgeId → Bool → ℕ → ℕ → Info → PriorityVector → Option Best
offer_of own on cost id i v =
    cond (on && is_received i && not (same_mac v.bridge.address own.address)) (Some (record { vector = record v { cost = min (v.cost + cost) 4294967295 }; receiver = id })) None

abbrev pub row_offer : BridgeId → PortInEvent → Option Best
row_offer own r = offer_of own r.inputs.on r.inputs.cost r.inputs.id r.port.info r.port.vector

-- by its role a port offers nothing more, and nothing else
offer-less : (own : BridgeId) (cost id : ℕ) (on first b m : Bool) (w : PriorityVector) (i : Info) (v : PriorityVector) → (let x = choice on first b m w i v in (offer_of own on cost id x.info x.vector ≡ None) ⊎ (offer_of own on cost id x.info x.vector ≡ offer_of own on cost id i v))
offer-less own cost id false first b m w i v = inl refl
offer-less own cost id true first b m w Mine v = inl refl
offer-less own cost id true true b m w Received v = inr refl
offer-less own cost id true false true m w Received v = inl refl
offer-less own cost id true false false true w Received v = inr refl
offer-less own cost id true false false false w Received v = inr refl

pub offered_if : (t : Bool) (x b : Best) → cond t (Some x) None ≡ Some b → (t ≡ true) × (x ≡ b)
offered_if true x b e = (refl, cc)
offered_if false x b e = cc

-- the root vector is still offered
offer-root : (own : BridgeId) (cost id : ℕ) (best : Best) (on first b m : Bool) (w : PriorityVector) (i : Info) (v : PriorityVector) → eqb best.receiver id ≡ first → offer_of own on cost id i v ≡ Some best → (let x = choice on first b m w i v in offer_of own on cost id x.info x.vector ≡ Some best)
offer-root own cost id best false first b m w i v f e = cc
offer-root own cost id best true first b m w Mine v f e = cc
offer-root own cost id best true true b m w Received v f e = e
offer-root own cost id best true false b m w Received v f e =
    let same : id ≡ best.receiver = ap (λ (x : Best). x.receiver) (offered_if (not (same_mac v.bridge.address own.address)) (record { vector = record v { cost = min (v.cost + cost) 4294967295 }; receiver = id }) best e).1 in
    absurd (elim (eqb_tells best.receiver id) [ inl t ↦ apart (eqb best.receiver id) t.0 f | inr d ↦ d.1 (sym same) ])

-- The choice of a role, from the row a to the row r.
record Roles (own : BridgeId) (best : Best) (a r : PortInEvent) : Type 0 where
  inputs : r.inputs ≡ a.inputs
  link : r.port.link ≡ a.port.link
  was : r.was ≡ a.was
  state : r.port.state ≡ a.port.state
  flushed : r.flushed ≡ a.flushed
  off : a.inputs.on ≡ false → r.port.role ≡ Disabled
  disabled : r.port.role ≡ Disabled → a.inputs.on ≡ false
  chosen : with_role own best r ≡ r
  less : (row_offer own r ≡ None) ⊎ (row_offer own r ≡ row_offer own a)
  root : row_offer own a ≡ Some best → row_offer own r ≡ Some best

with_choice-roles : (own : BridgeId) (best : Best) (a : PortInEvent) → Roles own best a (with_choice a (row_choice own best a))
with_choice-roles own best a =
    let w = own_vector own best a.inputs.id in
    let i = a.port.info in
    let v = a.port.vector in
    let x = row_choice own best a in
    record {
      inputs = refl;
      link = refl;
      was = refl;
      state = refl;
      flushed = refl;
      off = λ e. choice-off a.inputs.on _ _ _ w i v e;
      disabled = λ e. choice-disabled a.inputs.on _ _ _ w i v e;
      chosen = with_role-is own best (with_choice a x) ∙ ap (with_choice (with_choice a x)) (choice-again own best a.inputs.on a.inputs.id i v);
      less = offer-less own a.inputs.cost a.inputs.id a.inputs.on _ _ _ w i v;
      root = offer-root own a.inputs.cost a.inputs.id best a.inputs.on _ _ _ w i v refl;
    }

with_role-roles : (own : BridgeId) (best : Best) (a : PortInEvent) → Roles own best a (with_role own best a)
with_role-roles own best a = subst (Roles own best a) (sym (with_role-is own best a)) (with_choice-roles own best a)

-- a row that has the port's line, information, role and vector has its role too
pub chosen-keeps : (own : BridgeId) (best : Best) (r q : PortInEvent) → with_role own best r ≡ r → q.inputs.on ≡ r.inputs.on → q.inputs.id ≡ r.inputs.id → q.port.info ≡ r.port.info → q.port.role ≡ r.port.role → q.port.vector ≡ r.port.vector → with_role own best q ≡ q
chosen-keeps own best r q h on id info role vector =
    with_role-is own best q ∙ ap (with_choice q) same where
      here : Choice
      here = record { info = r.port.info; role = r.port.role; vector = r.port.vector }

      there : row_choice own best r ≡ (record { info = r.port.info; role = r.port.role; vector = r.port.vector })
      there = ap (λ (y : PortInEvent). record { info = y.port.info; role = y.port.role; vector = y.port.vector }) (sym (with_role-is own best r) ∙ h)

      same : row_choice own best q ≡ (record { info = q.port.info; role = q.port.role; vector = q.port.vector })
      same = (λ k. choice_of own best (on k) (id k) (info k) (vector k)) ∙ (there ∙ (λ k. record { info = sym info k; role = sym role k; vector = sym vector k }))

pub offer-keeps : (own : BridgeId) (r q : PortInEvent) → q.inputs.on ≡ r.inputs.on → q.inputs.cost ≡ r.inputs.cost → q.inputs.id ≡ r.inputs.id → q.port.info ≡ r.port.info → q.port.vector ≡ r.port.vector → row_offer own q ≡ row_offer own r
offer-keeps own r q on cost id info vector = λ k. offer_of own (on k) (cost k) (id k) (info k) (vector k)

opposite : (b c : Bool) → not b ≡ c → b ≡ not c
opposite true true e = cc
opposite true false e = refl
opposite false true e = refl
opposite false false e = cc

-- A port once all is done, whose state was st at the start of the event, and which a was as the roles were chosen.
pub record IsDone (s : Table) (w : SettledPort) (n : ℕ) (c : PortConfig) (st : State) (own : BridgeId) (best : Best) (a r : PortInEvent) : Type 0 where
  pub inputs : r.inputs ≡ line_of s w n c r.port.link
  pub still : IsStill r
  pub chosen : with_role own best r ≡ r
  pub less : (row_offer own r ≡ None) ⊎ (row_offer own r ≡ row_offer own a)
  pub root : row_offer own a ≡ Some best → row_offer own r ≡ Some best
  pub left : is_discarding st ≡ false → is_root_or_designated r.port.role ≡ false → r.flushed ≡ true

pub Done-keeps : (s : Table) (w : SettledPort) (n : ℕ) (c : PortConfig) (st : State) (own : BridgeId) (best : Best) (a r q : PortInEvent) → IsDone s w n c st own best a r → Keeps r q → IsDone s w n c st own best a q
Done-keeps s w n c st own best a r q h k =
    let on = ap (λ (l : PortInputs). l.on) k.inputs in
    let cost = ap (λ (l : PortInputs). l.cost) k.inputs in
    let id = ap (λ (l : PortInputs). l.id) k.inputs in
    let offer : row_offer own q ≡ row_offer own r = offer-keeps own r q on cost id k.info k.vector in
    record {
      inputs = k.inputs ∙ (h.inputs ∙ ap (line_of s w n c) (sym k.link));
      still = k.still h.still;
      chosen = chosen-keeps own best r q h.chosen on id k.info k.role k.vector;
      less = elim h.less [ inl e ↦ inl (offer ∙ e) | inr e ↦ inr (offer ∙ e) ];
      root = λ e. offer ∙ h.root e;
      left = λ f i. k.flushed (h.left f (ap is_root_or_designated (sym k.role) ∙ i));
    }

same_role-is : (x y : Role) → same_role x y ≡ true → x ≡ y
same_role-is Disabled Disabled e = refl
same_role-is Designated Designated e = refl
same_role-is Root Root e = refl
same_role-is Alternate Alternate e = refl
same_role-is Backup Backup e = refl
same_role-is x y e = cc

-- a port that no rule blocks, and that is neither root nor designated, is disabled or was so before
kinds : (w o : Role) → (is_alternate_or_backup o && not (same_role w o)) ≡ false → is_root_or_designated o ≡ false → (o ≡ Disabled) ⊎ (w ≡ o)
kinds w Disabled h e = inl refl
kinds w Root h e = cc
kinds w Designated h e = cc
kinds w Alternate h e = inr (same_role-is w Alternate (opposite (same_role w Alternate) false h))
kinds w Backup h e = inr (same_role-is w Backup (opposite (same_role w Backup) false h))

Done-if : (s : Table) (w : SettledPort) (n : ℕ) (c : PortConfig) (st : State) (own : BridgeId) (best : Best) (a : PortInEvent) (b : Bool) (x y : PortInEvent) → (b ≡ true → IsDone s w n c st own best a x) → (b ≡ false → IsDone s w n c st own best a y) → IsDone s w n c st own best a (cond b x y)
Done-if s w n c st own best a true x y h i = h refl
Done-if s w n c st own best a false x y h i = i refl

blocked-done : (s : Table) (w : SettledPort) (n : ℕ) (c : PortConfig) (st : State) (own : BridgeId) (best : Best) (a r : PortInEvent) → IsFresh s w n c st a → Roles own best a r → IsDone s w n c st own best a (after_blocking r)
blocked-done s w n c st own best a r f h =
    Done-if s w n c st own best a _ _ r (λ _. record { inputs = inputs; still = λ _. refl; chosen = chosen-keeps own best r _ h.chosen refl refl refl refl refl; less = h.less; root = h.root; left = λ _ _. refl }) (λ not_so. record { inputs = inputs; still = λ i. still not_so i; chosen = h.chosen; less = h.less; root = h.root; left = λ k i. left not_so k i }) where
      inputs : r.inputs ≡ line_of s w n c r.port.link
      inputs = h.inputs ∙ (f.inputs ∙ ap (line_of s w n c) (sym h.link))

      before : r.was.role ≡ a.port.role
      before = ap (λ b. b.role) h.was ∙ f.was

      -- the port was neither root nor designated
      idle : (is_alternate_or_backup r.port.role && has_changed_role r) ≡ false → is_root_or_designated r.port.role ≡ false → is_root_or_designated a.port.role ≡ false
      idle not_so i = elim (kinds r.was.role r.port.role not_so i) [
        | inl d ↦ ap is_root_or_designated (f.off (h.disabled d))
        | inr o ↦ ap is_root_or_designated (sym before ∙ o) ∙ i
      ]

      still : (is_alternate_or_backup r.port.role && has_changed_role r) ≡ false → is_root_or_designated r.port.role ≡ false → r.port.state ≡ Discarding
      still not_so i = h.state ∙ f.still (idle not_so i)

      left : (is_alternate_or_backup r.port.role && has_changed_role r) ≡ false → is_discarding st ≡ false → is_root_or_designated r.port.role ≡ false → r.flushed ≡ true
      left not_so k i = elim (f.left k) [
        | inl active ↦ let clash : true ≡ false = sym active ∙ idle not_so i in cc
        | inr gone ↦ h.flushed ∙ gone
      ]

-- from the event's own part to the states
pub turned-done : (s : Table) (w : SettledPort) (n : ℕ) (p : PortConfig) (st : State) (own : BridgeId) (best : Best) (c : Context) (a : PortInEvent) → IsFresh s w n p st a → IsDone s w n p st own best a (after_first_transitions c (with_role own best a))
turned-done s w n p st own best c a f =
    let r = with_role own best a in
    Done-keeps s w n p st own best a (after_blocking r) (after_first_transitions c r) (blocked-done s w n p st own best a r f (with_role-roles own best a)) (turned-keeps c r)
