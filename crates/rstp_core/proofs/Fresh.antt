-- A port as the roles are about to be chosen, after an event's own part.
use Rattle.std.proofs.Common.{◌≡◌, ℕ, Bool, true, false, cond, ◌&&◌, ◌||◌, not, ◌⊎◌, inl, inr, refl, sym, ap, ◌∙◌}
use Rattle.frame_core.specs.declared.bpdu.BridgeId.{BridgeId}
use Rattle.frame_core.specs.declared.bpdu.PriorityVector.{PriorityVector}
use Rattle.frame_core.specs.declared.bpdu.Times.{Times}
use Rattle.frame_core.specs.declared.bpdu.Bpdu.{Bpdu}
use Rattle.frame_core.specs.declared.bpdu.Bpdu.TheVariants.{Config, TopologyChange, Rapid}
use Rattle.frame_core.specs.declared.bpdu.PortRole.{PortRole}
use Rattle.frame_core.specs.declared.bpdu.PortRole.TheVariants as stated
use Rattle.rstp_rules.specs.declared.port.Role.TheVariants.{Disabled}
use Rattle.rstp_rules.specs.declared.port.State.{State}
use Rattle.rstp_rules.specs.declared.row.PortInputs.{PortInputs}
use Rattle.rstp_rules.specs.declared.row.PortInEvent.{PortInEvent}
use Rattle.rstp_rules.specs.declared.row.Timing.{Timing}
use Rattle.rstp_rules.specs.declared.settled.SettledPort.{SettledPort}
use Rattle.rstp_settings.specs.declared.config.PortConfig.{PortConfig}
use Rattle.rstp_settings.specs.Table.{Table}
use Rattle.rstp_rules.specs.Lines.{line_of}
use Rattle.rstp_rules.specs.Ports.{is_designated, is_root_or_designated, is_discarding}
use Rattle.rstp_rules.specs.Roles.{after_expiry}
use Rattle.rstp_rules.specs.Restarts.{after_restart, after_switch, after_link, is_renewed, after_renewal, after_edge_setting, after_settling}
use Rattle.rstp_rules.specs.Arrivals.{is_superior, after_mark, after_record, after_offer, after_answer, after_rapid, after_message, after_reception, after_acknowledgment, after_change_notice}
use Rattle.rstp_rules.specs.Ticks.{after_tick}
use Rattle.rstp_rules.specs.Transitions.{with_change_started, with_change_spread}
use Rattle.rstp_core.proofs.Keeps.{IsStill}

-- It is port n, with configuration c and settled values w, under the settings s; it was in the state st at the start of the event.
pub record IsFresh (s : Table) (w : SettledPort) (n : ℕ) (c : PortConfig) (st : State) (r : PortInEvent) : Type 0 where
  pub inputs : r.inputs ≡ line_of s w n c r.port.link
  pub was : r.was.role ≡ r.port.role
  pub still : IsStill r
  pub off : r.inputs.on ≡ false → r.port.role ≡ Disabled
  pub left : is_discarding st ≡ false → (is_root_or_designated r.port.role ≡ true) ⊎ (r.flushed ≡ true)

-- What a message, a tick and the ages keep.
pub record Same (r q : PortInEvent) : Type 0 where
  pub inputs : q.inputs ≡ r.inputs
  pub was : q.was ≡ r.was
  pub role : q.port.role ≡ r.port.role
  pub state : q.port.state ≡ r.port.state
  pub link : q.port.link ≡ r.port.link
  pub flushed : r.flushed ≡ true → q.flushed ≡ true

same : (r : PortInEvent) → Same r r
same r = record { inputs = refl; was = refl; role = refl; state = refl; link = refl; flushed = λ e. e }

Same-trans : (r q p : PortInEvent) → Same r q → Same q p → Same r p
Same-trans r q p h i = record {
  inputs = i.inputs ∙ h.inputs;
  was = i.was ∙ h.was;
  role = i.role ∙ h.role;
  state = i.state ∙ h.state;
  link = i.link ∙ h.link;
  flushed = λ e. i.flushed (h.flushed e);
}

Same-if : (b : Bool) (r x y : PortInEvent) → Same r x → Same r y → Same r (cond b x y)
Same-if true r x y h i = h
Same-if false r x y h i = i

pub Fresh-same : (s : Table) (w : SettledPort) (n : ℕ) (c : PortConfig) (st : State) (r q : PortInEvent) → IsFresh s w n c st r → Same r q → IsFresh s w n c st q
Fresh-same s w n c st r q h k = record {
  inputs = k.inputs ∙ (h.inputs ∙ ap (line_of s w n c) (sym k.link));
  was = ap (λ b. b.role) k.was ∙ (h.was ∙ sym k.role);
  still = λ i. k.state ∙ h.still (ap is_root_or_designated (sym k.role) ∙ i);
  off = λ i. k.role ∙ h.off (ap (λ l. l.on) (sym k.inputs) ∙ i);
  left = λ i. elim (h.left i) [ inl a ↦ inl (ap is_root_or_designated k.role ∙ a) | inr f ↦ inr (k.flushed f) ];
}

-- the ages, and a tick
pub expired-same : (r : PortInEvent) → Same r (after_expiry r)
expired-same r = Same-if _ r _ r (record { inputs = refl; was = refl; role = refl; state = refl; link = refl; flushed = λ e. e }) (same r)

pub ticked-same : (r : PortInEvent) → Same r (after_tick r)
ticked-same r = record { inputs = refl; was = refl; role = refl; state = refl; link = refl; flushed = λ e. e }

-- a message
marked-same : (b : Bool) (r : PortInEvent) → Same r (after_mark b r)
marked-same b r = record { inputs = refl; was = refl; role = refl; state = refl; link = refl; flushed = λ e. e }

abbrev answering : PortInEvent → PortInEvent
answering r = record r { port = record r.port { new_info = true } }

offered-same : (v : PriorityVector) (t : Times) (p : Bool) (r : PortInEvent) → Same r (after_offer v t p r)
offered-same v t p r = Same-if (is_superior v r) r (after_record v t p r) (cond (is_designated r.port.role) (answering r) r) (record { inputs = refl; was = refl; role = refl; state = refl; link = refl; flushed = λ e. e }) (Same-if (is_designated r.port.role) r (answering r) r (record { inputs = refl; was = refl; role = refl; state = refl; link = refl; flushed = λ e. e }) (same r))

answered-same : (v : PriorityVector) (a : Bool) (r : PortInEvent) → Same r (after_answer v a r)
answered-same v a r = Same-if _ r _ r (record { inputs = refl; was = refl; role = refl; state = refl; link = refl; flushed = λ e. e }) (same r)

by_role-same : (o : PortRole) (v : PriorityVector) (t : Times) (p a : Bool) (r : PortInEvent) → Same r (after_rapid o v t p a r)
by_role-same stated.Unknown v t p a r = same r
by_role-same stated.AlternateOrBackup v t p a r = answered-same v a r
by_role-same stated.Root v t p a r = answered-same v a r
by_role-same stated.Designated v t p a r = offered-same v t p r

taken-same : (rstp : Bool) (b : Bpdu) (r : PortInEvent) → Same r (after_message rstp b r)
taken-same rstp TopologyChange r = marked-same false r
taken-same rstp (Config m) r = Same-trans r (after_mark false r) _ (marked-same false r) (offered-same m.vector m.times (m.proposal && rstp) (after_mark false r))
taken-same rstp (Rapid m) r = Same-trans r (after_mark true r) _ (marked-same true r) (by_role-same m.role m.vector m.times (m.proposal && rstp) (m.agreement && rstp) (after_mark true r))

pub received-same : (own : BridgeId) (rstp : Bool) (n : ℕ) (b : Bpdu) (r : PortInEvent) → Same r (after_reception own rstp n b r)
received-same own rstp n b r = Same-if _ r _ r (taken-same rstp b r) (same r)

acknowledged-same : (b : Bpdu) (r : PortInEvent) → Same r (after_acknowledgment b r)
acknowledged-same TopologyChange r = Same-if _ r _ r (record { inputs = refl; was = refl; role = refl; state = refl; link = refl; flushed = λ e. e }) (same r)
acknowledged-same (Config m) r = Same-if _ r _ r (record { inputs = refl; was = refl; role = refl; state = refl; link = refl; flushed = λ e. e }) (same r)
acknowledged-same (Rapid m) r = same r

started-same : (t : Timing) (r : PortInEvent) → Same r (with_change_started t r)
started-same t r = Same-if _ r _ r (record { inputs = refl; was = refl; role = refl; state = refl; link = refl; flushed = λ e. e }) (same r)

spread-same : (t : Timing) (r : PortInEvent) → Same r (with_change_spread t r)
spread-same t r =
    let h = started-same t r in
    Same-if _ r _ r (record { inputs = h.inputs; was = h.was; role = h.role; state = h.state; link = h.link; flushed = λ _. refl }) (same r)

pub reported-same : (t : Timing) (own : BridgeId) (n : ℕ) (b : Bpdu) (change : Bool) (r : PortInEvent) → Same r (after_change_notice t own n b change r)
reported-same t own n b change r = Same-if _ r _ _ (Same-if _ r _ r (acknowledged-same b r) (same r)) (Same-if _ r _ r (spread-same t r) (same r))

-- a restart
restarted-fresh : (s : Table) (w : SettledPort) (n : ℕ) (c : PortConfig) (st : State) (r : PortInEvent) → r.inputs ≡ line_of s w n c r.port.link → IsFresh s w n c st (after_restart r)
restarted-fresh s w n c st r inputs = record {
  inputs = inputs;
  was = refl;
  still = λ _. refl;
  off = λ _. refl;
  left = λ _. inr refl;
}

Fresh-if : (s : Table) (w : SettledPort) (n : ℕ) (c : PortConfig) (st : State) (b : Bool) (x y : PortInEvent) → (b ≡ true → IsFresh s w n c st x) → (b ≡ false → IsFresh s w n c st y) → IsFresh s w n c st (cond b x y)
Fresh-if s w n c st true x y h i = h refl
Fresh-if s w n c st false x y h i = i refl

-- a port is on where it is enabled and its link is up
on_is : (s : Table) (w : SettledPort) (n : ℕ) (c : PortConfig) (r : PortInEvent) → r.inputs ≡ line_of s w n c r.port.link → r.inputs.on ≡ (r.inputs.enabled && r.port.link)
on_is s w n c r inputs = ap (λ (l : PortInputs). l.on) inputs ∙ ap (λ (b : Bool). b && r.port.link) (sym (ap (λ (l : PortInputs). l.enabled) inputs))

-- a link
pub linked-fresh : (s : Table) (w : SettledPort) (n : ℕ) (c : PortConfig) (st : State) (m : ℕ) (up : Bool) (r : PortInEvent) → IsFresh s w n c st r → IsFresh s w n c st (after_link m up r)
linked-fresh s w n c st m up r h = Fresh-if s w n c st _ (after_switch up r) r (λ _. switch) (λ _. h) where
  inputs : record r.inputs { on = r.inputs.enabled && up } ≡ line_of s w n c up
  inputs = ap (λ (l : PortInputs). record l { on = l.enabled && up }) h.inputs

  disabled : r.inputs.enabled ≡ false → r.inputs.on ≡ false
  disabled not_so = on_is s w n c r h.inputs ∙ ap (λ b. b && r.port.link) not_so

  stays : r.inputs.enabled ≡ false → IsFresh s w n c st (record r { inputs = record r.inputs { on = r.inputs.enabled && up }; port = record r.port { link = up } })
  stays not_so = record { inputs = inputs; was = h.was; still = h.still; off = λ _. h.off (disabled not_so); left = h.left }

  switch : IsFresh s w n c st (after_switch up r)
  switch = Fresh-if s w n c st r.inputs.enabled _ _ (λ _. restarted-fresh s w n c st (record r { inputs = record r.inputs { on = r.inputs.enabled && up }; port = record r.port { link = up } }) inputs) (λ not_so. stays not_so)

-- settling
kept : (v k e w : Bool) → (v || (k && cond e (not w) w)) ≡ false → (e && k) ≡ false → (w && k) ≡ false
kept v false e true h i = refl
kept v false e false h i = refl
kept v true true w h i = cc
kept true true false w h i = cc
kept false true false true h i = cc
kept false true false false h i = refl

pub settled-fresh : (s : Table) (w : SettledPort) (n : ℕ) (c : PortConfig) (st : State) (v : Bool) (r : PortInEvent) → r.inputs ≡ line_of s w n c r.port.link → r.was.role ≡ r.port.role → IsStill r → ((r.inputs.was_enabled && r.port.link) ≡ false → r.port.role ≡ Disabled) → (is_discarding st ≡ false → is_root_or_designated r.port.role ≡ true) → IsFresh s w n c st (after_settling v r)
settled-fresh s w n c st v r inputs was still off left =
    let new = after_renewal v r in
    Fresh-same s w n c st new (after_settling v r) anew (Same-trans new (after_edge_setting new) _ (Same-if _ new _ new (record { inputs = refl; was = refl; role = refl; state = refl; link = refl; flushed = λ i. i }) (same new)) (Same-if _ (after_edge_setting new) _ (after_edge_setting new) (record { inputs = refl; was = refl; role = refl; state = refl; link = refl; flushed = λ i. i }) (same (after_edge_setting new)))) where
      anew : IsFresh s w n c st (after_renewal v r)
      anew = Fresh-if s w n c st (is_renewed v r) (after_restart r) r (λ _. restarted-fresh s w n c st r inputs) (λ not_so. record {
        inputs = inputs;
        was = was;
        still = still;
        off = λ i. off (kept v r.port.link r.inputs.enabled r.inputs.was_enabled not_so (sym (on_is s w n c r inputs) ∙ i));
        left = λ i. inl (left i);
      })
