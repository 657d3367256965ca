-- A port that starts anew, from the event's own part to its end.
use Rattle.std.proofs.Common.{◌≡◌, ◌≢◌, ℕ, ◌+◌, ◌-◌, ◌<◌, ◌≤◌, Bool, true, false, cond, ◌&&◌, ◌||◌, not, eqb, inl, inr, List, length, get_or, map, refl, sym, ap, subst, ◌∙◌, arith, Contains}
use Rattle.std.specs.Prelude.{is_some, nat_lt}
use Rattle.std.proofs.lemmas.List.{get_or-map, length-map}
use Rattle.std.proofs.lemmas.Bool.Decides.{eqb_tells}
use Rattle.frame_core.specs.declared.bpdu.BridgeId.{BridgeId}
use Rattle.frame_core.specs.declared.bpdu.Times.{Times}
use Rattle.rstp_settings.specs.Table.{Table}
use Rattle.rstp_rules.specs.declared.port.Port.{Port}
use Rattle.rstp_rules.specs.declared.port.Info.{Info}
use Rattle.rstp_rules.specs.declared.port.Info.TheVariants.{Mine}
use Rattle.rstp_rules.specs.declared.port.Role.TheVariants.{Disabled, Designated}
use Rattle.rstp_rules.specs.declared.port.State.{State}
use Rattle.rstp_rules.specs.declared.port.State.TheVariants.{Discarding, Forwarding}
use Rattle.rstp_rules.specs.declared.row.PortInEvent.{PortInEvent}
use Rattle.rstp_rules.specs.declared.row.PortInputs.{PortInputs}
use Rattle.rstp_rules.specs.declared.row.Best.{Best}
use Rattle.rstp_rules.specs.declared.row.Context.{Context}
use Rattle.rstp_rules.specs.declared.row.Timing.{Timing}
use Rattle.rstp_rules.specs.Ports.{is_received, is_root, is_designated, is_root_or_designated, is_alternate_or_backup, is_discarding, next_state}
use Rattle.rstp_rules.specs.Vectors.{same_vector, same_times}
use Rattle.rstp_rules.specs.Lines.{own_id, enabled_by, edge_by, rstp_version, seconds}
use Rattle.rstp_rules.specs.Roles.{after_expiry, with_role, with_designated_vector}
use Rattle.rstp_rules.specs.Restarts.{after_restart, after_switch, after_link, is_renewed, after_renewal, after_edge_setting, after_settling}
use Rattle.rstp_rules.specs.Ticks.{after_hello_step}
use Rattle.rstp_rules.specs.Transitions.{has_changed_role, after_blocking, after_delay, after_root_role, after_role_change, after_discarding, after_announcement, after_first_transitions, after_synchronization, after_synchronizations, is_quick, after_advance, no_recent_root, change_time, with_change_started, with_transition_counted}
use Rattle.rstp_rules.specs.Turns.{no_row, with_change_spread_but, after_begin, turns}
use Rattle.rstp_rules.specs.Sends.{sends_rapid, message_due, sends, after_sending}
use Rattle.rstp_core.specs.declared.rstp.Outcome.{Outcome}
use Rattle.rstp_core.specs.Settled.{SettledValues, settled_of}
use Rattle.rstp_core.specs.Passes.{rows_with_roles, before_turns, after_hello_steps, ready}
use Rattle.rstp_core.specs.Tree.{HasPort, Tree, rows_of, has_other_version, Ends}
use Rattle.rstp_core.specs.Runs.{Happening, Happens, Restarts, IsAnew, version_of}
use Rattle.rstp_core.specs.Runs.Happening.{Tick, Link, Message, Settle}
use Rattle.rstp_core.specs.Legal.{IsLegal, AreNumbered}
use Rattle.rstp_core.proofs.Places.{AllHold, IsHeld, HoldsTurns, hold-refl, hold-trans, hold-map, hold-if, hold-turns, contains_flushed}
use Rattle.rstp_core.proofs.Happenings.{IsCalm, IsReady, which, row_at, OwnPart, own_part, event_of, same_length, was_enabled, Alike, alike, spent_alike}
use Rattle.rstp_core.proofs.Numbered.{IsFixed, fixed_held, fixed_keeps, fixed_expired, fixed_chosen, fixed_ready, numbered, own_numbered}
use Rattle.rstp_core.proofs.Keeps.{sent-keeps}
use Rattle.rstp_core.proofs.TurnsClosed.{or_false, or_true, same_number}
use Rattle.rstp_core.proofs.LegalTrees.{rows_are, row_is, legal_ready, happening_legal}

-- A port as the roles are about to be chosen, where e says that it is set to be at the edge.
record IsFirst (e : Bool) (r : PortInEvent) : Type 0 where
  info : r.port.info ≡ Mine
  was : r.was.role ≡ Disabled
  state : r.port.state ≡ Discarding
  agreed : r.port.agreed ≡ false
  edge : r.port.oper_edge ≡ e
  flushed : r.flushed ≡ true

restarted_first : (r : PortInEvent) → IsFirst r.inputs.edge (after_restart r)
restarted_first r = record { info = refl; was = refl; state = refl; agreed = refl; edge = refl; flushed = refl }

first_if : (e b : Bool) (x y : PortInEvent) → IsFirst e x → IsFirst e y → IsFirst e (cond b x y)
first_if e true x y h i = h
first_if e false x y h i = i

expired_first : (e : Bool) (r : PortInEvent) → IsFirst e r → IsFirst e (after_expiry r)
expired_first e r h =
    let x : PortInEvent = record r { port = record r.port { info = Mine } } in
    first_if e (is_received r.port.info && eqb r.port.rcvd_info_while 0) x r (record { info = refl; was = h.was; state = h.state; agreed = h.agreed; edge = h.edge; flushed = h.flushed }) h

-- A port that is on, with its role.
record IsNew (e : Bool) (r : PortInEvent) : Type 0 where
  role : r.port.role ≡ Designated
  was : r.was.role ≡ Disabled
  state : r.port.state ≡ Discarding
  agreed : r.port.agreed ≡ false
  edge : r.port.oper_edge ≡ e

taken_second : (a b : Bool) (x y z : PortInEvent) → a ≡ false → b ≡ true → cond a x (cond b y z) ≡ y
taken_second false true x y z h i = refl
taken_second true b x y z h i = cc
taken_second false false x y z h i = cc

role_new : (own : BridgeId) (root : Best) (e : Bool) (r : PortInEvent) → r.inputs.on ≡ true → IsFirst e r → IsNew e (with_role own root r)
role_new own root e r on h =
    let is : with_role own root r ≡ with_designated_vector own root r = taken_second (not r.inputs.on) (not (is_received r.port.info)) _ (with_designated_vector own root r) _ (ap not on) (ap (λ (i : Info). not (is_received i)) h.info) in
    subst (IsNew e) (sym is) (record { role = refl; was = h.was; state = h.state; agreed = h.agreed; edge = h.edge })

-- It waits.
record IsWaiting (c : Context) (e : Bool) (r : PortInEvent) : Type 0 where
  new : IsNew e r
  delay : r.port.fd_while ≡ c.timing.forward_delay

new_if : (e b : Bool) (x y : PortInEvent) → IsNew e x → IsNew e y → IsNew e (cond b x y)
new_if e true x y h i = h
new_if e false x y h i = i

waiting_if : (c : Context) (e b : Bool) (x y : PortInEvent) → IsWaiting c e x → IsWaiting c e y → IsWaiting c e (cond b x y)
waiting_if c e true x y h i = h
waiting_if c e false x y h i = i

first_of : (b : Bool) (x y : PortInEvent) → b ≡ true → cond b x y ≡ x
first_of true x y h = refl
first_of false x y h = cc

blocked_new : (e : Bool) (r : PortInEvent) → IsNew e r → IsNew e (after_blocking r)
blocked_new e r h =
    let x : PortInEvent = record r { port = record r.port { state = Discarding; fd_while = 0; tc_while = 0 }; flushed = true } in
    new_if e (is_alternate_or_backup r.port.role && has_changed_role r) x r (record { role = h.role; was = h.was; state = refl; agreed = h.agreed; edge = h.edge }) h

delayed_waiting : (c : Context) (e : Bool) (r : PortInEvent) → IsNew e r → IsWaiting c e (after_delay c r)
delayed_waiting c e r h =
    let test : (is_root_or_designated r.port.role && not (is_root_or_designated r.was.role) && is_discarding r.port.state) ≡ true = λ i. is_root_or_designated (h.role i) && not (is_root_or_designated (h.was i)) && is_discarding (h.state i) in
    let x : PortInEvent = record r { port = record r.port { fd_while = c.timing.forward_delay } } in
    subst (IsWaiting c e) (sym (first_of (is_root_or_designated r.port.role && not (is_root_or_designated r.was.role) && is_discarding r.port.state) x r test)) (record { new = record { role = h.role; was = h.was; state = h.state; agreed = h.agreed; edge = h.edge }; delay = refl })

retired_waiting : (c : Context) (e : Bool) (r : PortInEvent) → IsWaiting c e r → IsWaiting c e (after_root_role c r)
retired_waiting c e r h =
    let x : PortInEvent = record r { port = record r.port { rr_while = c.timing.forward_delay } } in
    waiting_if c e (is_root r.was.role && is_designated r.port.role && not (is_discarding r.port.state)) x r (record { new = record { role = h.new.role; was = h.new.was; state = h.new.state; agreed = h.new.agreed; edge = h.new.edge }; delay = h.delay }) h

disagreed_waiting : (c : Context) (e : Bool) (r : PortInEvent) → IsWaiting c e r → IsWaiting c e (after_role_change r)
disagreed_waiting c e r h =
    let x : PortInEvent = record r { port = record r.port { agreed = false; agree = false } } in
    waiting_if c e (has_changed_role r) x r (record { new = record { role = h.new.role; was = h.new.was; state = h.new.state; agreed = refl; edge = h.new.edge }; delay = h.delay }) h

rested_waiting : (c : Context) (e : Bool) (r : PortInEvent) → IsWaiting c e r → IsWaiting c e (after_discarding r)
rested_waiting c e r h =
    let x : PortInEvent = record r { port = record r.port { rr_while = 0 } } in
    waiting_if c e (is_discarding r.port.state) x r (record { new = record { role = h.new.role; was = h.new.was; state = h.new.state; agreed = h.new.agreed; edge = h.new.edge }; delay = h.delay }) h

announced_waiting : (c : Context) (e : Bool) (r : PortInEvent) → IsWaiting c e r → IsWaiting c e (after_announcement c r)
announced_waiting c e r h =
    let same = same_vector r.was.vector r.port.vector in
    let x : PortInEvent = record r { port = record r.port { new_info = true; agreed = r.port.agreed && same } } in
    waiting_if c e (is_designated r.port.role && (has_changed_role r || not same || not (same_times c.was_times c.times))) x r (record { new = record { role = h.new.role; was = h.new.was; state = h.new.state; agreed = ap (λ (b : Bool). b && same) h.new.agreed; edge = h.new.edge }; delay = h.delay }) h

turned_waiting : (c : Context) (e : Bool) (r : PortInEvent) → IsNew e r → IsWaiting c e (after_first_transitions c r)
turned_waiting c e r h =
    let r1 = after_blocking r in
    let r2 = after_delay c r1 in
    let r3 = after_root_role c r2 in
    let r4 = after_role_change r3 in
    let r5 = after_discarding r4 in
    announced_waiting c e r5 (rested_waiting c e r4 (disagreed_waiting c e r3 (retired_waiting c e r2 (delayed_waiting c e r1 (blocked_new e r h)))))

synced_waiting : (c : Context) (e : Bool) (r : PortInEvent) → IsWaiting c e r → IsWaiting c e (after_synchronization c r)
synced_waiting c e r h =
    let x : PortInEvent = record r { port = record r.port { agree = true; new_info = true } } in
    let y : PortInEvent = record r { port = record r.port { state = Discarding; fd_while = c.timing.forward_delay; rr_while = 0; new_info = true } } in
    let waits = is_designated r.port.role && not r.port.oper_edge && not r.port.agreed && not (is_discarding r.port.state) in
    waiting_if c e (is_root r.port.role) x (cond waits y r) (record { new = record { role = h.new.role; was = h.new.was; state = h.new.state; agreed = h.new.agreed; edge = h.new.edge }; delay = h.delay }) (waiting_if c e waits y r (record { new = record { role = h.new.role; was = h.new.was; state = refl; agreed = h.new.agreed; edge = h.new.edge }; delay = refl }) h)

-- It has its state.
record IsStarted (st : State) (r : PortInEvent) : Type 0 where
  role : r.port.role ≡ Designated
  state : r.port.state ≡ st

started_if : (q z : Bool) (a b r : PortInEvent) → z ≡ false → IsStarted Forwarding a → IsStarted Discarding r → IsStarted (cond q Forwarding Discarding) (cond q a (cond z b r))
started_if true z a b r e h i = h
started_if false false a b r e h i = i
started_if false true a b r e h i = cc

not_over : (n : ℕ) → 1 ≤ n → eqb n 0 ≡ false
not_over n h = elim (eqb_tells n 0) [ inl e ↦ absurd (omega (arith, e.1, h)) | inr d ↦ d.0 ]

advanced_started : (c : Context) (e clear : Bool) (r : PortInEvent) → 1 ≤ c.timing.forward_delay → IsWaiting c e r → IsStarted (cond (c.timing.rstp_version && e) Forwarding Discarding) (after_advance c clear r)
advanced_started c e clear r long h =
    let quick : is_quick c clear r ≡ (c.timing.rstp_version && e) = (λ i. c.timing.rstp_version && (is_root (h.new.role i) && clear || is_designated (h.new.role i) && (h.new.edge i || h.new.agreed i))) ∙ ap (λ (b : Bool). c.timing.rstp_version && b) (or_false e) in
    let waits : (is_root_or_designated r.port.role && eqb r.port.fd_while 0) ≡ false = (λ i. is_root_or_designated (h.new.role i) && eqb (h.delay i) 0) ∙ not_over c.timing.forward_delay long in
    let x : PortInEvent = record r { port = record r.port { state = Forwarding } } in
    let y : PortInEvent = record r { port = record r.port { state = next_state r.port.state; fd_while = cond (is_discarding r.port.state) c.timing.forward_delay 0 } } in
    subst (λ (q : Bool). IsStarted (cond q Forwarding Discarding) (after_advance c clear r)) quick (started_if (is_quick c clear r) (is_root_or_designated r.port.role && eqb r.port.fd_while 0) x y r waits (record { role = h.new.role; state = refl }) (record { role = h.new.role; state = h.new.state }))

-- What the rest of the event leaves as it is.
record Stays (r q : PortInEvent) : Type 0 where
  role : q.port.role ≡ r.port.role
  state : q.port.state ≡ r.port.state

stays : (r : PortInEvent) → Stays r r
stays r = record { role = refl; state = refl }

stays_next : (r q p : PortInEvent) → Stays r q → Stays q p → Stays r p
stays_next r q p h i = record { role = i.role ∙ h.role; state = i.state ∙ h.state }

stays_if : (b : Bool) (r x y : PortInEvent) → Stays r x → Stays r y → Stays r (cond b x y)
stays_if true r x y h i = h
stays_if false r x y h i = i

stays_started : (t : Timing) (r : PortInEvent) → Stays r (with_change_started t r)
stays_started t r =
    let x : PortInEvent = record r { port = record r.port { tc_while = change_time t r; new_info = true } } in
    stays_if (eqb r.port.tc_while 0) r x r (record { role = refl; state = refl }) (stays r)

stays_spread : (t : Timing) (n : ℕ) (r : PortInEvent) → Stays r (with_change_spread_but t n r)
stays_spread t n r =
    let h = stays_started t r in
    let x : PortInEvent = record (with_change_started t r) { flushed = true } in
    let hears = r.inputs.on && is_root_or_designated r.port.role && not r.port.oper_edge in
    stays_if (eqb r.inputs.number n) r r (cond hears x r) (stays r) (stays_if hears r x r (record { role = h.role; state = h.state }) (stays r))

stays_begun : (t : Timing) (r : PortInEvent) → Stays r (after_begin t r)
stays_begun t r =
    let one : Stays r (with_transition_counted r) = record { role = refl; state = refl } in
    stays_if r.port.oper_edge r (with_transition_counted r) (with_change_started t (with_transition_counted r)) one (stays_next r (with_transition_counted r) (with_change_started t (with_transition_counted r)) one (stays_started t (with_transition_counted r)))

stays_greeted : (t : Timing) (r : PortInEvent) → Stays r (after_hello_step t r)
stays_greeted t r =
    let x : PortInEvent = record r { port = record r.port { hello_when = t.hello; new_info = r.port.new_info || is_designated r.port.role || nat_lt 0 r.port.tc_while } } in
    stays_if (is_root_or_designated r.port.role && eqb r.port.hello_when 0) r x r (record { role = refl; state = refl }) (stays r)

stays_sent : (c : Context) (r : PortInEvent) → Stays r (after_sending c r)
stays_sent c r =
    let x : PortInEvent = record r { port = record r.port { tx_count = r.port.tx_count + 1; new_info = false; tc_ack = r.port.tc_ack && not (is_designated r.port.role && not (sends_rapid c.timing r)) } } in
    let y : PortInEvent = record r { port = record r.port { new_info = false } } in
    stays_if (sends c r) r x (cond (is_some (message_due c r)) r y) (record { role = refl; state = refl }) (stays_if (is_some (message_due c r)) r r y (stays r) (record { role = refl; state = refl }))

stays_held : IsHeld Stays
stays_held = record { still = stays; next = stays_next }

stays_turns : (t : Timing) → HoldsTurns Stays t
stays_turns t = record { held = stays_held; begins = stays_begun t; spreads = stays_spread t }

-- from the fifth step to the end of the event
stays_ready : (tick : Bool) (c : Context) (rows : List PortInEvent) → AllHold Stays (before_turns c rows) (map (after_sending c) (ready tick c rows))
stays_ready tick c rows =
    let d = before_turns c rows in
    let e = turns c.timing d in
    let g = after_hello_steps tick c e in
    let one : AllHold Stays d e = hold-turns Stays c.timing (stays_turns c.timing) (length d) d in
    let two : AllHold Stays e g = hold-if Stays tick e (map (after_hello_step c.timing) e) e (hold-map Stays (after_hello_step c.timing) e (stays_greeted c.timing)) (hold-refl Stays stays_held e) in
    let three : AllHold Stays g (map (after_sending c) g) = hold-map Stays (after_sending c) g (stays_sent c) in
    hold-trans Stays stays_held d e (map (after_sending c) g) one (hold-trans Stays stays_held e g (map (after_sending c) g) two three)

-- the row at a place of a pass
at_map : (P Q : PortInEvent → Type 0) (f : PortInEvent → PortInEvent) (xs : List PortInEvent) (k : ℕ) → k < length xs → ((r : PortInEvent) → P r → Q (f r)) → P (get_or xs k no_row) → Q (get_or (map f xs) k no_row)
at_map P Q f xs k b h p = subst Q (sym (get_or-map f xs k no_row no_row b)) (h (get_or xs k no_row) p)

at_if : (P : PortInEvent → Type 0) (b : Bool) (xs ys : List PortInEvent) (k : ℕ) → P (get_or xs k no_row) → P (get_or ys k no_row) → P (get_or (cond b xs ys) k no_row)
at_if P true xs ys k h i = h
at_if P false xs ys k h i = i

-- its state, once all is sent
started_at : (tick : Bool) (c : Context) (rows : List PortInEvent) (e : Bool) (k : ℕ) → k < length rows → 1 ≤ c.timing.forward_delay → IsNew e (get_or rows k no_row) → IsStarted (cond (c.timing.rstp_version && e) Forwarding Discarding) (get_or (map (after_sending c) (ready tick c rows)) k no_row)
started_at tick c rows e k b long h =
    let a = map (after_first_transitions c) rows in
    let s = after_synchronizations c a in
    let d = before_turns c rows in
    let st = cond (c.timing.rstp_version && e) Forwarding Discarding in
    let la : k < length a = omega (arith, b, length-map rows (after_first_transitions c)) in
    let ls : k < length s = same_if _ a k la in
    let ld : k < length d = omega (arith, ls, length-map s (after_advance c (no_recent_root s))) in
    let one : IsWaiting c e (get_or a k no_row) = at_map (IsNew e) (IsWaiting c e) (after_first_transitions c) rows k b (turned_waiting c e) h in
    let two : IsWaiting c e (get_or s k no_row) = at_if (IsWaiting c e) _ (map (after_synchronization c) a) a k (at_map (IsWaiting c e) (IsWaiting c e) (after_synchronization c) a k la (synced_waiting c e) one) one in
    let three : IsStarted st (get_or d k no_row) = at_map (IsWaiting c e) (IsStarted st) (after_advance c (no_recent_root s)) s k ls (λ r w. advanced_started c e (no_recent_root s) r long w) two in
    let last = (stays_ready tick c rows).at k ld in
    record { role = last.role ∙ three.role; state = last.state ∙ three.state } where
      same_if : (t : Bool) (xs : List PortInEvent) (k : ℕ) → k < length xs → k < length (cond t (map (after_synchronization c) xs) xs)
      same_if true xs k b = omega (arith, b, length-map xs (after_synchronization c))
      same_if false xs k b = b

-- What an event leaves of a port that starts anew, which is row r once the event has done its own part.
record IsLeftAnew (v : Table) (u : Tree) (out : Outcome) (k : ℕ) (r : PortInEvent) : Type 0 where
  flushed : Contains out.flushed.items (1 + k)
  link : (get_or u.ports k no_row.port).link ≡ r.port.link
  started : r.inputs.on ≡ true → ((get_or u.ports k no_row.port).role ≡ Designated) × ((get_or u.ports k no_row.port).state ≡ cond (rstp_version v && r.inputs.edge) Forwarding Discarding)

second_at_least : (t : ℕ) → 1 ≤ seconds t
second_at_least t = omega arith

left_anew : (v : Table) (tick : Bool) (was : Times) (rows : List PortInEvent) (base u : Tree) (out : Outcome) (k : ℕ) → k < length rows → AreNumbered rows → Ends v tick was rows base u out → IsFirst (get_or rows k no_row).inputs.edge (get_or rows k no_row) → IsLeftAnew v u out k (get_or rows k no_row)
left_anew v tick was rows base u out k b number ends first =
    let c = ends.context in
    let own = own_id v base.address in
    let r = get_or rows k no_row in
    let aged = map after_expiry rows in
    let ch = rows_with_roles own c.root aged in
    let rd = ready tick c ch in
    let last = map (after_sending c) rd in
    let after_begin : AllHold IsFixed rows ch = fixed_chosen own c.root rows in
    let all : AllHold IsFixed rows rd = hold-trans IsFixed fixed_held rows ch rd after_begin (fixed_ready tick c ch) in
    let done : AllHold IsFixed rows last = hold-trans IsFixed fixed_held rows rd last all (hold-map IsFixed (after_sending c) rd (λ q. fixed_keeps q (after_sending c q) (sent-keeps c q))) in
    let hd : k < length rd = omega (arith, b, all.same) in
    let hl : k < length ends.left = omega (arith, b, done.same, ap length ends.concludes.rows) in
    let port : get_or u.ports k no_row.port ≡ (get_or last k no_row).port = ap (λ (x : Tree). get_or x.ports k no_row.port) ends.tree ∙ (get_or-map (λ (q : PortInEvent). q.port) ends.left k no_row no_row.port hl ∙ ap (λ (rs : List PortInEvent). (get_or rs k no_row).port) ends.concludes.rows) in
    let place : (get_or rd k no_row).inputs.number ≡ 1 + k = omega (arith, numbered rows rd all number k hd) in
    let long : 1 ≤ c.timing.forward_delay = subst (λ (x : Context). 1 ≤ x.timing.forward_delay) (sym ends.concludes.context) (second_at_least _) in
    let version : c.timing.rstp_version ≡ rstp_version v = ap (λ (x : Context). x.timing.rstp_version) ends.concludes.context in
    let lc : k < length ch = omega (arith, b, after_begin.same) in
    record {
      flushed = subst (λ (ns : List ℕ). Contains ns (1 + k)) (sym ends.concludes.flushed) (contains_flushed rd k (1 + k) hd place ((all.at k b).flushed first.flushed));
      link = ap (λ (p : Port). p.link) port ∙ (done.at k b).link;
      started = λ on.
          let la : k < length aged = omega (arith, b, length-map rows after_expiry) in
          let a : IsFirst r.inputs.edge (get_or aged k no_row) = at_map (IsFirst r.inputs.edge) (IsFirst r.inputs.edge) after_expiry rows k b (expired_first r.inputs.edge) first in
          let on_still : (get_or aged k no_row).inputs.on ≡ true = ap (λ (l : PortInputs). l.on) ((hold-map IsFixed after_expiry rows fixed_expired).at k b).inputs ∙ on in
          let is : get_or ch k no_row ≡ with_role own c.root (get_or aged k no_row) = get_or-map (with_role own c.root) aged k no_row no_row la in
          let new : IsNew r.inputs.edge (get_or ch k no_row) = subst (IsNew r.inputs.edge) (sym is) (role_new own c.root r.inputs.edge (get_or aged k no_row) on_still a) in
          let st : IsStarted (cond (c.timing.rstp_version && r.inputs.edge) Forwarding Discarding) (get_or last k no_row) = started_at tick c ch r.inputs.edge k lc long new in (
            ap (λ (p : Port). p.role) port ∙ st.role,
            ap (λ (p : Port). p.state) port ∙ (st.state ∙ ap (λ (x : Bool). cond (x && r.inputs.edge) Forwarding Discarding) version),
          );
    }

-- The port is one that starts anew, at its place.
record IsHere (r : Table) (u : Tree) (k : ℕ) : Type 0 where
  role : (get_or u.ports k no_row.port).role ≡ cond (enabled_by r (1 + k) && (get_or u.ports k no_row.port).link) Designated Disabled
  state : (get_or u.ports k no_row.port).state ≡ cond (enabled_by r (1 + k) && (get_or u.ports k no_row.port).link && rstp_version r && edge_by r (1 + k)) Forwarding Discarding

here_anew : (r : Table) (u : Tree) (k n : ℕ) → 1 + k ≡ n → n - 1 ≡ k → IsHere r u k → IsAnew r u n
here_anew r u k n e f h = record { role = role_at; state = state_at } where
  role_at : (get_or u.ports (n - 1) no_row.port).role ≡ cond (enabled_by r n && (get_or u.ports (n - 1) no_row.port).link) Designated Disabled
  role_at = subst (λ (m : ℕ). (get_or u.ports (n - 1) no_row.port).role ≡ cond (enabled_by r m && (get_or u.ports (n - 1) no_row.port).link) Designated Disabled) e (subst (λ (j : ℕ). (get_or u.ports j no_row.port).role ≡ cond (enabled_by r (1 + k) && (get_or u.ports j no_row.port).link) Designated Disabled) (sym f) h.role)

  state_at : (get_or u.ports (n - 1) no_row.port).state ≡ cond (enabled_by r n && (get_or u.ports (n - 1) no_row.port).link && rstp_version r && edge_by r n) Forwarding Discarding
  state_at = subst (λ (m : ℕ). (get_or u.ports (n - 1) no_row.port).state ≡ cond (enabled_by r m && (get_or u.ports (n - 1) no_row.port).link && rstp_version r && edge_by r m) Forwarding Discarding) e (subst (λ (j : ℕ). (get_or u.ports j no_row.port).state ≡ cond (enabled_by r (1 + k) && (get_or u.ports j no_row.port).link && rstp_version r && edge_by r (1 + k)) Forwarding Discarding) (sym f) h.state)

finish : (v r : Table) (tick : Bool) (was : Times) (rows : List PortInEvent) (t base u : Tree) (out : Outcome) (k : ℕ) → k < length t.ports → OwnPart v t rows → Alike v r → rstp_version r ≡ rstp_version v → Ends v tick was rows base u out → IsFirst (get_or rows k no_row).inputs.edge (get_or rows k no_row) → IsLegal r u → k < length u.ports → Contains out.flushed.items (1 + k) × IsHere r u k
finish v r tick was rows t base u out k b part same version ends first legal there = (left.flushed, record { role = role; state = state }) where
  left : IsLeftAnew v u out k (get_or rows k no_row)
  left = left_anew v tick was rows base u out k (omega (arith, b, part.same)) (own_numbered v t rows part) ends first

  on : (get_or rows k no_row).inputs.on ≡ (enabled_by r (1 + k) && (get_or u.ports k no_row.port).link)
  on = ap (λ (l : PortInputs). l.on) (part.fresh k b).inputs ∙ (λ i. sym (same.enabled (1 + k)) i && sym left.link i)

  edge : (get_or rows k no_row).inputs.edge ≡ edge_by r (1 + k)
  edge = ap (λ (l : PortInputs). l.edge) (part.fresh k b).inputs ∙ sym (same.edge (1 + k))

  calm : IsCalm (enabled_by r (1 + k)) (get_or u.ports k no_row.port)
  calm = (legal_ready r u legal).calm k there

  role : (get_or u.ports k no_row.port).role ≡ cond (enabled_by r (1 + k) && (get_or u.ports k no_row.port).link) Designated Disabled
  role = elim (which (enabled_by r (1 + k) && (get_or u.ports k no_row.port).link)) [
    | inl y ↦ (left.started (on ∙ y)).0 ∙ sym (ap (λ (x : Bool). cond x Designated Disabled) y)
    | inr n ↦ calm.off n ∙ sym (ap (λ (x : Bool). cond x Designated Disabled) n)
  ]

  state : (get_or u.ports k no_row.port).state ≡ cond (enabled_by r (1 + k) && (get_or u.ports k no_row.port).link && rstp_version r && edge_by r (1 + k)) Forwarding Discarding
  state = elim (which (enabled_by r (1 + k) && (get_or u.ports k no_row.port).link)) [
    | inl y ↦ (left.started (on ∙ y)).1 ∙ (λ i. cond ((sym y i) && (sym version i) && (edge i)) Forwarding Discarding)
    | inr n ↦ calm.still (ap is_root_or_designated (calm.off n)) ∙ sym (ap (λ (x : Bool). cond (x && rstp_version r && edge_by r (1 + k)) Forwarding Discarding) n)
  ]

-- a link that changes
differ : (up l : Bool) → l ≢ up → not (cond up l (not l)) ≡ true
differ true true h = absurd (h refl)
differ true false h = refl
differ false true h = refl
differ false false h = absurd (h refl)

linked_first : (n : ℕ) (up : Bool) (q : PortInEvent) → q.inputs.number ≡ n → q.inputs.enabled ≡ true → q.port.link ≢ up → (let p = after_link n up q in IsFirst p.inputs.edge p)
linked_first n up q number enabled link =
    let s = record q { inputs = record q.inputs { on = q.inputs.enabled && up }; port = record q.port { link = up } } in
    let test : (eqb q.inputs.number n && not (cond up q.port.link (not q.port.link))) ≡ true = (λ i. eqb (number i) n && differ up q.port.link link i) ∙ ap (λ (b : Bool). b && true) (same_number n) in
    let is : after_link n up q ≡ after_restart s = first_of _ (after_switch up q) q test ∙ first_of q.inputs.enabled (after_restart s) s enabled in
    subst (λ (p : PortInEvent). IsFirst p.inputs.edge p) (sym is) (restarted_first s)

-- what settling finds
changed : (a b : Bool) → a ≢ b → cond a (not b) b ≡ true
changed true true h = absurd (h refl)
changed true false h = refl
changed false true h = refl
changed false false h = absurd (h refl)

first_both : (b : Bool) (x y : PortInEvent) → IsFirst x.inputs.edge x → IsFirst y.inputs.edge y → (let p = cond b x y in IsFirst p.inputs.edge p)
first_both true x y h i = h
first_both false x y h i = i

settled_first : (v : Bool) (q : PortInEvent) → is_renewed v q ≡ true → (let p = after_settling v q in IsFirst p.inputs.edge p)
settled_first v q test =
    let x = after_renewal v q in
    let y = after_edge_setting x in
    let one : IsFirst x.inputs.edge x = subst (λ (p : PortInEvent). IsFirst p.inputs.edge p) (sym (first_of (is_renewed v q) (after_restart q) q test)) (restarted_first q) in
    let x1 : PortInEvent = record x { port = record x.port { oper_edge = x.inputs.edge } } in
    let y1 : PortInEvent = record y { port = record y.port { send_rstp = true } } in
    let two : IsFirst y.inputs.edge y = first_both (cond x.inputs.edge (not x.inputs.was_edge) x.inputs.was_edge) x1 x (record { info = one.info; was = one.was; state = one.state; agreed = one.agreed; edge = refl; flushed = one.flushed }) one in
    first_both y.inputs.migrate y1 y (record { info = two.info; was = two.was; state = two.state; agreed = two.agreed; edge = two.edge; flushed = two.flushed }) two

-- a port that starts anew loses its learned rows
pub restarts_flush : (s r : Table) (t u : Tree) (h : Happening) (out : Outcome) → IsLegal s t → Happens h s t r u out → (n : ℕ) → HasPort t n → Restarts h s t n → Contains out.flushed.items n × IsAnew r u n
restarts_flush s r t u h out legal happens n port restarts = to (by h happens restarts) where
  at : 1 + (n - 1) ≡ n
  at = omega (arith, port.0)

  within : n - 1 < length t.ports
  within = omega (arith, port.0, port.1)

  after : IsLegal r u
  after = happening_legal h s r t u out legal happens

  ready_of : IsReady s t
  ready_of = legal_ready s t legal

  there : n - 1 < length u.ports
  there =
      let event = event_of s t (legal_ready s t legal) h r u out happens in
      omega (arith, within, same_length event.0 r t u out event.1)

  to : Contains out.flushed.items (1 + (n - 1)) × IsHere r u (n - 1) → Contains out.flushed.items n × IsAnew r u n
  to x = (subst (λ (m : ℕ). Contains out.flushed.items m) at x.0, here_anew r u (n - 1) n at refl x.1)

  row : (v : Table) (f : PortInEvent → PortInEvent) → get_or (map f (rows_of v t)) (n - 1) no_row ≡ f (row_at v t (n - 1))
  row v f =
      get_or-map f (rows_of v t) (n - 1) no_row no_row (omega (arith, within, rows_are v t legal.configured)) ∙ ap f (row_is v t legal.configured (n - 1) within)

  first : (v : Table) (f : PortInEvent → PortInEvent) → (let p = f (row_at v t (n - 1)) in IsFirst p.inputs.edge p) → (let p = get_or (map f (rows_of v t)) (n - 1) no_row in IsFirst p.inputs.edge p)
  first v f = subst (λ (p : PortInEvent). IsFirst p.inputs.edge p) (sym (row v f))

  another : (v : Table) → version_of v ≢ version_of s → has_other_version v t.settled ≡ true
  another v d = elim (eqb_tells (version_of v) t.settled.version) [
    | inl same ↦ absurd (d (same.1 ∙ ap (λ (w : SettledValues). w.version) legal.settled))
    | inr z ↦ ap not z.0
  ]

  by : (h : Happening) → Happens h s t r u out → Restarts h s t n → Contains out.flushed.items (1 + (n - 1)) × IsHere r u (n - 1)
  by Tick e x = absurd x
  by (Message m b) e x = absurd x
  by (Link m up) e x =
      let number : 1 + (n - 1) ≡ m = at ∙ sym x.0 in
      let enabled : enabled_by s (1 + (n - 1)) ≡ true = ap (enabled_by s) at ∙ x.1 in
      finish s r _ _ _ t t u out (n - 1) within (own_part s t ready_of (Link m up)) (subst (Alike s) (sym e.0) (alike s)) (ap rstp_version e.0) e.1 (first s (after_link m up) (linked_first m up (row_at s t (n - 1)) number enabled x.2)) after there
  by (Settle v) e x =
      let other = has_other_version v t.settled in
      let q = row_at v t (n - 1) in
      let found : is_renewed other q ≡ true = elim x [
        | inl d ↦ ap (λ (b : Bool). b || (q.port.link && cond q.inputs.enabled (not q.inputs.was_enabled) q.inputs.was_enabled)) (another v d)
        | inr d ↦
            let was : q.inputs.was_enabled ≡ enabled_by s n = was_enabled s t legal.settled (1 + (n - 1)) ∙ ap (enabled_by s) at in
            let now : q.inputs.enabled ≡ enabled_by v n = ap (enabled_by v) at in
            (λ i. other || (d.0 i && cond (now i) (not (was i)) (was i))) ∙ (ap (λ (b : Bool). other || b) (changed (enabled_by v n) (enabled_by s n) d.1) ∙ or_true other)
      ] in
      finish v r _ _ _ t (record t { settled = settled_of v }) u out (n - 1) within (own_part s t ready_of (Settle v)) (subst (Alike v) (sym e.0) (spent_alike v)) (ap rstp_version e.0) e.1 (first v (after_settling other) (settled_first other q found)) after there
