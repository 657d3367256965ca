-- What each step of an event keeps of one port.
use Rattle.std.proofs.Common.{◌≡◌, ℕ, Bool, true, false, cond, ◌&&◌, ◌||◌, not, refl, sym, ap, ◌∙◌}
use Rattle.rstp_rules.specs.declared.port.Role.{Role}
use Rattle.rstp_rules.specs.declared.port.Role.TheVariants.{Disabled, Designated, Root, Alternate, Backup}
use Rattle.rstp_rules.specs.declared.port.State.TheVariants.{Discarding}
use Rattle.rstp_rules.specs.declared.row.PortInEvent.{PortInEvent}
use Rattle.rstp_rules.specs.declared.row.Context.{Context}
use Rattle.rstp_rules.specs.declared.row.Timing.{Timing}
use Rattle.rstp_rules.specs.Ports.{is_root, is_designated, is_root_or_designated, is_discarding}
use Rattle.rstp_rules.specs.Ticks.{after_hello_step}
use Rattle.rstp_rules.specs.Transitions.{after_blocking, after_delay, after_root_role, after_role_change, after_discarding, after_announcement, after_first_transitions, after_synchronization, after_advance, with_change_started, with_change_spread, with_transition_counted}
use Rattle.rstp_rules.specs.Turns.{with_change_spread_but, after_begin}
use Rattle.rstp_rules.specs.Sends.{after_sending}

-- A port that is neither root nor designated is discarding.
abbrev pub IsStill : PortInEvent → Type 0
IsStill r = is_root_or_designated r.port.role ≡ false → r.port.state ≡ Discarding

-- What the steps after the roles keep.
pub record Keeps (r q : PortInEvent) : Type 0 where
  pub inputs : q.inputs ≡ r.inputs
  pub role : q.port.role ≡ r.port.role
  pub info : q.port.info ≡ r.port.info
  pub vector : q.port.vector ≡ r.port.vector
  pub link : q.port.link ≡ r.port.link
  pub flushed : r.flushed ≡ true → q.flushed ≡ true
  pub still : IsStill r → IsStill q

pub Keeps-refl : (r : PortInEvent) → Keeps r r
Keeps-refl r = record { inputs = refl; role = refl; info = refl; vector = refl; link = refl; flushed = λ e. e; still = λ h. h }

pub Keeps-trans : (r q p : PortInEvent) → Keeps r q → Keeps q p → Keeps r p
Keeps-trans r q p h i = record {
  inputs = i.inputs ∙ h.inputs;
  role = i.role ∙ h.role;
  info = i.info ∙ h.info;
  vector = i.vector ∙ h.vector;
  link = i.link ∙ h.link;
  flushed = λ e. i.flushed (h.flushed e);
  still = λ s. i.still (h.still s);
}

Keeps-if : (b : Bool) (r x y : PortInEvent) → (b ≡ true → Keeps r x) → Keeps r y → Keeps r (cond b x y)
Keeps-if true r x y h i = h refl
Keeps-if false r x y h i = i

-- a step that changes none of these
Keeps-same : (r q : PortInEvent) → q.inputs ≡ r.inputs → q.port.role ≡ r.port.role → q.port.info ≡ r.port.info → q.port.vector ≡ r.port.vector → q.port.link ≡ r.port.link → q.flushed ≡ r.flushed → q.port.state ≡ r.port.state → Keeps r q
Keeps-same r q l o i v k f s = record {
  inputs = l;
  role = o;
  info = i;
  vector = v;
  link = k;
  flushed = λ e. f ∙ e;
  still = λ h e. s ∙ h (ap is_root_or_designated (sym o) ∙ e);
}

pub delayed-keeps : (c : Context) (r : PortInEvent) → Keeps r (after_delay c r)
delayed-keeps c r = Keeps-if _ r _ r (λ _. Keeps-same r _ refl refl refl refl refl refl refl) (Keeps-refl r)

pub retired-keeps : (c : Context) (r : PortInEvent) → Keeps r (after_root_role c r)
retired-keeps c r = Keeps-if _ r _ r (λ _. Keeps-same r _ refl refl refl refl refl refl refl) (Keeps-refl r)

pub disagreed-keeps : (r : PortInEvent) → Keeps r (after_role_change r)
disagreed-keeps r = Keeps-if _ r _ r (λ _. Keeps-same r _ refl refl refl refl refl refl refl) (Keeps-refl r)

pub rested-keeps : (r : PortInEvent) → Keeps r (after_discarding r)
rested-keeps r = Keeps-if _ r _ r (λ _. Keeps-same r _ refl refl refl refl refl refl refl) (Keeps-refl r)

pub announced-keeps : (c : Context) (r : PortInEvent) → Keeps r (after_announcement c r)
announced-keeps c r = Keeps-if _ r _ r (λ _. Keeps-same r _ refl refl refl refl refl refl refl) (Keeps-refl r)

-- c after a and b
pub turned-keeps : (c : Context) (r : PortInEvent) → Keeps (after_blocking r) (after_first_transitions c r)
turned-keeps c r =
    let r1 = after_blocking r in
    let r2 = after_delay c r1 in
    let r3 = after_root_role c r2 in
    let r4 = after_role_change r3 in
    let r5 = after_discarding r4 in
    Keeps-trans r1 r2 (after_announcement c r5) (delayed-keeps c r1) (Keeps-trans r2 r3 (after_announcement c r5) (retired-keeps c r2) (Keeps-trans r3 r4 (after_announcement c r5) (disagreed-keeps r3) (Keeps-trans r4 r5 (after_announcement c r5) (rested-keeps r4) (announced-keeps c r5))))

abbrev agreeing : PortInEvent → PortInEvent
agreeing r = record r { port = record r.port { agree = true; new_info = true } }

abbrev waiting : Context → PortInEvent → PortInEvent
waiting c r = record r { port = record r.port { state = Discarding; fd_while = c.timing.forward_delay; rr_while = 0; new_info = true } }

pub synced-keeps : (c : Context) (r : PortInEvent) → Keeps r (after_synchronization c r)
synced-keeps c r =
    Keeps-if (is_root r.port.role) r (agreeing r) (cond (is_designated r.port.role && not r.port.oper_edge && not r.port.agreed && not (is_discarding r.port.state)) (waiting c r) r) (λ _. Keeps-same r (agreeing r) refl refl refl refl refl refl refl) (Keeps-if (is_designated r.port.role && not r.port.oper_edge && not r.port.agreed && not (is_discarding r.port.state)) r (waiting c r) r (λ _. record { inputs = refl; role = refl; info = refl; vector = refl; link = refl; flushed = λ e. e; still = λ _ _. refl }) (Keeps-refl r))

active : (v clear e : Bool) (o : Role) → (v && (is_root o && clear || is_designated o && e)) ≡ true → is_root_or_designated o ≡ true
active v clear e Root h = refl
active v clear e Designated h = refl
active true clear e Disabled h = cc
active false clear e Disabled h = cc
active true clear e Alternate h = cc
active false clear e Alternate h = cc
active true clear e Backup h = cc
active false clear e Backup h = cc

first_of_both : (a b : Bool) → (a && b) ≡ true → a ≡ true
first_of_both true b e = refl
first_of_both false b e = cc

-- a step that gives an active port another state
Keeps-active : (r q : PortInEvent) → q.inputs ≡ r.inputs → q.port.role ≡ r.port.role → q.port.info ≡ r.port.info → q.port.vector ≡ r.port.vector → q.port.link ≡ r.port.link → q.flushed ≡ r.flushed → is_root_or_designated r.port.role ≡ true → Keeps r q
Keeps-active r q l o i v k f a = record {
  inputs = l;
  role = o;
  info = i;
  vector = v;
  link = k;
  flushed = λ e. f ∙ e;
  still = λ h e. let clash : true ≡ false = sym a ∙ (ap is_root_or_designated (sym o) ∙ e) in cc;
}

pub advanced-keeps : (c : Context) (clear : Bool) (r : PortInEvent) → Keeps r (after_advance c clear r)
advanced-keeps c clear r =
    Keeps-if _ r _ _ (λ e. Keeps-active r _ refl refl refl refl refl refl (active c.timing.rstp_version clear (r.port.oper_edge || r.port.agreed) r.port.role e)) (Keeps-if _ r _ r (λ e. Keeps-active r _ refl refl refl refl refl refl (first_of_both (is_root_or_designated r.port.role) _ e)) (Keeps-refl r))

pub started-keeps : (t : Timing) (r : PortInEvent) → Keeps r (with_change_started t r)
started-keeps t r = Keeps-if _ r _ r (λ _. Keeps-same r _ refl refl refl refl refl refl refl) (Keeps-refl r)

Keeps-flush : (r q : PortInEvent) → Keeps r q → Keeps r (record q { flushed = true })
Keeps-flush r q h = record { inputs = h.inputs; role = h.role; info = h.info; vector = h.vector; link = h.link; flushed = λ _. refl; still = h.still }

pub spread-keeps : (t : Timing) (r : PortInEvent) → Keeps r (with_change_spread t r)
spread-keeps t r = Keeps-if _ r _ r (λ _. Keeps-flush r (with_change_started t r) (started-keeps t r)) (Keeps-refl r)

pub spread_but-keeps : (t : Timing) (n : ℕ) (r : PortInEvent) → Keeps r (with_change_spread_but t n r)
spread_but-keeps t n r = Keeps-if _ r r _ (λ _. Keeps-refl r) (spread-keeps t r)

pub begun-keeps : (t : Timing) (r : PortInEvent) → Keeps r (after_begin t r)
begun-keeps t r =
    let one = Keeps-same r (with_transition_counted r) refl refl refl refl refl refl refl in
    Keeps-if _ r (with_transition_counted r) _ (λ _. one) (Keeps-trans r (with_transition_counted r) (with_change_started t (with_transition_counted r)) one (started-keeps t (with_transition_counted r)))

pub greeted-keeps : (t : Timing) (r : PortInEvent) → Keeps r (after_hello_step t r)
greeted-keeps t r = Keeps-if _ r _ r (λ _. Keeps-same r _ refl refl refl refl refl refl refl) (Keeps-refl r)

pub sent-keeps : (c : Context) (r : PortInEvent) → Keeps r (after_sending c r)
sent-keeps c r = Keeps-if _ r _ _ (λ _. Keeps-same r _ refl refl refl refl refl refl refl) (Keeps-if _ r r _ (λ _. Keeps-refl r) (Keeps-same r _ refl refl refl refl refl refl refl))
