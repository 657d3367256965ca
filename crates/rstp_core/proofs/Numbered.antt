-- The rows of an event are of port 1, port 2, .., and its turns make one change of each port.
use Rattle.std.proofs.Common.{◌≡◌, ℕ, ◌+◌, ◌<◌, Bool, true, false, cond, List, length, get_or, map, refl, sym, ap, subst, ◌∙◌, arith}
use Rattle.frame_core.specs.declared.bpdu.BridgeId.{BridgeId}
use Rattle.rstp_settings.specs.Table.{Table}
use Rattle.rstp_rules.specs.declared.row.PortInEvent.{PortInEvent}
use Rattle.rstp_rules.specs.declared.row.PortInputs.{PortInputs}
use Rattle.rstp_rules.specs.declared.row.Best.{Best}
use Rattle.rstp_rules.specs.declared.row.Context.{Context}
use Rattle.rstp_rules.specs.Roles.{after_expiry, with_role}
use Rattle.rstp_rules.specs.Transitions.{after_blocking, after_first_transitions}
use Rattle.rstp_rules.specs.Turns.{no_row, AreDistinct}
use Rattle.rstp_core.specs.Passes.{rows_with_roles, before_turns, after_turns_at_once, after_hello_steps, ready}
use Rattle.rstp_core.specs.Tree.{Tree, rows_of}
use Rattle.rstp_core.specs.Steps.{event_own, fresh_rows, event_root, roled_rows, event_context, ready_rows}
use Rattle.rstp_core.specs.Runs.{Happening, event_by}
use Rattle.rstp_core.specs.Legal.{IsLegal, AreNumbered}
use Rattle.rstp_core.proofs.Keeps.{Keeps, turned-keeps}
use Rattle.rstp_core.proofs.Fresh.{expired-same}
use Rattle.rstp_core.proofs.Roled.{with_role-is}
use Rattle.rstp_core.proofs.Places.{AllHold, IsHeld, hold-trans, hold-map, keep-advanced, keep-ready}
use Rattle.rstp_core.proofs.Happenings.{OwnPart, own_part}
use Rattle.rstp_core.proofs.LegalTrees.{rows_are, row_is, legal_ready}
use Rattle.rstp_core.proofs.TurnsClosed.{turns_closed}

-- What each pass over the rows leaves of a row as it is.
pub record IsFixed (r q : PortInEvent) : Type 0 where
  pub inputs : q.inputs ≡ r.inputs
  pub link : q.port.link ≡ r.port.link
  pub flushed : r.flushed ≡ true → q.flushed ≡ true

fixed : (r : PortInEvent) → IsFixed r r
fixed r = record { inputs = refl; link = refl; flushed = λ e. e }

fixed_next : (r q p : PortInEvent) → IsFixed r q → IsFixed q p → IsFixed r p
fixed_next r q p h i = record { inputs = i.inputs ∙ h.inputs; link = i.link ∙ h.link; flushed = λ e. i.flushed (h.flushed e) }

pub fixed_held : IsHeld IsFixed
fixed_held = record { still = fixed; next = fixed_next }

pub fixed_keeps : (r q : PortInEvent) → Keeps r q → IsFixed r q
fixed_keeps r q h = record { inputs = h.inputs; link = h.link; flushed = h.flushed }

fixed_if : (b : Bool) (r x y : PortInEvent) → IsFixed r x → IsFixed r y → IsFixed r (cond b x y)
fixed_if true r x y h i = h
fixed_if false r x y h i = i

pub fixed_expired : (r : PortInEvent) → IsFixed r (after_expiry r)
fixed_expired r = let h = expired-same r in record { inputs = h.inputs; link = h.link; flushed = h.flushed }

fixed_role : (own : BridgeId) (root : Best) (r : PortInEvent) → IsFixed r (with_role own root r)
fixed_role own root r = subst (IsFixed r) (sym (with_role-is own root r)) (record { inputs = refl; link = refl; flushed = λ e. e })

fixed_turned : (c : Context) (r : PortInEvent) → IsFixed r (after_first_transitions c r)
fixed_turned c r =
    fixed_next r (after_blocking r) (after_first_transitions c r) (fixed_if _ r _ r (record { inputs = refl; link = refl; flushed = λ _. refl }) (fixed r)) (fixed_keeps (after_blocking r) (after_first_transitions c r) (turned-keeps c r))

all_keep : (xs ys : List PortInEvent) → AllHold Keeps xs ys → AllHold IsFixed xs ys
all_keep xs ys h = record { same = h.same; at = λ k b. fixed_keeps (get_or xs k no_row) (get_or ys k no_row) (h.at k b) }

-- the rows with their roles, as the turns begin, and ready to send
pub fixed_chosen : (own : BridgeId) (root : Best) (rows : List PortInEvent) → AllHold IsFixed rows (rows_with_roles own root (map after_expiry rows))
fixed_chosen own root rows =
    let aged = map after_expiry rows in
    hold-trans IsFixed fixed_held rows aged (rows_with_roles own root aged) (hold-map IsFixed after_expiry rows fixed_expired) (hold-map IsFixed (with_role own root) aged (fixed_role own root))

fixed_advanced : (c : Context) (rows : List PortInEvent) → AllHold IsFixed rows (before_turns c rows)
fixed_advanced c rows =
    let begun = map (after_first_transitions c) rows in
    hold-trans IsFixed fixed_held rows begun (before_turns c rows) (hold-map IsFixed (after_first_transitions c) rows (fixed_turned c)) (all_keep begun (before_turns c rows) (keep-advanced c rows))

pub fixed_ready : (tick : Bool) (c : Context) (rows : List PortInEvent) → AllHold IsFixed rows (ready tick c rows)
fixed_ready tick c rows =
    let begun = map (after_first_transitions c) rows in
    hold-trans IsFixed fixed_held rows begun (ready tick c rows) (hold-map IsFixed (after_first_transitions c) rows (fixed_turned c)) (all_keep begun (ready tick c rows) (keep-ready tick c rows))

pub numbered : (xs ys : List PortInEvent) → AllHold IsFixed xs ys → AreNumbered xs → AreNumbered ys
numbered xs ys h n = λ k b.
    let within : k < length xs = omega (arith, b, h.same) in
    ap (λ (l : PortInputs). l.number) (h.at k within).inputs ∙ n k within

one_more : (k : ℕ) → 1 + k ≡ k + 1
one_more k = omega arith

-- as an event's own part leaves them
pub own_numbered : (s : Table) (t : Tree) (rows : List PortInEvent) → OwnPart s t rows → AreNumbered rows
own_numbered s t rows p = λ k b. ap (λ (l : PortInputs). l.number) (p.fresh k (omega (arith, b, p.same))).inputs ∙ one_more k

-- as an event begins
pub rows_numbered : (s : Table) (t : Tree) → IsLegal s t → AreNumbered (rows_of s t)
rows_numbered s t h = λ k b.
    let here : k < length t.ports = omega (arith, b, rows_are s t h.configured) in
    ap (λ (r : PortInEvent). r.inputs.number) (row_is s t h.configured k here) ∙ one_more k

roled_numbered : (h : Happening) (s : Table) (t : Tree) → IsLegal s t → AreNumbered (roled_rows (event_by h s t))
unfolding roled_rows
roled_numbered h s t legal =
    let e = event_by h s t in
    let part : OwnPart e.settings t e.rows = own_part s t (legal_ready s t legal) h in
    numbered e.rows (rows_with_roles (event_own e) (event_root e) (fresh_rows e)) (fixed_chosen (event_own e) (event_root e) e.rows) (own_numbered e.settings t e.rows part)

-- as the turns are taken
pub turns_numbered : (h : Happening) (s : Table) (t : Tree) → IsLegal s t → (let e = event_by h s t in AreNumbered (before_turns (event_context e) (roled_rows e)))
turns_numbered h s t legal =
    let e = event_by h s t in
    numbered (roled_rows e) (before_turns (event_context e) (roled_rows e)) (fixed_advanced (event_context e) (roled_rows e)) (roled_numbered h s t legal)

-- so no two are of one port
distinct_of : (rows : List PortInEvent) → AreNumbered rows → AreDistinct rows
distinct_of rows n = λ i j h k e. omega (arith, n i h, n j k, e)

pub event_turns : (h : Happening) (s : Table) (t : Tree) → IsLegal s t → (let e = event_by h s t in ready_rows e ≡ after_hello_steps e.tick (event_context e) (after_turns_at_once (event_context e) (roled_rows e)))
unfolding ready_rows
event_turns h s t legal =
    let e = event_by h s t in
    let c = event_context e in
    let rows = before_turns c (roled_rows e) in
    ap (after_hello_steps e.tick c) (turns_closed c.timing rows (distinct_of rows (turns_numbered h s t legal)))
