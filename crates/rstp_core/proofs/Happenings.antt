-- Each happening is an event: what it leaves of each port.
use Rattle.std.proofs.Common.{◌≡◌, ℕ, zero, suc, ◌+◌, ◌-◌, ◌<◌, Bool, true, false, ◌&&◌, eqb, List, [], ◌∷◌, length, get_or, map, ◌⊎◌, inl, inr, refl, sym, ap, subst, ◌∙◌, arith, Contains}
use Rattle.std.proofs.lemmas.List.{get_or-map, length-map}
use Rattle.frame_core.specs.declared.mac.Mac.{Mac}
use Rattle.frame_core.specs.declared.bpdu.BridgeId.{BridgeId}
use Rattle.frame_core.specs.declared.bpdu.Bpdu.{Bpdu}
use Rattle.frame_core.specs.declared.bpdu.Times.{Times}
use Rattle.rstp_settings.specs.Table.{Table, get, without_migration_checks, without_migration_check, no_values, port_at as values_at}
use Rattle.rstp_settings.specs.declared.key.PortValues.{PortValues}
use Rattle.rstp_settings.specs.declared.key.Key.TheVariants as key
use Rattle.rstp_settings.specs.declared.key.PortKey.TheVariants as port
use Rattle.rstp_settings.specs.declared.config.PortConfig.{PortConfig}
use Rattle.rstp_rules.specs.declared.port.Port.{Port}
use Rattle.rstp_rules.specs.declared.port.Role.TheVariants.{Disabled}
use Rattle.rstp_rules.specs.declared.port.State.{State}
use Rattle.rstp_rules.specs.declared.port.State.TheVariants.{Discarding}
use Rattle.rstp_rules.specs.declared.row.PortInEvent.{PortInEvent}
use Rattle.rstp_rules.specs.declared.row.Best.{Best}
use Rattle.rstp_rules.specs.declared.row.Context.{Context}
use Rattle.rstp_rules.specs.declared.settled.SettledPort.{SettledPort}
use Rattle.rstp_rules.specs.Ports.{is_root_or_designated, is_discarding}
use Rattle.rstp_rules.specs.Vectors.{port_id}
use Rattle.rstp_rules.specs.Lines.{own_id, row_of, enabled_by, edge_by, settled_port_of, rstp_version, times_in_force}
use Rattle.rstp_settings.specs.Config.{no_config}
use Rattle.rstp_rules.specs.Roles.{after_expiry, with_role}
use Rattle.rstp_rules.specs.Restarts.{after_link, after_settling}
use Rattle.rstp_rules.specs.Arrivals.{after_arrival, after_reception, after_receptions}
use Rattle.rstp_rules.specs.Ticks.{after_tick}
use Rattle.rstp_rules.specs.Transitions.{after_first_transitions}
use Rattle.rstp_rules.specs.Turns.{no_row}
use Rattle.rstp_rules.specs.Sends.{after_sending}
use Rattle.rstp_core.specs.declared.rstp.Outcome.{Outcome}
use Rattle.rstp_core.specs.Settled.{SettledValues, settled_of, settled_port}
use Rattle.rstp_core.specs.Passes.{rows_with_roles, ready}
use Rattle.rstp_core.specs.Tree.{Tree, rows_of, has_other_version, Ends}
use Rattle.rstp_core.specs.Runs.{Happening, Happens, event_by}
use Rattle.rstp_core.specs.Runs.Happening.{Tick, Link, Message, Settle}
use Rattle.rstp_core.proofs.Fresh.{IsFresh, Fresh-same, expired-same, ticked-same, received-same, reported-same, linked-fresh, settled-fresh}
use Rattle.rstp_core.proofs.Roled.{IsDone, Done-keeps, turned-done}
use Rattle.rstp_core.proofs.Places.{length-rows_from, rows_from-at, keep-ready, keep-sent, contains_flushed}

-- A port between events, which is enabled or not.
pub record IsCalm (enabled : Bool) (p : Port) : Type 0 where
  pub still : is_root_or_designated p.role ≡ false → p.state ≡ Discarding
  pub off : (enabled && p.link) ≡ false → p.role ≡ Disabled

-- Each port has a configuration, is calm, and what was settled are the settings.
pub record IsReady (s : Table) (t : Tree) : Type 0 where
  pub configured : length t.config ≡ length t.ports
  pub settled : t.settled ≡ settled_of s
  pub calm : (k : ℕ) → k < length t.ports → IsCalm (enabled_by s (1 + k)) (get_or t.ports k no_row.port)

pub which : (b : Bool) → (b ≡ true) ⊎ (b ≡ false)
which true = inl refl
which false = inr refl

-- a port that learns or forwards is root or designated
learns : (e : Bool) (p : Port) → IsCalm e p → is_discarding p.state ≡ false → is_root_or_designated p.role ≡ true
learns e p h f = elim (which (is_root_or_designated p.role)) [
  | inl y ↦ y
  | inr n ↦ let clash : true ≡ false = ap is_discarding (sym (h.still n)) ∙ f in cc
]

-- what is read by a default that is mapped too
at_default : {X Y : Type 0} (f : X → Y) (xs : List X) (i : ℕ) (d : X) → get_or (map f xs) i (f d) ≡ f (get_or xs i d)
at_default f [] zero d = refl
at_default f [] (suc i) d = refl
at_default f (x ∷ xs) zero d = refl
at_default f (x ∷ xs) (suc i) d = at_default f xs i d

abbrev pub id_of : Table → ℕ → ℕ
id_of s n = port_id (get s (key.Port n port.Priority)) n

-- the rows as an event begins, place by place
abbrev pub row_at : Table → Tree → ℕ → PortInEvent
row_at s t k = row_of s (settled_port t.settled (1 + k)) (1 + k) (get_or t.config k no_config) (get_or t.ports k no_row.port)

abbrev pub IsFreshAt : Table → Tree → ℕ → PortInEvent → Type 0
IsFreshAt s t k r = IsFresh s (settled_port t.settled (1 + k)) (1 + k) (get_or t.config k no_config) (get_or t.ports k no_row.port).state r

-- the row of a calm port as an event begins
begins : (s : Table) (w : SettledPort) (n : ℕ) (c : PortConfig) (p : Port) → IsCalm (enabled_by s n) p → IsFresh s w n c p.state (row_of s w n c p)
begins s w n c p h = record {
  inputs = refl;
  was = refl;
  still = h.still;
  off = h.off;
  left = λ f. inl (learns (enabled_by s n) p h f);
}

-- an event's own part: what it leaves of each port
pub record OwnPart (s : Table) (t : Tree) (rows : List PortInEvent) : Type 0 where
  pub same : length rows ≡ length t.ports
  pub fresh : (k : ℕ) → k < length t.ports → IsFreshAt s t k (get_or rows k no_row)

-- The settings r give what the settings v give, as far as roles go.
pub record Alike (v r : Table) : Type 0 where
  pub own : (x : Mac) → own_id r x ≡ own_id v x
  pub enabled : (n : ℕ) → enabled_by r n ≡ enabled_by v n
  pub id : (n : ℕ) → id_of r n ≡ id_of v n
  pub edge : (n : ℕ) → edge_by r n ≡ edge_by v n
  pub cost : (n : ℕ) → get r (key.Port n port.Cost) ≡ get v (key.Port n port.Cost)

pub alike : (v : Table) → Alike v v
alike v = record { own = λ x. refl; enabled = λ n. refl; id = λ n. refl; edge = λ n. refl; cost = λ n. refl }

pub spent_alike : (v : Table) → Alike v (without_migration_checks v)
spent_alike v = record {
  own = λ x. refl;
  enabled = λ n. ap (λ (p : PortValues). eqb p.enable 1) (spent_at n);
  id = λ n. ap (λ (p : PortValues). port_id p.priority n) (spent_at n);
  edge = λ n. ap (λ (p : PortValues). eqb p.edge 1) (spent_at n);
  cost = λ n. ap (λ (p : PortValues). p.cost) (spent_at n);
} where
  spent_at : (n : ℕ) → values_at (without_migration_checks v) n ≡ without_migration_check (values_at v n)
  spent_at n = at_default without_migration_check v.ports (n - 1) no_values

-- An event under the settings v, from t to u, which leaves the settings r.
pub record IsEvent (v r : Table) (t u : Tree) (out : Outcome) : Type 0 where
  pub tick : Bool
  pub was : Times
  pub rows : List PortInEvent
  pub base : Tree
  pub part : OwnPart v t rows
  pub ends : Ends v tick was rows base u out
  pub address : base.address ≡ t.address
  pub config : base.config ≡ t.config
  pub settled : base.settled ≡ settled_of r
  pub alike : Alike v r

-- the row at a place after the states, and once all is sent
done_ready : (tick : Bool) (own : BridgeId) (root : Best) (c : Context) (rows : List PortInEvent) (k : ℕ) (s : Table) (w : SettledPort) (n : ℕ) (p : PortConfig) (st : State) → k < length rows → IsFresh s w n p st (get_or rows k no_row) → IsDone s w n p st own root (after_expiry (get_or rows k no_row)) (get_or (ready tick c (rows_with_roles own root (map after_expiry rows))) k no_row)
done_ready tick own root c rows k s w n p st h f =
    let a = after_expiry (get_or rows k no_row) in
    let aged = map after_expiry rows in
    let ch = rows_with_roles own root aged in
    let la : length aged ≡ length rows = length-map rows after_expiry in
    let lc : length ch ≡ length aged = length-map aged (with_role own root) in
    let lt : length (map (after_first_transitions c) ch) ≡ length ch = length-map ch (after_first_transitions c) in
    let ha : k < length aged = omega (arith, h, la) in
    let hc : k < length ch = omega (arith, ha, lc) in
    let ht : k < length (map (after_first_transitions c) ch) = omega (arith, hc, lt) in
    let e1 : get_or aged k no_row ≡ a = get_or-map after_expiry rows k no_row no_row h in
    let e2 : get_or ch k no_row ≡ with_role own root (get_or aged k no_row) = get_or-map (with_role own root) aged k no_row no_row ha in
    let e3 : get_or (map (after_first_transitions c) ch) k no_row ≡ after_first_transitions c (get_or ch k no_row) = get_or-map (after_first_transitions c) ch k no_row no_row hc in
    let at : get_or (map (after_first_transitions c) ch) k no_row ≡ after_first_transitions c (with_role own root a) = e3 ∙ ap (after_first_transitions c) (e2 ∙ ap (with_role own root) e1) in
    let fresh : IsFresh s w n p st a = Fresh-same s w n p st (get_or rows k no_row) a f (expired-same (get_or rows k no_row)) in
    let done : IsDone s w n p st own root a (after_first_transitions c (with_role own root a)) = turned-done s w n p st own root c a fresh in
    let here : IsDone s w n p st own root a (get_or (map (after_first_transitions c) ch) k no_row) = subst (λ (q : PortInEvent). IsDone s w n p st own root a q) (sym at) done in
    Done-keeps s w n p st own root a _ _ here ((keep-ready tick c ch).at k ht)

length_ready : (tick : Bool) (own : BridgeId) (root : Best) (c : Context) (rows : List PortInEvent) → length (ready tick c (rows_with_roles own root (map after_expiry rows))) ≡ length rows
length_ready tick own root c rows =
    let aged = map after_expiry rows in
    let ch = rows_with_roles own root aged in
    (keep-ready tick c ch).same ∙ (length-map ch (after_first_transitions c) ∙ (length-map aged (with_role own root) ∙ length-map rows after_expiry))

-- what an event leaves at a place
pub record IsLeft (v : Table) (t u : Tree) (out : Outcome) (own : BridgeId) (root : Best) (a : PortInEvent) (k : ℕ) : Type 0 where
  pub row : PortInEvent
  pub done : IsDone v (settled_port t.settled (1 + k)) (1 + k) (get_or t.config k no_config) (get_or t.ports k no_row.port).state own root a row
  pub port : get_or u.ports k no_row.port ≡ row.port
  pub flushed : is_discarding (get_or t.ports k no_row.port).state ≡ false → is_root_or_designated row.port.role ≡ false → Contains out.flushed.items (1 + k)

pub Left-at : (v r : Table) (t u : Tree) (out : Outcome) (e : IsEvent v r t u out) (k : ℕ) → k < length t.ports → IsLeft v t u out (own_id v e.base.address) e.ends.context.root (after_expiry (get_or e.rows k no_row)) k
Left-at v r t u out e k h =
    let c = e.ends.context in
    let own = own_id v e.base.address in
    let rows = e.rows in
    let rd = ready e.tick c (rows_with_roles own c.root (map after_expiry rows)) in
    let n = 1 + k in
    let w = settled_port t.settled n in
    let p = get_or t.config k no_config in
    let st = (get_or t.ports k no_row.port).state in
    let hr : k < length rows = omega (arith, h, e.part.same) in
    let lr : length rd ≡ length rows = length_ready e.tick own c.root c rows in
    let hd : k < length rd = omega (arith, hr, lr) in
    let a = after_expiry (get_or rows k no_row) in
    let one : IsDone v w n p st own c.root a (get_or rd k no_row) = done_ready e.tick own c.root c rows k v w n p st hr (e.part.fresh k h) in
    let kept = (keep-sent c rd).at k hd in
    let last = get_or (map (after_sending c) rd) k no_row in
    let left = e.ends.left in
    let hl : k < length left = omega (arith, hd, length-map rd (after_sending c), ap length e.ends.concludes.rows) in
    let ports : get_or u.ports k no_row.port ≡ (get_or left k no_row).port = ap (λ (x : Tree). get_or x.ports k no_row.port) e.ends.tree ∙ get_or-map (λ (q : PortInEvent). q.port) left k no_row no_row.port hl in
    record {
      row = last;
      done = Done-keeps v w n p st own c.root a (get_or rd k no_row) last one kept;
      port = ports ∙ ap (λ (rs : List PortInEvent). (get_or rs k no_row).port) e.ends.concludes.rows;
      flushed = λ f i. subst (λ (ns : List ℕ). Contains ns n) (sym e.ends.concludes.flushed) (contains_flushed rd k n hd (ap (λ l. l.number) one.inputs) (one.left f (ap is_root_or_designated (sym kept.role) ∙ i)));
    }

part_map : (s : Table) (t : Tree) (f : PortInEvent → PortInEvent) → length t.config ≡ length t.ports → ((k : ℕ) → k < length t.ports → IsFreshAt s t k (f (row_at s t k))) → OwnPart s t (map f (rows_of s t))
part_map s t f each h = record { same = length-map (rows_of s t) f ∙ few; fresh = fresh } where
  few : length (rows_of s t) ≡ length t.ports
  few = length-rows_from s t.settled 1 t.config t.ports each

  fresh : (k : ℕ) → k < length t.ports → IsFreshAt s t k (get_or (map f (rows_of s t)) k no_row)
  fresh k b =
      let at : get_or (map f (rows_of s t)) k no_row ≡ f (row_at s t k) = get_or-map f (rows_of s t) k no_row no_row (omega (arith, b, few)) ∙ ap f (rows_from-at s t.settled 1 t.config t.ports k each b) in
      subst (λ (q : PortInEvent). IsFreshAt s t k q) (sym at) (h k b)

part_again : (s : Table) (t : Tree) (g : PortInEvent → PortInEvent) (rows : List PortInEvent) → OwnPart s t rows → ((k : ℕ) (r : PortInEvent) → IsFreshAt s t k r → IsFreshAt s t k (g r)) → OwnPart s t (map g rows)
part_again s t g rows p h = record { same = length-map rows g ∙ p.same; fresh = fresh } where
  fresh : (k : ℕ) → k < length t.ports → IsFreshAt s t k (get_or (map g rows) k no_row)
  fresh k b =
      let at : get_or (map g rows) k no_row ≡ g (get_or rows k no_row) = get_or-map g rows k no_row no_row (omega (arith, b, p.same)) in
      subst (λ (q : PortInEvent). IsFreshAt s t k q) (sym at) (h k (get_or rows k no_row) (p.fresh k b))

-- what was settled
settled_enabled : (v : Table) (n : ℕ) → (settled_port (settled_of v) n).enabled ≡ enabled_by v n
settled_enabled v n = ap (λ (p : SettledPort). p.enabled) (at_default settled_port_of v.ports (n - 1) no_values)

-- a port was enabled by the settings before
pub was_enabled : (s : Table) (t : Tree) → t.settled ≡ settled_of s → (n : ℕ) → (settled_port t.settled n).enabled ≡ enabled_by s n
was_enabled s t settled n = ap (λ (w : SettledValues). (settled_port w n).enabled) settled ∙ settled_enabled s n

settled_ports : (ps : List PortValues) → map settled_port_of ps ≡ map settled_port_of (map without_migration_check ps)
settled_ports [] = refl
settled_ports (p ∷ ps) = ap (λ (ws : List SettledPort). settled_port_of p ∷ ws) (settled_ports ps)

settled_spent : (v : Table) → settled_of v ≡ settled_of (without_migration_checks v)
settled_spent v = ap (λ (ws : List SettledPort). record (settled_of v) { ports = ws }) (settled_ports v.ports)

-- each happening is an event
arrival_part : (s : Table) (t : Tree) (n : ℕ) (b : Bpdu) → length t.config ≡ length t.ports → ((k : ℕ) → k < length t.ports → IsFreshAt s t k (row_at s t k)) → OwnPart s t (after_arrival s (own_id s t.address) n b (rows_of s t))
unfolding after_arrival
arrival_part s t n b each h =
    let own = own_id s t.address in
    let heard = after_receptions own (rstp_version s) n b (rows_of s t) in
    part_again s t _ heard (part_map s t (after_reception own (rstp_version s) n b) each (λ k i. Fresh-same _ _ _ _ _ (row_at s t k) _ (h k i) (received-same own (rstp_version s) n b (row_at s t k)))) (λ k r i. Fresh-same _ _ _ _ _ r _ i (reported-same _ own n b _ r))

-- the own part of each event
pub own_part : (s : Table) (t : Tree) → IsReady s t → (h : Happening) → OwnPart (event_by h s t).settings t (event_by h s t).rows
own_part s t ready h = by h where
  start : (k : ℕ) → k < length t.ports → IsFreshAt s t k (row_at s t k)
  start k b = begins s (settled_port t.settled (1 + k)) (1 + k) (get_or t.config k no_config) (get_or t.ports k no_row.port) (ready.calm k b)

  by : (h : Happening) → OwnPart (event_by h s t).settings t (event_by h s t).rows
  by Tick = part_map s t after_tick ready.configured (λ k b. Fresh-same _ _ _ _ _ (row_at s t k) _ (start k b) (ticked-same (row_at s t k)))
  by (Link n up) = part_map s t (after_link n up) ready.configured (λ k b. linked-fresh _ _ _ _ _ n up (row_at s t k) (start k b))
  by (Message n b) = arrival_part s t n b ready.configured start
  by (Settle v) = part_map v t (after_settling (has_other_version v t.settled)) ready.configured (λ k b.
      let p = get_or t.ports k no_row.port in
      let calm = ready.calm k b in
      settled-fresh v (settled_port t.settled (1 + k)) (1 + k) (get_or t.config k no_config) p.state (has_other_version v t.settled) (row_at v t k) refl refl calm.still (λ i. calm.off (ap (λ x. x && p.link) (sym (was_enabled s t ready.settled (1 + k))) ∙ i)) (λ f. learns (enabled_by s (1 + k)) p calm f))

pub event_of : (s : Table) (t : Tree) → IsReady s t → (h : Happening) (r : Table) (u : Tree) (out : Outcome) → Happens h s t r u out → (v : Table) × IsEvent v r t u out
event_of s t ready h r u out = by h where
  -- under the same settings
  plain : (rows : List PortInEvent) (tick : Bool) (was : Times) → OwnPart s t rows → Ends s tick was rows t u out → r ≡ s → (v : Table) × IsEvent v r t u out
  plain rows tick was part ends e = (
    s,
    subst (λ (x : Table). IsEvent s x t u out) (sym e) (record {
      tick = tick;
      was = was;
      rows = rows;
      base = t;
      part = part;
      ends = ends;
      address = refl;
      config = refl;
      settled = ready.settled;
      alike = alike s;
    }),
  )

  by : (h : Happening) → Happens h s t r u out → (v : Table) × IsEvent v r t u out
  by Tick e = plain _ _ _ (own_part s t ready Tick) e.1 e.0
  by (Link n up) e = plain _ _ _ (own_part s t ready (Link n up)) e.1 e.0
  by (Message n b) e = plain _ _ _ (own_part s t ready (Message n b)) e.1 e.0
  by (Settle v) e = (
    v,
    subst (λ (x : Table). IsEvent v x t u out) (sym e.0) (record {
      tick = false;
      was = times_in_force t.settled.timers (rows_of v t);
      rows = map (after_settling (has_other_version v t.settled)) (rows_of v t);
      base = record t { settled = settled_of v };
      part = own_part s t ready (Settle v);
      ends = e.1;
      address = refl;
      config = refl;
      settled = settled_spent v;
      alike = spent_alike v;
    }),
  )

pub same_length : (v r : Table) (t u : Tree) (out : Outcome) → (e : IsEvent v r t u out) → length u.ports ≡ length t.ports
same_length v r t u out e =
    let c = e.ends.context in
    let own = own_id v e.base.address in
    let rd = ready e.tick c (rows_with_roles own c.root (map after_expiry e.rows)) in
    ap (λ (x : Tree). length x.ports) e.ends.tree ∙ (length-map e.ends.left (λ (q : PortInEvent). q.port) ∙ (ap length e.ends.concludes.rows ∙ (length-map rd (after_sending c) ∙ (length_ready e.tick own c.root c e.rows ∙ e.part.same))))
