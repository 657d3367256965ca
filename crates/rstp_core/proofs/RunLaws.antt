-- The laws over all runs.
use Rattle.std.proofs.Common.{◌≡◌, ℕ, ◌+◌, ◌-◌, ◌<◌, ◌≤◌, true, false, ◌&&◌, List, [], ◌∷◌, length, get_or, refl, sym, ap, subst, ◌∙◌, arith}
use Rattle.std.proofs.lemmas.List.Elements.{All-get_or}
use Rattle.frame_core.specs.declared.mac.Mac.{Mac}
use Rattle.rstp_settings.specs.Table.{Table, opening}
use Rattle.rstp_settings.specs.declared.config.PortConfig.{PortConfig}
use Rattle.rstp_rules.specs.Ports.{is_root_or_designated, is_discarding, is_forwarding}
use Rattle.rstp_rules.specs.Lines.{enabled_by}
use Rattle.rstp_rules.specs.declared.port.State.{State}
use Rattle.rstp_rules.specs.declared.port.State.TheVariants.{Forwarding}
use Rattle.rstp_rules.specs.Turns.{no_row}
use Rattle.rstp_core.specs.Tree.{Tree, port_at, rows_of, opening_tree}
use Rattle.rstp_core.specs.Runs.{Happening, Leads, Runs}
use Rattle.rstp_core.specs.Legal.{MayLearn, IsLegal, IsSameBridge}
use Rattle.rstp_core.proofs.Happenings.{event_of, row_at}
use Rattle.rstp_core.proofs.LegalTrees.{rows_are, row_is, legal_ready, happening_legal, opening_legal}

-- what began legal stays so
pub leads_legal : (s : Table) (t : Tree) (hs : List Happening) (r : Table) (u : Tree) → IsLegal s t → Leads s t hs r u → IsLegal r u
leads_legal s t [] r u legal h = subst (λ (x : Table). IsLegal x u) (sym h.0) (subst (λ (x : Tree). IsLegal s x) (sym h.1) legal)
leads_legal s t (e ∷ past) r u legal h = happening_legal e h.0 r h.1 u h.2 (leads_legal s t past h.0 h.1 legal h.3) h.4

pub runs_legal : (a : Mac) (cs : List PortConfig) (hs : List Happening) (s : Table) (t : Tree) → Runs a cs hs s t → IsLegal s t
runs_legal a cs hs s t h = leads_legal (opening (length cs)) (opening_tree a cs) hs s t (opening_legal a cs) h

-- the bridge stays the same
pub leads_same : (s : Table) (t : Tree) (hs : List Happening) (r : Table) (u : Tree) → IsLegal s t → Leads s t hs r u → IsSameBridge t u
leads_same s t [] r u legal h = record { address = ap (λ (x : Tree). x.address) h.1; config = ap (λ (x : Tree). x.config) h.1 }
leads_same s t (e ∷ past) r u legal h =
    let before = leads_same s t past h.0 h.1 legal h.3 in
    let event = event_of h.0 h.1 (legal_ready h.0 h.1 (leads_legal s t past h.0 h.1 legal h.3)) e r u h.2 h.4 in
    record {
      address = ap (λ (x : Tree). x.address) event.1.ends.tree ∙ (event.1.address ∙ before.address);
      config = ap (λ (x : Tree). x.config) event.1.ends.tree ∙ (event.1.config ∙ before.config);
    }

pub runs_same : (a : Mac) (cs : List PortConfig) (hs : List Happening) (s : Table) (t : Tree) → Runs a cs hs s t → IsSameBridge (opening_tree a cs) t
runs_same a cs hs s t h = leads_same (opening (length cs)) (opening_tree a cs) hs s t (opening_legal a cs) h

pub runs_few : (a : Mac) (cs : List PortConfig) (hs : List Happening) (s : Table) (t : Tree) → length cs ≤ 32 → Runs a cs hs s t → length t.ports ≤ 32
runs_few a cs hs s t few h =
    let legal = runs_legal a cs hs s t h in
    let same = runs_same a cs hs s t h in
    omega (arith, few, legal.configured, ap length same.config)

-- a port that learns or forwards is on, and is a root or designated port
pub legal_active : (s : Table) (t : Tree) → IsLegal s t → (n : ℕ) → 1 ≤ n → n ≤ length t.ports → is_discarding (port_at t n).state ≡ false → ((enabled_by s n && (port_at t n).link) ≡ true) × (is_root_or_designated (port_at t n).role ≡ true)
legal_active s t h n first last f =
    let k = n - 1 in
    let here : k < length t.ports = omega (arith, first, last) in
    let at : 1 + k ≡ n = omega (arith, first) in
    let may : MayLearn (row_at s t k) = subst MayLearn (row_is s t h.configured k here) (All-get_or MayLearn (rows_of s t) k no_row (omega (arith, here, rows_are s t h.configured)) h.active) in
    let active = may f in
    (subst (λ (m : ℕ). (enabled_by s m && (get_or t.ports k no_row.port).link) ≡ true) at active.on, active.role)

forwarding_learns : (st : State) → is_forwarding st ≡ true → is_discarding st ≡ false
forwarding_learns Forwarding e = refl
forwarding_learns st e = cc

pub runs_active : (a : Mac) (cs : List PortConfig) (hs : List Happening) (s : Table) (t : Tree) → Runs a cs hs s t → (n : ℕ) → 1 ≤ n → n ≤ length t.ports → is_forwarding (port_at t n).state ≡ true → ((enabled_by s n && (port_at t n).link) ≡ true) × (is_root_or_designated (port_at t n).role ≡ true)
runs_active a cs hs s t h n first last f =
    legal_active s t (runs_legal a cs hs s t h) n first last (forwarding_learns (port_at t n).state f)
