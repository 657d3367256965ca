-- What the derived tests of the parts of a spanning tree say.
use Rattle.std.proofs.Common.{◌≡◌, ◌∙◌, Bool, true, false, sym, ap, rules}
use Rattle.std.specs.Bool.{Decides}
use Rattle.std.specs.Cmp.{booleans_Decides}
use Rattle.std.proofs.lemmas.Bool.{true≢false}
use Rattle.std.proofs.lemmas.Bool.Decides.{Decides-eqb, Decides-and, Decides-like}
use Rattle.frame_core.specs.declared.mac.Mac.{Mac}
use Rattle.frame_core.specs.contracts.mac.MacPartialEq.TheImpl as same_mac
use Rattle.frame_core.specs.declared.bpdu.PriorityVector.{PriorityVector}
use Rattle.frame_core.specs.contracts.bpdu.PriorityVectorPartialEq.TheImpl as same_vector
use Rattle.frame_core.specs.declared.bpdu.Times.{Times}
use Rattle.frame_core.specs.contracts.bpdu.TimesPartialEq.TheImpl as same_times
use Rattle.rstp_settings.specs.declared.config.PortConfig.{PortConfig}
use Rattle.rstp_settings.specs.contracts.config.PortConfigPartialEq.TheImpl as same_config
use Rattle.rstp_rules.specs.declared.settled.Timers.{Timers}
use Rattle.rstp_rules.specs.contracts.settled.TimersPartialEq.TheImpl as same_timers
use Rattle.rstp_rules.specs.declared.settled.SettledPort.{SettledPort}
use Rattle.rstp_rules.specs.contracts.settled.SettledPortPartialEq.TheImpl as same_settled
use Rattle.rstp_rules.specs.declared.port.Info.{Info}
use Rattle.rstp_rules.specs.contracts.port.InfoPartialEq.TheImpl as same_info
use Rattle.rstp_rules.specs.declared.port.Role.{Role}
use Rattle.rstp_rules.specs.contracts.port.RolePartialEq.TheImpl as same_role
use Rattle.rstp_rules.specs.declared.port.State.{State}
use Rattle.rstp_rules.specs.contracts.port.StatePartialEq.TheImpl as same_state
use Rattle.rstp_rules.specs.declared.port.Port.{Port}
use Rattle.rstp_rules.specs.contracts.port.PortPartialEq.TheImpl as same_port
use Rattle.rstp_rules.specs.declared.row.Best.{Best}
use Rattle.rstp_rules.specs.contracts.row.BestPartialEq.TheImpl as same_best
use Rattle.rstp_core.specs.declared.facts.BridgeFacts.{BridgeFacts}
use Rattle.rstp_core.specs.contracts.facts.BridgeFactsPartialEq.TheImpl as same_facts

-- a test, where those before it succeeded, and where they did not
module _ {P Q : Type 0} where
  pub and_then : (x y v : Bool) → x ≡ true → Decides x P → v ≡ y → Decides y Q → Decides v (P × Q)
  and_then x y v holds d e k = (λ h. (d.0 holds, k.0 (sym e ∙ h)), λ p. e ∙ k.1 p.1)

  pub and_no_more : (x v : Bool) → x ≡ false → Decides x P → v ≡ false → Decides v (P × Q)
  and_no_more x v fails d e = (λ h. absurd (true≢false (sym h ∙ e)), λ p. absurd (true≢false (sym (d.1 p.0) ∙ fails)))

pub mac-Decides : (a b : Mac) → Decides (same_mac.eq-value.it a b) (a ≡ b)
mac-Decides a b = search rules

pub timers-Decides : (p q : Timers) → Decides (same_timers.eq-value.it p q) (p ≡ q)
timers-Decides p q = search rules

pub settled_port-Decides : (p q : SettledPort) → Decides (same_settled.eq-value.it p q) (p ≡ q)
settled_port-Decides p q = search rules

pub config-Decides : (c d : PortConfig) → Decides (same_config.eq-value.it c d) (c ≡ d)
config-Decides c d = search rules

info-Decides : (p q : Info) → Decides (same_info.eq-value.it p q) (p ≡ q)
info-Decides p q = search rules

role-Decides : (p q : Role) → Decides (same_role.eq-value.it p q) (p ≡ q)
role-Decides p q = search rules

state-Decides : (p q : State) → Decides (same_state.eq-value.it p q) (p ≡ q)
state-Decides p q = search rules

vector-Decides : (v w : PriorityVector) → Decides (same_vector.eq-value.it v w) (v ≡ w)
vector-Decides v w = search rules

times-Decides : (t u : Times) → Decides (same_times.eq-value.it t u) (t ≡ u)
times-Decides t u = search rules

best-Decides : (b c : Best) → Decides (same_best.eq-value.it b c) (b ≡ c)
best-Decides b c =
    Decides-like _
    (λ h i. record { vector = h.0 i; receiver = h.1 i })
    (λ e. (ap (λ (x : Best). x.vector) e, ap (λ (x : Best). x.receiver) e))
    (Decides-and _ _ (vector-Decides _ _) (Decides-eqb _ _))

pub facts-Decides : (f g : BridgeFacts) → Decides (same_facts.eq-value.it f g) (f ≡ g)
facts-Decides f g =
    Decides-like _
    (λ h i. record { root = h.0 i; times = h.1.0 i; topology_changes = h.1.1.0 i; since = h.1.1.1 i })
    (λ e. (ap (λ (x : BridgeFacts). x.root) e, (ap (λ (x : BridgeFacts). x.times) e, (ap (λ (x : BridgeFacts). x.topology_changes) e, ap (λ (x : BridgeFacts). x.since) e))))
    (Decides-and _ _ (best-Decides _ _) (Decides-and _ _ (times-Decides _ _) (Decides-and _ _ (Decides-eqb _ _) (Decides-eqb _ _))))

pub port-Decides : (p q : Port) → Decides (same_port.eq-value.it p q) (p ≡ q)
port-Decides p q =
    Decides-like _
    (λ h i. record { link = h.0 i; info = h.1.0 i; vector = h.1.1.0 i; times = h.1.1.1.0 i; role = h.1.1.1.1.0 i; state = h.1.1.1.1.1.0 i; rcvd_info_while = h.1.1.1.1.1.1.0 i; fd_while = h.1.1.1.1.1.1.1.0 i; rr_while = h.1.1.1.1.1.1.1.1.0 i; tc_while = h.1.1.1.1.1.1.1.1.1.0 i; hello_when = h.1.1.1.1.1.1.1.1.1.1.0 i; tx_count = h.1.1.1.1.1.1.1.1.1.1.1.0 i; oper_edge = h.1.1.1.1.1.1.1.1.1.1.1.1.0 i; send_rstp = h.1.1.1.1.1.1.1.1.1.1.1.1.1.0 i; agreed = h.1.1.1.1.1.1.1.1.1.1.1.1.1.1.0 i; agree = h.1.1.1.1.1.1.1.1.1.1.1.1.1.1.1.0 i; tc_ack = h.1.1.1.1.1.1.1.1.1.1.1.1.1.1.1.1.0 i; new_info = h.1.1.1.1.1.1.1.1.1.1.1.1.1.1.1.1.1.0 i; forward_transitions = h.1.1.1.1.1.1.1.1.1.1.1.1.1.1.1.1.1.1 i })
    (λ e. (ap (λ (x : Port). x.link) e, (ap (λ (x : Port). x.info) e, (ap (λ (x : Port). x.vector) e, (ap (λ (x : Port). x.times) e, (ap (λ (x : Port). x.role) e, (ap (λ (x : Port). x.state) e, (ap (λ (x : Port). x.rcvd_info_while) e, (ap (λ (x : Port). x.fd_while) e, (ap (λ (x : Port). x.rr_while) e, (ap (λ (x : Port). x.tc_while) e, (ap (λ (x : Port). x.hello_when) e, (ap (λ (x : Port). x.tx_count) e, (ap (λ (x : Port). x.oper_edge) e, (ap (λ (x : Port). x.send_rstp) e, (ap (λ (x : Port). x.agreed) e, (ap (λ (x : Port). x.agree) e, (ap (λ (x : Port). x.tc_ack) e, (ap (λ (x : Port). x.new_info) e, ap (λ (x : Port). x.forward_transitions) e)))))))))))))))))))
    (Decides-and _ _ (booleans_Decides _ _) (Decides-and _ _ (info-Decides _ _) (Decides-and _ _ (vector-Decides _ _) (Decides-and _ _ (times-Decides _ _) (Decides-and _ _ (role-Decides _ _) (Decides-and _ _ (state-Decides _ _) (Decides-and _ _ (Decides-eqb _ _) (Decides-and _ _ (Decides-eqb _ _) (Decides-and _ _ (Decides-eqb _ _) (Decides-and _ _ (Decides-eqb _ _) (Decides-and _ _ (Decides-eqb _ _) (Decides-and _ _ (Decides-eqb _ _) (Decides-and _ _ (booleans_Decides _ _) (Decides-and _ _ (booleans_Decides _ _) (Decides-and _ _ (booleans_Decides _ _) (Decides-and _ _ (booleans_Decides _ _) (Decides-and _ _ (booleans_Decides _ _) (Decides-and _ _ (booleans_Decides _ _) (Decides-eqb _ _)))))))))))))))))))
