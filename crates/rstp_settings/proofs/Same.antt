-- What the test of two settings for sameness says.
use Rattle.std.proofs.Common.{◌≡◌, ◌==◌, ◌&&◌, Bool, true, ap}
use Rattle.std.specs.Bool.{Decides}
use Rattle.std.specs.Cmp.Lexicographic.{pointwise}
use Rattle.std.proofs.lemmas.Bool.Decides.{Decides-eqb, Decides-and, Decides-like}
use Rattle.std.proofs.lemmas.Slice.Eq.{slice_eq-Decides}
use Rattle.rstp_settings.specs.declared.key.BridgeValues.{BridgeValues}
use Rattle.rstp_settings.specs.declared.key.PortValues.{PortValues}
use Rattle.rstp_settings.specs.Table.{Table}

-- the tests that are derived of the values of a port, and of the bridge
abbrev pub same_port : PortValues → PortValues → Bool
same_port p q = p.priority == q.priority && (p.enable == q.enable && (p.cost == q.cost && (p.migrate == q.migrate && (p.edge == q.edge && p.point_to_point == q.point_to_point))))

abbrev pub same_bridge : BridgeValues → BridgeValues → Bool
same_bridge b c = b.priority == c.priority && (b.max_age == c.max_age && (b.hello == c.hello && (b.forward_delay == c.forward_delay && (b.version == c.version && (b.hold_count == c.hold_count && b.aging == c.aging)))))

pub same_port-Decides : (p q : PortValues) → Decides (same_port p q) (p ≡ q)
same_port-Decides p q =
    Decides-like _
    (λ h i. record { priority = h.0 i; enable = h.1.0 i; cost = h.1.1.0 i; migrate = h.1.1.1.0 i; edge = h.1.1.1.1.0 i; point_to_point = h.1.1.1.1.1 i })
    (λ e. (ap (λ (x : PortValues). x.priority) e, (ap (λ (x : PortValues). x.enable) e, (ap (λ (x : PortValues). x.cost) e, (ap (λ (x : PortValues). x.migrate) e, (ap (λ (x : PortValues). x.edge) e, ap (λ (x : PortValues). x.point_to_point) e))))))
    (Decides-and _ _ (Decides-eqb _ _) (Decides-and _ _ (Decides-eqb _ _) (Decides-and _ _ (Decides-eqb _ _) (Decides-and _ _ (Decides-eqb _ _) (Decides-and _ _ (Decides-eqb _ _) (Decides-eqb _ _))))))

pub same_bridge-Decides : (b c : BridgeValues) → Decides (same_bridge b c) (b ≡ c)
same_bridge-Decides b c =
    Decides-like _
    (λ h i. record { priority = h.0 i; max_age = h.1.0 i; hello = h.1.1.0 i; forward_delay = h.1.1.1.0 i; version = h.1.1.1.1.0 i; hold_count = h.1.1.1.1.1.0 i; aging = h.1.1.1.1.1.1 i })
    (λ e. (ap (λ (x : BridgeValues). x.priority) e, (ap (λ (x : BridgeValues). x.max_age) e, (ap (λ (x : BridgeValues). x.hello) e, (ap (λ (x : BridgeValues). x.forward_delay) e, (ap (λ (x : BridgeValues). x.version) e, (ap (λ (x : BridgeValues). x.hold_count) e, ap (λ (x : BridgeValues). x.aging) e)))))))
    (Decides-and _ _ (Decides-eqb _ _) (Decides-and _ _ (Decides-eqb _ _) (Decides-and _ _ (Decides-eqb _ _) (Decides-and _ _ (Decides-eqb _ _) (Decides-and _ _ (Decides-eqb _ _) (Decides-and _ _ (Decides-eqb _ _) (Decides-eqb _ _)))))))

-- the tests of both parts, where that of the bridge's values succeeds
pub same_table-Decides : (t u : Table) (r : Bool) → same_bridge t.bridge u.bridge ≡ true → r ≡ pointwise same_port t.ports u.ports → Decides r (t ≡ u)
same_table-Decides t u r same e =
    let bridges = (same_bridge-Decides t.bridge u.bridge).0 same in
    let ports = slice_eq-Decides {E = same_port} same_port-Decides t.ports u.ports r e in
    (λ yes i. record { bridge = bridges i; ports = ports.0 yes i }, λ eq. ports.1 (ap (λ (x : Table). x.ports) eq))
