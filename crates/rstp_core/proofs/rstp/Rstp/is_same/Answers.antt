use Rattle.std.proofs.Common.{◌≡◌, true, ◌∙◌, sym, refl, ap}
use Rattle.std.specs.Bool.{Decides}
use Rattle.std.proofs.lemmas.Bool.{true≢false}
use Rattle.std.proofs.lemmas.Bool.Decides.{Decides-at, Decides-like}
use Rattle.std.proofs.lemmas.Slice.Eq.{slice_eq-Decides}
use Rattle.rstp_core.specs.Tree.{Tree}
use Rattle.rstp_core.proofs.Same.{and_then, and_no_more, mac-Decides, config-Decides, port-Decides, facts-Decides}
use Rattle.rstp_core.proofs.rstp.Rstp.is_same.Goals.{then-eq, else-eq, then-eq-2, else-eq-2, then-eq-3, else-eq-3}
use Rattle.rstp_core.proofs.rstp.Rstp.is_same.Goals as goal

pub returns-then-eq-4 : goal.returns-then-eq-4
returns-then-eq-4 c =
    let t = c.self.inside in
    let u = c.other.inside in
    let facts : Decides c.eq.result (t.facts ≡ u.facts) = Decides-at _ _ c.eq.ensures (facts-Decides _ _) in
    let addresses : Decides c.if-eq.value ((t.facts ≡ u.facts) × (t.address ≡ u.address)) =
    elim c.if-eq.branch [
      | then-eq w ↦ and_then _ _ _ w.if-eq.true facts w.value-is (Decides-at _ _ w.eq-then-eq.ensures (mac-Decides _ _))
      | else-eq w ↦ and_no_more _ _ w.if-eq.false facts (w.value-is ∙ w.if-eq.false)
    ]
    in
    let configs : Decides c.if-eq-2.value (((t.facts ≡ u.facts) × (t.address ≡ u.address)) × (t.config.items ≡ u.config.items)) =
    elim c.if-eq-2.branch [
      | then-eq-2 w ↦ and_then _ _ _ w.if-eq-2.true addresses w.value-is (slice_eq-Decides config-Decides _ _ _ (w.eq-then-eq-2.ensures ∙ rw (w.as_slice.ensures.value, w.as_slice-then-eq-2.ensures.value)))
      | else-eq-2 w ↦ and_no_more _ _ w.if-eq-2.false addresses (w.value-is ∙ w.if-eq-2.false)
    ]
    in
    let ports : Decides c.if-eq-3.value ((((t.facts ≡ u.facts) × (t.address ≡ u.address)) × (t.config.items ≡ u.config.items)) × (t.ports.items ≡ u.ports.items)) =
    elim c.if-eq-3.branch [
      | then-eq-3 w ↦ and_then _ _ _ w.if-eq-3.true configs w.value-is (slice_eq-Decides port-Decides _ _ _ (w.eq-then-eq-3.ensures ∙ rw (w.as_slice-then-eq-3.ensures.value, w.as_slice-then-eq-3-2.ensures.value)))
      | else-eq-3 w ↦ and_no_more _ _ w.if-eq-3.false configs (w.value-is ∙ w.if-eq-3.false)
    ]
    in
    let settled = and_then _ _ _ c.if-eq-4.true ports refl c.is_same.ensures in
    rw (← c.self.view_is, ← c.other.view_is) (Decides-like _
    (λ h i. record { address = h.0.0.0.1 i; config = h.0.0.1 i; ports = h.0.1 i; facts = h.0.0.0.0 i; settled = h.1 i })
    (λ e. ((((ap (λ (x : Tree). x.facts) e, ap (λ (x : Tree). x.address) e), ap (λ (x : Tree). x.config) e), ap (λ (x : Tree). x.ports) e), ap (λ (x : Tree). x.settled) e))
    settled)

-- equal trees that are seen to differ
pub returns-else-eq-4 : goal.returns-else-eq-4
returns-else-eq-4 c =
    rw (← c.self.view_is, ← c.other.view_is) (
      λ h. absurd (true≢false (sym h ∙ c.if-eq-4.false)),
      λ e.
          let facts : c.eq.result ≡ true = (Decides-at _ _ c.eq.ensures (facts-Decides _ _)).1 (ap (λ (x : Tree). x.facts) e) in
          let addresses : c.if-eq.value ≡ true =
          elim c.if-eq.branch [
            | then-eq w ↦ w.value-is ∙ (Decides-at _ _ w.eq-then-eq.ensures (mac-Decides _ _)).1 (ap (λ (x : Tree). x.address) e)
            | else-eq w ↦ absurd (true≢false (sym facts ∙ w.if-eq.false))
          ]
          in
          let configs : c.if-eq-2.value ≡ true =
          elim c.if-eq-2.branch [
            | then-eq-2 w ↦ w.value-is ∙ (slice_eq-Decides config-Decides _ _ _ (w.eq-then-eq-2.ensures ∙ rw (w.as_slice.ensures.value, w.as_slice-then-eq-2.ensures.value))).1 (ap (λ (x : Tree). x.config) e)
            | else-eq-2 w ↦ absurd (true≢false (sym addresses ∙ w.if-eq-2.false))
          ]
          in
          elim c.if-eq-3.branch [
            | then-eq-3 w ↦ w.value-is ∙ (slice_eq-Decides port-Decides _ _ _ (w.eq-then-eq-3.ensures ∙ rw (w.as_slice-then-eq-3.ensures.value, w.as_slice-then-eq-3-2.ensures.value))).1 (ap (λ (x : Tree). x.ports) e)
            | else-eq-3 w ↦ absurd (true≢false (sym configs ∙ w.if-eq-3.false))
          ],
    )
