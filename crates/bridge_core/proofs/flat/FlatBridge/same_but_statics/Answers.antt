use Rattle.std.proofs.Common.{◌≡◌, true, ◌∙◌, sym, refl, ap}
use Rattle.std.specs.Bool.{Decides}
use Rattle.std.proofs.lemmas.Bool.{true≢false}
use Rattle.std.proofs.lemmas.Bool.Decides.{Decides-eqb, Decides-like}
use Rattle.std.proofs.lemmas.Slice.Eq.{slice_eq-Decides}
use Rattle.rstp_core.proofs.Same.{and_then, and_no_more}
use Rattle.fdb_core.specs.Statics.{no_statics}
use Rattle.bridge_core.specs.Bridge.{BridgeState}
use Rattle.bridge_core.proofs.Same.{row-Decides, counters-Decides}
use Rattle.bridge_core.proofs.flat.FlatBridge.same_but_statics.Goals.{then-is_same, else-is_same, then-is_same-2, else-is_same-2, then-self-other, else-self-other}
use Rattle.bridge_core.proofs.flat.FlatBridge.same_but_statics.Goals as goal

pub returns-then-eq : goal.returns-then-eq
returns-then-eq c =
    let t = c.self.inside in
    let u = c.other.inside in
    let trees : Decides c.if-is_same.value ((t.settings ≡ u.settings) × (t.tree ≡ u.tree)) =
    elim c.if-is_same.branch [
      | then-is_same w ↦ and_then _ _ _ w.if-is_same.true c.is_same.ensures w.value-is w.is_same-then-is_same.ensures
      | else-is_same w ↦ and_no_more _ _ w.if-is_same.false c.is_same.ensures (w.value-is ∙ w.if-is_same.false)
    ]
    in
    let discards : Decides c.if-is_same-2.value (((t.settings ≡ u.settings) × (t.tree ≡ u.tree)) × (t.entry_discards ≡ u.entry_discards)) =
    elim c.if-is_same-2.branch [
      | then-is_same-2 w ↦ and_then _ _ _ w.if-is_same-2.true trees w.value-is (Decides-eqb _ _)
      | else-is_same-2 w ↦ and_no_more _ _ w.if-is_same-2.false trees (w.value-is ∙ w.if-is_same-2.false)
    ]
    in
    let counters : Decides c.if-self-other.value ((((t.settings ≡ u.settings) × (t.tree ≡ u.tree)) × (t.entry_discards ≡ u.entry_discards)) × (t.counters.items ≡ u.counters.items)) =
    elim c.if-self-other.branch [
      | then-self-other w ↦ and_then _ _ _ w.if-self-other.true discards w.value-is (slice_eq-Decides counters-Decides _ _ _ (w.eq.ensures ∙ rw (w.as_slice.ensures.value, w.as_slice-then-self-other.ensures.value)))
      | else-self-other w ↦ and_no_more _ _ w.if-self-other.false discards (w.value-is ∙ w.if-self-other.false)
    ]
    in
    let rows = and_then _ _ _ c.if-eq.true counters refl (slice_eq-Decides row-Decides t.learned.items u.learned.items c.eq-then-eq.result (c.eq-then-eq.ensures ∙ rw (c.as_slice-then-eq.ensures.value, c.as_slice-then-eq-2.ensures.value))) in
    rw (← c.self.view_is, ← c.other.view_is) (Decides-like _
    (λ h i. record {
      settings = h.0.0.0.0 i;
      tree = h.0.0.0.1 i;
      learned = h.1 i;
      statics = no_statics;
      counters = record { entry_discards = h.0.0.1 i; ports = h.0.1 i };
    })
    (λ e. ((((ap (λ (x : BridgeState). x.settings) e, ap (λ (x : BridgeState). x.tree) e), ap (λ (x : BridgeState). x.counters.entry_discards) e), ap (λ (x : BridgeState). x.counters.ports) e), ap (λ (x : BridgeState). x.learned) e))
    rows)

-- equal bridges that are seen to differ
pub returns-else-eq : goal.returns-else-eq
returns-else-eq c =
    rw (← c.self.view_is, ← c.other.view_is) (
      λ h. absurd (true≢false (sym h ∙ c.if-eq.false)),
      λ e.
          let settings : c.is_same.result ≡ true = c.is_same.ensures.1 (ap (λ (x : BridgeState). x.settings) e) in
          let trees : c.if-is_same.value ≡ true =
          elim c.if-is_same.branch [
            | then-is_same w ↦ w.value-is ∙ w.is_same-then-is_same.ensures.1 (ap (λ (x : BridgeState). x.tree) e)
            | else-is_same w ↦ absurd (true≢false (sym settings ∙ w.if-is_same.false))
          ]
          in
          let discards : c.if-is_same-2.value ≡ true =
          elim c.if-is_same-2.branch [
            | then-is_same-2 w ↦ w.value-is ∙ (Decides-eqb _ _).1 (ap (λ (x : BridgeState). x.counters.entry_discards) e)
            | else-is_same-2 w ↦ absurd (true≢false (sym trees ∙ w.if-is_same-2.false))
          ]
          in
          elim c.if-self-other.branch [
            | then-self-other w ↦ w.value-is ∙ (slice_eq-Decides counters-Decides _ _ _ (w.eq.ensures ∙ rw (w.as_slice.ensures.value, w.as_slice-then-self-other.ensures.value))).1 (ap (λ (x : BridgeState). x.counters.ports) e)
            | else-self-other w ↦ absurd (true≢false (sym discards ∙ w.if-self-other.false))
          ],
    )
