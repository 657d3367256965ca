use Rattle.std.proofs.Common.{sym, refl, ap, ◌∙◌}
use Rattle.std.proofs.lemmas.Bool.{true≢false}
use Rattle.std.proofs.lemmas.Bool.Decides.{Decides-like}
use Rattle.rstp_core.proofs.Same.{and_then}
use Rattle.bridge_core.specs.Bridge.{BridgeState, without_statics}
use Rattle.bridge_core.proofs.flat.FlatBridge.same.Goals as goal

pub returns-then-same_but_statics : goal.returns-then-same_but_statics
returns-then-same_but_statics c =
    Decides-like _
    (λ h i. record {
      settings = (h.0 i).settings;
      tree = (h.0 i).tree;
      learned = (h.0 i).learned;
      statics = record { rows = h.1 i; places = 0 };
      counters = (h.0 i).counters;
    })
    (λ e. (ap without_statics e, ap (λ (x : BridgeState). x.statics.rows) e))
    (and_then _ _ _ c.if-same_but_statics.true c.same_but_statics.ensures refl c.same_statics.ensures)

-- equal bridges that are seen to differ
pub returns-else-same_but_statics : goal.returns-else-same_but_statics
returns-else-same_but_statics c = (
  λ h. absurd (true≢false (sym h ∙ c.if-same_but_statics.false)),
  λ e. c.same_but_statics.ensures.1 (ap without_statics e),
)
