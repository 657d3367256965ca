use Rattle.std.proofs.Common.{List, ℕ, [], ◌∙◌, append-nil, sym, subst}
use Rattle.frame_core.specs.Layout.{IsBridgeId}
use Rattle.frame_core.specs.Sending.{bridge_id_octets}
use Rattle.frame_core.proofs.Sent.{bridge_id_front}
use Rattle.frame_core.proofs.bpdu.BridgeId.octets.Goals as goal

pub returns-clause-octets : goal.returns-clause-octets
returns-clause-octets c = c.put_bridge_id.ensures.octets ∙ append-nil (bridge_id_octets c.args.self.now)

pub returns-clause-encodes : goal.returns-clause-encodes
returns-clause-encodes c = subst (λ (l : List ℕ). IsBridgeId l c.args.self.now) (sym c.put_bridge_id.ensures.octets) (bridge_id_front c.args.self.now [] c.put_bridge_id.ensures.fits)
