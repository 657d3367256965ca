use Rattle.std.proofs.Common.{subst}
use Rattle.message_core.specs.Encodable.{AreEncodable}
use Rattle.message_core.proofs.Kept.{all_encodable}
use Rattle.message_core.proofs.encoded.EncodedBindings.known.Goals as goal

pub returns : goal.returns
returns c = subst AreEncodable c.self.view_is (all_encodable _ c.self.invariant.2.each)
