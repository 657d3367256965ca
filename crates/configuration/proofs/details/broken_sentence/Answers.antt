use Rattle.std.proofs.Common.{[], refl}
use Rattle.configuration.proofs.DetailLemmas.{with_message}
use Rattle.configuration.proofs.details.broken_sentence.Goals as goal

pub returns-in-Ok : goal.returns-in-Ok
returns-in-Ok c = with_message _ c.args.line [] c.expected_sentence-in-Ok.ensures
