use Rattle.std.proofs.Common.{Bool, ap, ◌∙◌}
use Rattle.bridge_core.specs.Bridge.{counters_of}
use Rattle.bridge_core.specs.Counting.{with_frame_in, with_discard}
use Rattle.bridge_core.proofs.Tallied.{counted_in, counted_out, counted_rest, none_out, some_out}
use Rattle.bridge_core.proofs.laws.frames_are_counted.Goals as goal

pub returns-clause-lost : goal.returns-clause-lost
returns-clause-lost c = λ b p f no_room h last e. counted_in b p f no_room h last ∙ ap (λ (v : Bool). with_discard v (with_frame_in (counters_of b p))) (none_out _ e)

pub returns-clause-passed : goal.returns-clause-passed
returns-clause-passed c = λ b p f no_room h last e. counted_in b p f no_room h last ∙ ap (λ (v : Bool). with_discard v (with_frame_in (counters_of b p))) (some_out _ e)

pub returns-clause-out : goal.returns-clause-out
returns-clause-out c = counted_out

pub returns-clause-rest : goal.returns-clause-rest
returns-clause-rest c = counted_rest
