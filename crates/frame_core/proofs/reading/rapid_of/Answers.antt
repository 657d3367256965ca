use Rattle.std.proofs.Common.{◌∙◌, ◌/◌, slice_index, subst}
use Rattle.std.proofs.lemmas.Nat.{and_mask}
use Rattle.std.proofs.lemmas.List.{take_rest}
use Rattle.frame_core.specs.Layout.{IsVector, AreTimes}
use Rattle.frame_core.proofs.reading.rapid_of.Goals as goal

pub returns : goal.returns
returns c = record {
  flags = record {
    topology_change = c.is_set.ensures;
    proposal = c.is_set-2.ensures;
    role = c.from_number.ensures ∙ and_mask (slice_index c.args.octets.now 4 / 4) 2;
    learning = c.is_set-3.ensures;
    forwarding = c.is_set-4.ensures;
    agreement = c.is_set-5.ensures;
  };
  vector = subst (λ l. IsVector l c.vector_of.result) (take_rest c.args.octets.now 5) c.vector_of.ensures;
  times = subst (λ l. AreTimes l c.times_of.result) (take_rest c.args.octets.now 27) c.times_of.ensures;
}
