use Rattle.std.proofs.Common.{map, refl, sym, ◌∙◌}
use Rattle.setphase_core.specs.Registry.{rows_of, prefixes_of}
use Rattle.setphase_core.proofs.Ordered.{ordered_from}
use Rattle.setphase_core.proofs.Begun.{half_up}
use Rattle.setphase_core.proofs.search.begun_until.Goals as goal

pub loop-low-preserved-then-is_begun : goal.loop-low-preserved-then-is_begun
loop-low-preserved-then-is_begun g c =
    half_up (prefixes_of (rows_of (map g.O.MibObject.state c.args.objects.now))) c.args.front.now c.args.place c.loop-low.low c.loop-low.high _ (ordered_from _ c.requires.ordered) c.loop-low.invariant c.loop-low-test.true refl
    (sym c.is_begun-in-loop-low.ensures ∙ c.if-is_begun.true)
