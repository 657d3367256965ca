use Rattle.std.proofs.Common.{◌≡◌, ℕ, suc, ◌+◌, List, take, take_all, subst, arith}
use Rattle.std.specs.List.{AllByRecursion}
use Rattle.message_core.specs.declared.binding.Binding.{Binding}
use Rattle.history_core.proofs.Ranged.{MayEncode, all_more, all_encode}
use Rattle.history_core.proofs.ranges.known_bindings.Goals as goal

pub loop-binding-preserved : goal.loop-binding-preserved
loop-binding-preserved c =
    let i = c.loop-binding.binding-index in
    let next : suc i ≡ i + 1 = omega arith in
    subst (λ (n : ℕ). AllByRecursion MayEncode (take n c.args.bindings.now)) next
    (all_more c.args.bindings.now i c.binding-item.result c.binding-item.is c.loop-binding.invariant c.known_binding.ensures)

pub returns : goal.returns
returns c =
    all_encode c.args.bindings.now (subst (λ (bs : List Binding). AllByRecursion MayEncode bs)
    (take_all c.loop-binding.binding-index c.args.bindings.now c.loop-binding-test.false) c.loop-binding.invariant)
