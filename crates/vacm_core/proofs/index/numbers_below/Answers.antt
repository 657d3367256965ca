use Rattle.std.proofs.Common.{length, nat_eq, sym, ap, subst, arith}
use Rattle.std.specs.List.{IsDistinct}
use Rattle.vacm_core.proofs.Indexes.{one_more_below, one_more_in}
use Rattle.vacm_core.proofs.Tied.{one_more_differs, none_differ}
use Rattle.vacm_core.proofs.index.numbers_below.Goals as goal

pub loop-n-init : goal.loop-n-init
loop-n-init c =
    let none = c.new-numbers.ensures.items in
    record {
      below = λ k d lt. absurd (omega (arith, lt, ap length none));
      all = λ k lt. absurd (omega (arith, lt));
      once = subst (IsDistinct nat_eq) (sym none) none_differ;
    }

pub loop-n-preserved : goal.loop-n-preserved
loop-n-preserved c =
    let n = c.loop-n.n in
    let numbers = c.loop-n.numbers.items in
    let after = c.push.new.self.items in
    record {
      below = one_more_below n numbers after c.loop-n.invariant.below c.in_ok-push.ensures.items;
      all = one_more_in n numbers after c.loop-n.invariant.all c.in_ok-push.ensures.items;
      once = one_more_differs n numbers after c.loop-n.invariant.below c.loop-n.invariant.once c.in_ok-push.ensures.items;
    }
