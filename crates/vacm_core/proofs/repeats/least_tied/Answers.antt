use Rattle.std.proofs.Common.{◌≡◌, ◌<◌, ◌+◌, Some, length, sym, ap, subst, ◌∙◌, arith}
use Rattle.std.specs.Ordering.{is_eq}
use Rattle.vacm_core.specs.Repeats.{is_tied}
use Rattle.vacm_core.proofs.Tied.{TiedSoFar, tie_skipped, tie_taken}
use Rattle.vacm_core.proofs.repeats.least_tied.Goals as goal
use Rattle.vacm_core.proofs.repeats.least_tied.Goals.{then-is_eq, else-is_eq}

pub loop-k-preserved : goal.loop-k-preserved
loop-k-preserved g c =
    let cmp = g.W.WrittenRow.key_cmp in
    let rows = c.args.rows.now in
    let numbers = c.args.numbers.now in
    let k = c.loop-k.k in
    let answer : c.is_eq.result ≡ is_tied cmp rows numbers k = c.is_eq.ensures ∙ ap is_eq c.cmp_rows.ensures in
    elim c.if-is_eq.branch [
      | then-is_eq w ↦
          let within : k < length numbers = omega (arith, c.loop-k-test.true) in
          subst (TiedSoFar cmp rows numbers (k + 1)) (sym (w.least-is ∙ ap Some w.lesser.ensures))
          (tie_taken cmp rows numbers k c.loop-k.least c.loop-k.auto.k within (sym answer ∙ w.if-is_eq.true) c.loop-k.invariant)
      | else-is_eq w ↦
          subst (TiedSoFar cmp rows numbers (k + 1)) (sym w.least-is) (tie_skipped cmp rows numbers k c.loop-k.least (sym answer ∙ w.if-is_eq.false) c.loop-k.invariant)
    ]
