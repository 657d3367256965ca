use Rattle.std.proofs.Common.{refl, ◌≡◌, true, Some, None, option_map, sym, ap, subst, ◌∙◌, inl, inr, arith}
use Rattle.vacm_core.specs.declared.radix.Branch.{Branch}
use Rattle.vacm_core.specs.declared.radix.Segment.{Segment}
use Rattle.vacm_core.specs.Trees.{reaches, reaches_fork, after_run}
use Rattle.vacm_core.proofs.Ways.{goes_straight, goes_aside, turns, leads_to_none, leads_behind, leads_nowhere, along_run, at_fork, the_part}
use Rattle.vacm_core.proofs.walk.+best.Goals as goal

pub best_below-returns-in-Some-clause-found : goal.best_below-returns-in-Some-clause-found
best_below-returns-in-Some-clause-found g t c still way n e f =
    let run = c.in-Segment.run' in
    let name = c.args.name.now in
    let found : Some c.in-Some.after.now ≡ after_run run.value.loose run.value.parts.items name =
    ap (option_map (λ rest. rest.now)) (sym c.in-Some.is) ∙ c.after.ensures ∙ ap (λ (r : Segment). after_run r.loose r.parts.items name) c.deref.ensures in
    let on = leads_behind run.value.loose run.value.parts.items run.value.below name c.in-Some.after.now n (along_run c.args.tree.now run c.in-Segment.is way name n e f) found in
    c.best_below.ensures.found still on.rest n (subst (λ (r : Segment). reaches r.below on.rest n ≡ true) (sym c.deref-in-Some.ensures) on.leads) on.fits

pub best_below-returns-in-None-clause-found : goal.best_below-returns-in-None-clause-found
best_below-returns-in-None-clause-found g t c still way n e f =
    let run = c.in-Segment.run' in
    let name = c.args.name.now in
    let found : None ≡ after_run run.value.loose run.value.parts.items name =
    ap (option_map (λ rest. rest.now)) (sym c.in-None.is) ∙ c.after.ensures ∙ ap (λ (r : Segment). after_run r.loose r.parts.items name) c.deref.ensures in
    leads_nowhere run.value.loose run.value.parts.items run.value.below name n (along_run c.args.tree.now run c.in-Segment.is way name n e f) found

pub best_below-returns-in-Fork-clause-found : goal.best_below-returns-in-Fork-clause-found
best_below-returns-in-Fork-clause-found g t c still way n e f =
    c.best_of_fork.ensures.found still way n (subst (λ (m : Branch). reaches_fork m way n ≡ true) (sym c.deref-in-Fork.ensures) (at_fork c.args.tree.now c.in-Fork.node c.in-Fork.is way n e)) f

pub best_of_fork-returns-clause-found : goal.best_of_fork-returns-clause-found
best_of_fork-returns-clause-found g t c still way n e f =
    let node = c.args.node.now in
    elim (goes_straight node way c.args.name.now n e f c.in-len1-up.len_at_least c.if-node.false (the_part _ _ _ _ refl refl c.if-first-node.false c.if-node-first.false)) [
      | inl here ↦ c.better-2.ensures.here n here
      | inr on ↦ c.better-2.ensures.later.kept n (c.best_below-best-2.ensures.found still on.rest n on.leads on.fits)
    ]

pub best_of_fork-returns-then-node-clause-found : goal.best_of_fork-returns-then-node-clause-found
best_of_fork-returns-then-node-clause-found g t c still way n e f =
    let greater = c.best_below-best-then-node-2.ensures in
    let equal = c.best_below-best-then-node-3.ensures in
    let last = c.better-then-node.ensures in
    elim (turns c.args.node.now way c.args.name.now n e f c.in-len1-up.len_at_least) [
      | inl less ↦ last.later.kept n (equal.later.kept n (greater.later.kept n
          (c.best_below-best-then-node.ensures.found (omega (arith, still, greater.fewer, equal.fewer)) way n less f)))
      | inr (inl more) ↦ last.later.kept n (equal.later.kept n (greater.found (omega (arith, still, equal.fewer)) way n more f))
      | inr (inr (inl here)) ↦ last.here n here
      | inr (inr (inr on)) ↦ last.later.kept n (equal.found still on.rest n on.leads on.fits)
    ]

pub best_of_fork-returns-then-is_aside-2-clause-found : goal.best_of_fork-returns-then-is_aside-2-clause-found
best_of_fork-returns-then-is_aside-2-clause-found g t c still way n e f =
    let greater = c.best_below-best-then-node-2.ensures in
    elim (goes_aside c.args.node.now way c.args.name.now n e f c.in-len1-up.len_at_least (c.if-is_aside-2.ensures.loose refl) (c.if-is_aside-2.ensures.other refl)) [
      | inl less ↦ greater.later.kept n
          (c.best_below-best-then-node.ensures.found (omega (arith, still, greater.fewer)) way n less f)
      | inr more ↦ greater.found still way n more f
    ]

pub best_of_fork-returns-then-is_only_way-clause-found : goal.best_of_fork-returns-then-is_only_way-clause-found
best_of_fork-returns-then-is_only_way-clause-found g t c still way n e f =
    let node = c.args.node.now in
    let last = c.better.ensures in
    elim (turns node way c.args.name.now n e f c.in-len1-up.len_at_least) [
      | inl less ↦ leads_to_none node.less (c.if-is_only_way.ensures.less refl) way n less
      | inr (inl more) ↦ leads_to_none node.greater (c.if-is_only_way.ensures.greater refl) way n more
      | inr (inr (inl here)) ↦ last.here n here
      | inr (inr (inr on)) ↦ last.later.kept n (c.best_below-best.ensures.found still on.rest n on.leads on.fits)
    ]
