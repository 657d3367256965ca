use Rattle.std.proofs.Common.{◌≡◌, ℕ, ◌-◌, true, false, List, length, take, drop, sym, ap, subst, ◌∙◌, arith}
use Rattle.std.specs.List.{list_all}
use Rattle.std.proofs.lemmas.Bool.{both_ways}
use Rattle.std.proofs.lemmas.List.{take_rest}
use Rattle.vacm_core.specs.declared.tree.Step.{Step}
use Rattle.vacm_core.specs.Trees.{reaches, same_parts}
use Rattle.vacm_core.proofs.Marks.{at_run, runs_kept, runs_marked, never_along, same_end, not_false}
use Rattle.vacm_core.proofs.radix.Radix.+mark.Goals as goal
use Rattle.vacm_core.proofs.radix.Radix.+mark.Goals.{then-run, else-run}

pub returns-in_default-clause-marked : goal.returns-in_default-clause-marked
returns-in_default-clause-marked t c other row same e =
    subst (λ (way : List Step). reaches c.args.self.now way row ≡ true) (same_end other c.args.way.now same (omega arith)) e

pub returns-after-run-clause-kept : goal.returns-after-run-clause-kept
returns-after-run-clause-kept t c other row e =
    let run = c.deref_mut-run.result.now in
    let on = at_run c.args.self.now c.in-Segment.run' c.in-Segment.is run c.deref_mut-run.ensures.value other row e in
    let more : run.loose ≡ true → c.if-run.run ≡ true = λ loose. elim c.if-run.branch [
      | then-run w ↦ w.run-is ∙ loose
      | else-run w ↦ absurd (both_ways run.loose w.if-run.false loose)
    ] in
    runs_kept run.loose c.if-run.run more run.parts.items (λ rest. reaches run.below rest row) (λ rest. reaches c.mark.new.self rest row) (λ rest h. c.mark.ensures.kept rest row h) other on

pub returns-after-run-clause-marked : goal.returns-after-run-clause-marked
returns-after-run-clause-marked t c other row same e =
    let run = c.deref_mut-run.result.now in
    let on = at_run c.args.self.now c.in-Segment.run' c.in-Segment.is run c.deref_mut-run.ensures.value other row e in
    let long : c.len-long.result ≡ length run.parts.items = omega (arith, c.len-long.ensures, run.parts.ok) in
    let tight : c.if-run.run ≡ false → list_all (λ s. s.counts) (take (length run.parts.items) c.args.way.now) ≡ true = λ marked. elim c.if-run.branch [
      | then-run w ↦ absurd (both_ways c.if-run.run marked (w.run-is ∙ w.if-run.true))
      | else-run w ↦ ap (λ (k : ℕ). list_all (λ s. s.counts) (take k c.args.way.now)) (sym long) ∙ sym w.all_count.ensures ∙ not_false w.all_count.result (sym w.run-is ∙ marked)
    ] in
    let behind : take (length c.args.way.now - c.len-long.result) (drop c.len-long.result c.args.way.now) ≡ drop (length run.parts.items) c.args.way.now =
    take_rest c.args.way.now c.len-long.result ∙ ap (λ (k : ℕ). drop k c.args.way.now) long in
    runs_marked run.loose c.if-run.run run.parts.items (λ rest. reaches run.below rest row) (λ rest. reaches c.mark.new.self rest row) other c.args.way.now tight
    (λ rest alike h. subst (λ (w : List Step). reaches c.mark.new.self w row ≡ true) behind
    (c.mark.ensures.marked rest row (subst (λ (w : List Step). same_parts rest w ≡ true) (sym behind) alike) h)) same on

pub returns-else-long-way-clause-marked : goal.returns-else-long-way-clause-marked
returns-else-long-way-clause-marked t c other row same e =
    let run = c.deref_mut-run.result.now in
    let on = at_run c.args.self.now c.in-Segment.run' c.in-Segment.is run c.deref_mut-run.ensures.value other row e in
    never_along run.loose run.parts.items (λ rest. reaches run.below rest row) other c.args.way.now same (omega arith) on
