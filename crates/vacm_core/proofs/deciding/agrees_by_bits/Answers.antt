use Rattle.std.proofs.Common.{◌+◌, ◌&&◌, Bool, drop, sym, ap, ◌∙◌, arith, inl, inr}
use Rattle.std.proofs.lemmas.Bool.{cases_Bool}
use Rattle.vacm_core.specs.Families.{agrees_from}
use Rattle.vacm_core.proofs.Agrees.{agrees_step, agrees_end, agrees_found}
use Rattle.vacm_core.proofs.deciding.agrees_by_bits.Goals as goal

pub returns-then-name-subtree : goal.returns-then-name-subtree
returns-then-name-subtree c =
    let mask = c.args.mask.now in
    let subtree = c.args.subtree.now in
    let name = c.args.name.now in
    elim (cases_Bool (agrees_from 0 mask subtree name)) [
      | inl agrees ↦ let long = (agrees_found 0 mask subtree name agrees).0 in absurd (omega (arith, long, c.if-name-subtree.true))
      | inr not ↦ sym not
    ]

pub returns-then-not-agrees_at : goal.returns-then-not-agrees_at
returns-then-not-agrees_at c =
    let all = c.loop-k.invariant ∙ agrees_step c.args.mask.now c.loop-k.k c.args.subtree.now c.args.name.now c.loop-k-test.true in
    let here = sym c.agrees_at.ensures ∙ c.if-not-agrees_at.true in
    sym (all ∙ ap (λ (b : Bool). b && agrees_from (c.loop-k.k + 1) c.args.mask.now (drop (c.loop-k.k + 1) c.args.subtree.now) (drop (c.loop-k.k + 1) c.args.name.now)) here)

pub loop-k-preserved : goal.loop-k-preserved
loop-k-preserved c =
    let all = c.loop-k.invariant ∙ agrees_step c.args.mask.now c.loop-k.k c.args.subtree.now c.args.name.now c.loop-k-test.true in
    let here = sym c.agrees_at.ensures ∙ c.if-not-agrees_at.false in
    all ∙ ap (λ (b : Bool). b && agrees_from (c.loop-k.k + 1) c.args.mask.now (drop (c.loop-k.k + 1) c.args.subtree.now) (drop (c.loop-k.k + 1) c.args.name.now)) here

pub returns : goal.returns
returns c = sym (c.loop-k.invariant ∙ agrees_end c.args.mask.now c.loop-k.k c.args.subtree.now c.args.name.now c.loop-k-test.false)
