use Rattle.std.proofs.Common.{◌≡◌, ◌∙◌, ap, sym, subst, Some, None, Option, List, ℕ}
use Rattle.std.specs.Prelude.{IfSome, option_map}
use Rattle.oid_core.specs.Order.{is_prefix}
use Rattle.message_core.specs.Instances.{value_of, next_of}
use Rattle.agent_core.specs.Reading.{visible}
use Rattle.message_core.specs.declared.binding.Binding.{Binding}
use Rattle.agent_core.proofs.Below.{below-itself, below-first, first_below, visible-rising}
use Rattle.agent_core.proofs.getting.shows_below.Goals as goal

pub returns-in-Some-clause-answer : goal.returns-in-Some-clause-answer
returns-in-Some-clause-answer g c =
    let rows : List Binding = visible (g.S.View.shows c.args.source.now) (g.S.Successors.instances c.args.source.now) in
    sym (below-itself c.args.object.now rows c.in-Some._itself (sym (c.in_ok-_itself.ensures) ∙ c.in-Some.is))

pub returns-clause-answer : goal.returns-clause-answer
returns-clause-answer g c =
    let rows : List Binding = visible (g.S.View.shows c.args.source.now) (g.S.Successors.instances c.args.source.now) in
    let here : Binding = g.S.Successors.at c.args.source.now c.next_named.new.spot in
    let none : value_of rows c.args.object.now ≡ None = sym (c.in_ok-_itself.ensures) ∙ c.in_default.is in
    let named : c.in-Some-2.next ≡ here.name = subst (λ (o : Option (List ℕ)). IfSome o (λ n. n ≡ here.name)) c.in-Some-2.is c.in_ok-next.ensures.name in
    let next : next_of rows c.args.object.now ≡ Some here =
    ap (next_of rows) (sym c.as_slice.ensures.value) ∙ (c.in_ok-next.ensures.found ∙ ap (λ (o : Option (List ℕ)). option_map (λ _. here) o) c.in-Some-2.is) in
    c.is_prefix.ensures.test ∙ ap (is_prefix c.args.object.now) named
    ∙ sym (below-first c.args.object.now rows (visible-rising (g.S.View.shows c.args.source.now) (g.S.Successors.instances c.args.source.now) c.known.ensures.rising) none ∙ ap (first_below c.args.object.now) next)

pub returns-in_default-2-clause-answer : goal.returns-in_default-2-clause-answer
returns-in_default-2-clause-answer g c =
    let rows : List Binding = visible (g.S.View.shows c.args.source.now) (g.S.Successors.instances c.args.source.now) in
    let here : Binding = g.S.Successors.at c.args.source.now c.next_named.new.spot in
    let none : value_of rows c.args.object.now ≡ None = sym (c.in_ok-_itself.ensures) ∙ c.in_default.is in
    let next : next_of rows c.args.object.now ≡ None =
    ap (next_of rows) (sym c.as_slice.ensures.value) ∙ (c.in_ok-next.ensures.found ∙ ap (λ (o : Option (List ℕ)). option_map (λ _. here) o) c.in_default-2.is) in
    sym (below-first c.args.object.now rows (visible-rising (g.S.View.shows c.args.source.now) (g.S.Successors.instances c.args.source.now) c.known.ensures.rising) none ∙ ap (first_below c.args.object.now) next)
