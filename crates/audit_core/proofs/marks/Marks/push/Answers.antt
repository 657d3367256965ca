use Rattle.std.proofs.Common.{◌≡◌, ◌∙◌, List, [], ◌∷◌, ◌++◌, ap, subst, refl}
use Rattle.audit_core.specs.declared.denied.Denied.{Denied}
use Rattle.audit_core.specs.declared.keys.FamilyKey.{FamilyKey}
use Rattle.audit_core.specs.declared.marks.Mark.{Mark}
use Rattle.audit_core.specs.Marks.{HasNoMark, IsUnmarked, IsPlaceOf}
use Rattle.audit_core.proofs.Marked.{one_more, marked_more, unmarked}
use Rattle.audit_core.proofs.marks.Marks.push.Goals as goal

pub returns-in_default-clause-ok : goal.returns-in_default-clause-ok
returns-in_default-clause-ok c =
    let denied = c.args.denied in
    let none : HasNoMark c.self.inside.keys.items denied = subst (λ (keys : List FamilyKey). HasNoMark keys denied) c.as_slice.ensures.value (rw c.in_default.is at c.mark_for.ensures) in
    (refl, subst (λ (all : List Denied). IsUnmarked all denied) c.self.view_is (unmarked c.self.inside.keys.items c.self.inside.marks.items denied c.self.invariant none), refl)

pub invariant_of-self-2 : goal.invariant_of-self-2
invariant_of-self-2 c =
    let old = c.self.inside.keys.items in
    let denied = c.args.denied in
    let mark = c.in-Some.mark in
    let at = subst (λ (keys : List FamilyKey). IsPlaceOf keys denied.family mark.family) c.as_slice.ensures.value c.in-Some.ensures.family in
    let items : c.push_reserved.new.self.items ≡ c.self.inside.marks.items ++ mark ∷ [] = c.push_reserved.ensures.items ∙ ap (λ (ms : List Mark). ms ++ mark ∷ []) c.in_ok-reserve.ensures.items in
    one_more old c.put_key.new.keys.items c.self.inside.marks.items c.push_reserved.new.self.items mark denied c.self.invariant
    c.in_ok-put_key.ensures.added at c.in-Some.ensures.index c.in_ok-put_key.ensures.ok items

pub returns-clause-ok : goal.returns-clause-ok
returns-clause-ok c =
    let denied = c.args.denied in
    let mark = c.in-Some.mark in
    let items : c.push_reserved.new.self.items ≡ c.self.inside.marks.items ++ mark ∷ [] = c.push_reserved.ensures.items ∙ ap (λ (ms : List Mark). ms ++ mark ∷ []) c.in_ok-reserve.ensures.items in
    marked_more c.self.inside.keys.items c.put_key.new.keys.items c.self.inside.marks.items c.push_reserved.new.self.items mark denied c.self.invariant
    c.in_ok-put_key.ensures.added c.in-Some.ensures.index c.in_ok-put_key.ensures.ok items
    ∙ ap (λ (ds : List Denied). ds ++ denied ∷ []) c.self.view_is
