use Rattle.std.proofs.Common.{◌≡◌, true, false, ◌&&◌, Bool, rules, sym, ap, subst, ◌∙◌}
use Rattle.std.specs.Ordering.{is_eq}
use Rattle.vacm_core.specs.Repeats.{AreInOrder}
use Rattle.vacm_core.proofs.Tied.{none_repeats, first_from_least}
use Rattle.vacm_core.proofs.repeats.first_repeat.Goals as goal

pub returns-then-not-has_keys-clause-first : goal.returns-then-not-has_keys-clause-first
returns-then-not-has_keys-clause-first g c =
    let w = g.W.WrittenRow in
    let off : c.has_keys.result ≡ false = search rules in
    let none : w.has_keys ≡ false = sym c.has_keys.ensures ∙ off in
    none_repeats w.same_key (λ a b. g.met.W.WrittenRow.same_where_equal a b ∙ ap (λ (x : Bool). x && is_eq (w.key_cmp a b)) none) c.args.rows.now

pub returns-clause-first : goal.returns-clause-first
returns-clause-first g c =
    let w = g.W.WrittenRow in
    let on : c.has_keys.result ≡ true = search rules in
    let all : w.has_keys ≡ true = sym c.has_keys.ensures ∙ on in
    let rows = c.args.rows.now in
    first_from_least w.same_key w.key_cmp g.met.W.WrittenRow.keys_are_ordered
    (λ a b. g.met.W.WrittenRow.same_where_equal a b ∙ ap (λ (x : Bool). x && is_eq (w.key_cmp a b)) all) rows c.as_slice.result.now
    (subst (AreInOrder w.key_cmp rows) (sym c.as_slice.ensures.value) c.in_ok-numbers.ensures.order) c.least_tied.result c.least_tied.ensures
