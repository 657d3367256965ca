use Rattle.std.proofs.Common.{◌∙◌, ◌<◌, ◌^◌, ap, sym, subst, cond, length, take, option_map, List, ℕ, Bool, Some, None}
use Rattle.std.specs.List.{AllByRecursion}
use Rattle.oid_core.specs.Order.{name_eq}
use Rattle.bridge_mib.proofs.StaticRows.{none_of_empty, some_length, read_none, read_some}
use Rattle.bridge_mib.proofs.statics.static_there.Goals as goal

pub returns-then-is_empty : goal.returns-then-is_empty
returns-then-is_empty c = λ f. none_of_empty c.args.bridge.now.statics.rows f c.args.at.now c.is_empty.result c.is_empty.ensures c.if-is_empty.true

pub returns-in_err-row : goal.returns-in_err-row
returns-in_err-row c =
    let low = take c.write_below-count.result c.write_below-count.new.numbers in
    let behind = c.write_below-count.ensures.below (some_length c.args.at.now c.is_empty.result c.is_empty.ensures c.if-is_empty.false) in
    λ f. read_none c.args.bridge.now.statics.rows f low c.args.at.now c.known_statics.ensures.rising behind (sym c.in_err-row.was ∙ c.next_static.ensures)
    ∙ ap (option_map f) (sym c.from_residual.ensures)

pub returns-then-same_name : goal.returns-then-same_name
returns-then-same_name c =
    let row = c.in_ok-row.row in
    let low = take c.write_below-count.result c.write_below-count.new.numbers in
    let behind = c.write_below-count.ensures.below (some_length c.args.at.now c.is_empty.result c.is_empty.ensures c.if-is_empty.false) in
    let value = c.numbers_of.ensures.value in
    λ f. read_some c.args.bridge.now.statics.rows f low c.args.at.now row c.same_name.result c.known_statics.ensures.rising behind c.write_below-count.ensures.between
    (ap length (sym value) ∙ c.numbers_of.ensures.seven) (subst (AllByRecursion (λ n. n < 2 ^ 32)) value c.numbers_of.ensures.fit)
    (sym c.in_ok-row.was ∙ c.next_static.ensures) (c.same_name.ensures.test ∙ ap (λ (xs : List ℕ). name_eq xs c.args.at.now) value)
    ∙ ap (λ (b : Bool). option_map f (cond b (Some row) None)) c.if-same_name.true

pub returns-else-same_name : goal.returns-else-same_name
returns-else-same_name c =
    let row = c.in_ok-row.row in
    let low = take c.write_below-count.result c.write_below-count.new.numbers in
    let behind = c.write_below-count.ensures.below (some_length c.args.at.now c.is_empty.result c.is_empty.ensures c.if-is_empty.false) in
    let value = c.numbers_of.ensures.value in
    λ f. read_some c.args.bridge.now.statics.rows f low c.args.at.now row c.same_name.result c.known_statics.ensures.rising behind c.write_below-count.ensures.between
    (ap length (sym value) ∙ c.numbers_of.ensures.seven) (subst (AllByRecursion (λ n. n < 2 ^ 32)) value c.numbers_of.ensures.fit)
    (sym c.in_ok-row.was ∙ c.next_static.ensures) (c.same_name.ensures.test ∙ ap (λ (xs : List ℕ). name_eq xs c.args.at.now) value)
    ∙ ap (λ (b : Bool). option_map f (cond b (Some row) None)) c.if-same_name.false
