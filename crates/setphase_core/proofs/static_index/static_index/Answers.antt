use Rattle.std.proofs.Common.{◌≡◌, ◌∙◌, ℕ, Bool, true, false, cond, List, Some, None, refl, sym, ap, length, slice_index_or, arith}
use Rattle.std.specs.Bool.{then_some}
use Rattle.fdb_core.specs.declared.static_row.StaticIndex.{StaticIndex}
use Rattle.setphase_core.specs.Writing.{row_named}
use Rattle.setphase_core.proofs.StaticIndexes.{by_seven, no_octets, no_port, named_by, six_of, index_by}
use Rattle.setphase_core.proofs.static_index.static_index.Goals as goal

pub returns-then-not-are_octets : goal.returns-then-not-are_octets
returns-then-not-are_octets c =
    let at = c.args.at.now in
    let b = c.args.bridge.now in
    let seven : length c.args.at.now ≡ 7 = omega (arith, c.in-len7.len_at_least, c.in-len7.len_below) in
    sym (by_seven b at seven ∙ no_octets b (six_of at) (index_by at) (sym c.are_octets.ensures ∙ c.if-not-are_octets.true))

pub returns-then-port-ports : goal.returns-then-port-ports
returns-then-port-ports c =
    let at = c.args.at.now in
    let b = c.args.bridge.now in
    let seven : length c.args.at.now ≡ 7 = omega (arith, c.in-len7.len_at_least, c.in-len7.len_below) in
    sym (by_seven b at seven ∙ no_port b (six_of at) (index_by at) (omega (arith, c.ports.ensures.count, c.if-port-ports.true)))

then_is : (r : Bool) (i : StaticIndex) → then_some r i ≡ cond r (Some i) None
then_is true i = refl
then_is false i = refl

pub returns : goal.returns
returns c =
    let at = c.args.at.now in
    let b = c.args.bridge.now in
    let seven : length c.args.at.now ≡ 7 = omega (arith, c.in-len7.len_at_least, c.in-len7.len_below) in
    c.then_some.ensures ∙ then_is c.is_static_index.result _ ∙ named_by b (six_of at) _ c.is_static_index.result (sym c.are_octets.ensures ∙ c.if-not-are_octets.false) c.address_from-address.ensures refl c.is_static_index.ensures
    ∙ ap (λ (octets : List ℕ). row_named b (six_of at) (record { address = record { 0 = octets }; port = slice_index_or at 6 0 })) c.address_from-address.ensures
    ∙ sym (by_seven b at seven)
