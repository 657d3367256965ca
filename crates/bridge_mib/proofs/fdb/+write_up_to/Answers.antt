use Rattle.std.proofs.Common.{◌∙◌, ◌-◌, ◌∷◌, [], refl, length, replicate, List, ℕ, ap}
use Rattle.bridge_mib.proofs.Addresses.{as_stated, behind_as_stated, rest_up_to, rest_behind, empty_is, up_to_greatest, up_to_more, up_to_before, none_behind_none, all_behind_more}
use Rattle.bridge_mib.proofs.fdb.+write_up_to.Goals as goal

pub returns-in_default-split_first : goal.returns-in_default-split_first
returns-in_default-split_first t c =
    behind_as_stated _ _ [] _ (ap length c.in-Some.ensures.cases.0) (empty_is _ c.in_default-split_first.ensures.cases) (none_behind_none (length c.in-Some.octets.now))

pub returns-then-number-gt255 : goal.returns-then-number-gt255
returns-then-number-gt255 t c =
    let n = length c.in-Some.octets.now in
    let x = c.in-Some-split_first.number.now in
    as_stated _ _ _ _ _ _ (ap length c.in-Some.ensures.cases.0) c.in-Some-split_first.ensures.cases.0 (ap (λ (l : List ℕ). 255 ∷ l) c.write_greatest.ensures) (up_to_greatest n x c.in-Some-split_first.index.now c.if-number-gt255.true)

pub returns-then-write_up_to : goal.returns-then-write_up_to
returns-then-write_up_to t c =
    let n = length c.in-Some.octets.now in
    let x = c.in-Some-split_first.number.now in
    let index = c.in-Some-split_first.index.now in
    let new = c.write_up_to.new.octets in
    as_stated _ _ _ _ _ _ (ap length c.in-Some.ensures.cases.0) c.in-Some-split_first.ensures.cases.0 refl (up_to_more n x index new (rest_up_to _ n index new c.if-write_up_to.true c.write_up_to.ensures))

pub returns-then-number-eq0 : goal.returns-then-number-eq0
returns-then-number-eq0 t c =
    let n = length c.in-Some.octets.now in
    let index = c.in-Some-split_first.index.now in
    let new = c.write_up_to.new.octets in
    behind_as_stated _ _ _ _ (ap length c.in-Some.ensures.cases.0) (c.in-Some-split_first.ensures.cases.0 ∙ ap (λ (x : ℕ). x ∷ index) c.if-number-eq0.true) (all_behind_more n index (rest_behind _ n index new c.if-write_up_to.false c.write_up_to.ensures))

pub returns : goal.returns
returns t c =
    let n = length c.in-Some.octets.now in
    let x = c.in-Some-split_first.number.now in
    let index = c.in-Some-split_first.index.now in
    let new = c.write_up_to.new.octets in
    let written = c.write_greatest-2.ensures ∙ ap (λ (k : ℕ). replicate k 255) c.write_up_to.auto.octets in
    as_stated _ _ _ _ _ _ (ap length c.in-Some.ensures.cases.0) c.in-Some-split_first.ensures.cases.0 (ap (λ (l : List ℕ). (x - 1) ∷ l) written) (up_to_before n x index c.if-number-eq0.false (rest_behind _ n index new c.if-write_up_to.false c.write_up_to.ensures))
