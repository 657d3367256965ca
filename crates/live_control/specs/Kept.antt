-- Items that were added to a list.
use Rattle.std.proofs.Common.{◌≡◌, ◌∙◌, List, [], ◌++◌, sym, ap, append_assoc, append-nil}
use Rattle.live_control.specs.declared.item.ControlItem.{ControlItem}

pub added_none : (items : List ControlItem) → items ≡ items ++ []
added_none items = sym (append-nil items)

pub added_more : (first then last xs ys : List ControlItem) → then ≡ first ++ xs → last ≡ then ++ ys
    → last ≡ first ++ (xs ++ ys)
added_more first then last xs ys one more =
    more ∙ ap (λ (l : List ControlItem). l ++ ys) one ∙ append_assoc first xs ys
