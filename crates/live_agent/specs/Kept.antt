-- Items that were added to a list.
use Rattle.std.proofs.Common.{◌≡◌, ◌∙◌, List, [], ◌++◌, sym, ap, append_assoc, append-nil}
use Rattle.live_agent.specs.declared.trace.Item.{Item}

pub added_none : (items : List Item) → items ≡ items ++ []
added_none items = sym (append-nil items)

pub added_more : (first then last xs ys : List Item) → then ≡ first ++ xs → last ≡ then ++ ys
    → last ≡ first ++ (xs ++ ys)
added_more first then last xs ys one more =
    more ∙ ap (λ (l : List Item). l ++ ys) one ∙ append_assoc first xs ys
