-- The receipts of traces, one item and one line more.
use Rattle.std.proofs.Common.{◌≡◌, ◌∙◌, ℕ, ◌+◌, ◌<◌, List, [], ◌∷◌, ◌++◌, length, take, drop, get_or, suc, refl, sym, ap, arith, append_assoc, append-nil, length-append}
use Rattle.std.proofs.lemmas.List.{take_more}
use Rattle.std.proofs.Math.Seq.{split_at}
use Rattle.history_core.specs.declared.receipt.Receipt.{Receipt}
use Rattle.live_agent.specs.declared.trace.Item.{Item}
use Rattle.live_agent.specs.declared.trace.Item.TheVariants as item
use Rattle.live_agent.specs.declared.trace.Ran.{Ran}
use Rattle.live_agent.specs.Turns.{entered_in}
use Rattle.live_run.specs.Crews.{entered_by, entered_of}
use Rattle.live_run.specs.Reports.{receipts_of, receipts_in, all_receipts}
use Rattle.live_run.specs.declared.lines.Runs.{Runs}

-- the first i elements and the next one
pub one_more : {X : Type 0} (xs : List X) (i : ℕ) (x : X) → i < length xs → x ≡ get_or xs i x → take (i + 1) xs ≡ take i xs ++ x ∷ []
one_more xs i x lt is = take_more xs i x lt ∙ ap (λ y. take i xs ++ y ∷ []) (sym is)

-- and what comes behind
pub cut_at : {X : Type 0} (xs : List X) (i : ℕ) (x : X) → i < length xs → x ≡ get_or xs i x → xs ≡ take i xs ++ x ∷ drop (suc i) xs
cut_at xs i x lt is = split_at xs i x lt ∙ ap (λ y. take i xs ++ y ∷ drop (suc i) xs) (sym is)

pub receipts_of-append : (xs ys : List Item) → receipts_of (xs ++ ys) ≡ receipts_of xs ++ receipts_of ys
receipts_of-append [] ys = refl
receipts_of-append (item.Entered r ∷ xs) ys = ap (λ (l : List Receipt). r ∷ l) (receipts_of-append xs ys)
receipts_of-append (item.Refused c ∷ xs) ys = receipts_of-append xs ys
receipts_of-append (item.Short ∷ xs) ys = receipts_of-append xs ys
receipts_of-append (item.Full ∷ xs) ys = receipts_of-append xs ys

pub receipts_of-none : (x : Item) → ((r : Receipt) → x ≡ item.Entered r → ⊥) → receipts_of (x ∷ []) ≡ []
receipts_of-none (item.Entered r) other = absurd (other r refl)
receipts_of-none (item.Refused c) other = refl
receipts_of-none item.Short other = refl
receipts_of-none item.Full other = refl

pub receipts_in-snoc : (rs : List Ran) (r : Ran) → receipts_in (rs ++ r ∷ []) ≡ receipts_in rs ++ receipts_of r.trace
receipts_in-snoc [] r = append-nil (receipts_of r.trace)
receipts_in-snoc (x ∷ rs) r = ap (λ (l : List Receipt). receipts_of x.trace ++ l) (receipts_in-snoc rs r) ∙ sym (append_assoc (receipts_of x.trace) (receipts_in rs) (receipts_of r.trace))

pub length-receipts_of : (items : List Item) → length (receipts_of items) ≡ entered_in items
length-receipts_of [] = refl
length-receipts_of (item.Entered r ∷ xs) = omega (arith, length-receipts_of xs)
length-receipts_of (item.Refused c ∷ xs) = length-receipts_of xs
length-receipts_of (item.Short ∷ xs) = length-receipts_of xs
length-receipts_of (item.Full ∷ xs) = length-receipts_of xs

pub length-receipts_in : (rs : List Ran) → length (receipts_in rs) ≡ entered_by rs
length-receipts_in [] = refl
length-receipts_in (r ∷ rs) = omega (arith, length-append (receipts_of r.trace) (receipts_in rs), length-receipts_of r.trace, length-receipts_in rs)

pub length-all_receipts : (runs : Runs) → length (all_receipts runs) ≡ entered_of runs
length-all_receipts runs = omega (
  arith,
  length-append (receipts_in runs.workers.items) (receipts_in runs.ports.items ++ receipts_of runs.ticker.trace),
  length-append (receipts_in runs.ports.items) (receipts_of runs.ticker.trace),
  length-receipts_in runs.workers.items,
  length-receipts_in runs.ports.items,
  length-receipts_of runs.ticker.trace,
)
