-- When receipts agree with the entries that are kept, numbered from the base number on.
use Rattle.std.specs.Prelude.{◌≡◌, ℕ, ◌+◌, ◌≤◌, List, [], ◌∷◌, ◌++◌, length, Option, Some, None, All, nat_lt, if◌then◌else◌}
use Rattle.history_core.specs.Receipts.{Fits}
use Rattle.history_core.specs.declared.comparing.Mismatch.{Mismatch}
use Rattle.history_core.specs.declared.comparing.Tally.{Tally}
use Rattle.history_core.specs.declared.entry.Entry.{Entry}
use Rattle.history_core.specs.declared.receipt.Receipt.{Receipt}

-- the least number above the one before, where there is one
abbrev pub least_after : Option ℕ → ℕ
least_after None = 0
least_after (Some before) = before + 1

-- The numbers rise: each is greater than the one before, and none is below the least.
abbrev pub Rises : ℕ → List Receipt → Type 0
Rises least [] = Unit {0}
Rises least (r ∷ rs) = (least ≤ r.number) × Rises (r.number + 1) rs

-- the numbers rise, and each receipt is older than the entries or stands among them
pub record IsFitting (base_number : ℕ) (entries : List Entry) (receipts : List Receipt) : Type 0
  where
    pub rises : Rises 0 receipts
    pub fit : All (Fits base_number entries) receipts

-- 1 where a receipt is older than the entries, else 0
abbrev pub age_of : ℕ → Receipt → ℕ
age_of base_number r = if nat_lt r.number base_number then 1 else 0

-- how many are older
abbrev pub count_older : ℕ → List Receipt → ℕ
count_older base_number [] = 0
count_older base_number (r ∷ rs) = age_of base_number r + count_older base_number rs

-- all receipts fit, and these are the counts
pub record IsTallied (base_number : ℕ) (entries : List Entry) (receipts : List Receipt)
    (tally : Tally) : Type 0 where
  pub fitting : IsFitting base_number entries receipts
  pub older : tally.older ≡ count_older base_number receipts
  pub all : tally.stood + tally.older ≡ length receipts

-- The first receipt that breaks it: those before it fit, and with it they do not.
pub record BreaksFirst (base_number : ℕ) (entries : List Entry) (receipts : List Receipt)
    (mismatch : Mismatch) : Type 0 where
  pub before : List Receipt
  pub here : Receipt
  pub rest : List Receipt
  pub parts : receipts ≡ before ++ here ∷ rest
  pub number : here.number ≡ mismatch.0
  pub fitting : IsFitting base_number entries before
  pub breaks : IsFitting base_number entries (before ++ here ∷ []) → ⊥
