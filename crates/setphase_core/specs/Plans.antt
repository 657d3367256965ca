-- The plan of a device: which of its next calls fail, for tests and for the script.
use Rattle.std.specs.Prelude.{◌≡◌, ℕ, ◌/◌, ◌%◌, ◌^◌, ◌-◌, ◌==◌, ◌&&◌, nat_lt, Bool, Option, IfSome}
use Rattle.std.specs.Option.{option_map}

-- Bit k - 1 of a plan says that the k-th call from now fails: behind one call, half of it is left.
-- A device without plans has none.
abbrev pub plan_after_call : Option ℕ → Option ℕ
plan_after_call plan = option_map (λ p. p / 2) plan

-- A device that takes plans takes this one in place of its own.
abbrev pub plan_after_arm : Option ℕ → ℕ → Option ℕ
plan_after_arm plan next = option_map (λ p. next) plan

-- By this plan the next call of a device that has failed so often fails: the lowest bit says so,
-- and the count of failures has space for one more.
abbrev pub fails_next : ℕ → ℕ → Bool
fails_next plan failures = (plan % 2 == 1) && nat_lt failures (2 ^ 64 - 1)

-- Whether a call fails is what the plan of its device says, where it has one.
abbrev pub FollowsPlan : Option ℕ → ℕ → Bool → Type 0
FollowsPlan plan failures fails = IfSome plan (λ p. fails ≡ fails_next p failures)
