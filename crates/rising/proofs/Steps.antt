-- The ghost steps of a number that only rises. Assumes `Logic`.
use mathlib.Core.List.{[], ◌∷◌}
use Prim.Native.Nat.{ℕ, ◌+◌, ◌≤◌}
use native.Mathlib.Nat.{le_refl}
use native.Mathlib.Omega.{arith}
use seplogic.Ra.Ura.{Ura}
use base.Fraction.{full_share}
use base.Growing.{numbers}
use base.Logic.{SProp, ent, sep, ex, emp, guard, via}
use base.Fml.{Fml}
use types.Logic.{Logic, sem}
use types.Owned.{basic}
use types.Growing.{latest_new, latest_grows, latest_shows, latest_bounds, at_least_dup}
use types.Kit.{‵, ◌⊛◌, given, later, ◌$◌, ◌∵◌, !, qed, move, drop, split, learn, check, done, use1, use2, updating, await, now}
use Rattle.rising.specs.Owning.{latest_owns, reached_owns}

module _ {M : Type 1} {𝓤 : Ura M} (𝓛 : Logic 𝓤) where
  open 𝓛 use {H}

  abbrev ⟦◌⟧ : Fml → SProp 𝓤
  ⟦ P ⟧ = sem 𝓛 P

  abbrev ◌∗◌ : SProp 𝓤 → SProp 𝓤 → SProp 𝓤
  P ∗ Q = sep 𝓤 P Q

  abbrev ◌⊢◌ : SProp 𝓤 → SProp 𝓤 → Type 1
  P ⊢ Q = ent 𝓤 P Q

  infix 26 ◌⊢◌
  infixr 35 ◌∗◌
  pub begins : emp 𝓤 ⊢ H.⇛ (ex 𝓤 (λ (γ : ℕ). ⟦ latest_owns γ 0 ⟧))
  unfolding latest_owns
  begins = via 𝓤 _ (latest_new numbers 𝓛 0) (basic 𝓛 _)

  pub shows : (γ n : ℕ) → ⟦ latest_owns γ n ⟧ ⊢ ⟦ latest_owns γ n ⟧ ∗ ⟦ reached_owns γ n ⟧
  unfolding latest_owns reached_owns
  shows γ n = latest_shows numbers 𝓛 full_share γ n n (le_refl n)

  pub twice : (γ n : ℕ) → ⟦ reached_owns γ n ⟧ ⊢ ⟦ reached_owns γ n ⟧ ∗ ⟦ reached_owns γ n ⟧
  unfolding reached_owns
  twice γ n = at_least_dup numbers 𝓛 γ n

  bounds : (γ n m : ℕ) → ⟦ latest_owns γ n ⟧ ∗ ⟦ reached_owns γ m ⟧ ⊢ guard 𝓤 (m ≤ n) (⟦ latest_owns γ n ⟧ ∗ ⟦ reached_owns γ m ⟧)
  unfolding latest_owns reached_owns
  bounds γ n m = latest_bounds numbers 𝓛 full_share γ n m

  grows : (γ n m : ℕ) → n ≤ m → ⟦ latest_owns γ n ⟧ ⊢ H.⇛ ⟦ latest_owns γ m ⟧
  unfolding latest_owns
  grows γ n m up = via 𝓤 _ (latest_grows numbers 𝓛 γ n m up) (basic 𝓛 _)

  -- the number rises, and what was reached was no more than it was
  pub raises : (γ n m by : ℕ) → ⟦ latest_owns γ n ⟧ ∗ ⟦ reached_owns γ m ⟧ ⊢ H.⇛ (guard 𝓤 (m ≤ n) (⟦ latest_owns γ (n + by) ⟧ ∗ ⟦ reached_owns γ (n + by) ⟧))
  raises γ n m by = let L : ℕ → Fml = latest_owns γ in let R : ℕ → Fml = reached_owns γ in
      qed 𝓛 (‵ (L n) ∷ ‵ (R m) ∷ []) ∵ updating ! $ use2 𝓛 (given (m ≤ n) (‵ (L n) ⊛ ‵ (R m))) (bounds γ n m) $ learn ! (λ behind. split ! $ move ! (1 ∷ []) $ drop ! $
      use1 𝓛 (later (‵ (L (n + by)))) (grows γ n (n + by) (omega arith)) $ await ! tt $ use1 𝓛 (‵ (L (n + by)) ⊛ ‵ (R (n + by))) (shows γ (n + by)) $ split ! $ now ! $ check ! behind $ done !)
