-- The ghost steps of a log that only grows. Assumes `Logic`.
use mathlib.Core.Path.{◌≡◌, refl, sym, ◌∙◌, ap}
use mathlib.Core.List.{List, [], ◌∷◌, ◌++◌, IsPrefix}
use Rattle.std.specs.Prelude.{◌⊎◌}
use Rattle.std.proofs.Common.{inl, inr}
use base.Stored.{Coded}
use Prim.Native.Nat.{ℕ}
use seplogic.Ra.Ura.{Ura}
use base.Fraction.{full_share}
use base.Growing.{prefixes, prefix_refl, Least}
use base.Logic.{SProp, ent, sep, ex, emp, guard, via}
use base.Fml.{Fml}
use types.Logic.{Logic, sem}
use types.Owned.{basic}
use types.Growing.{latest_new, latest_grows, latest_shows, latest_bounds, at_least_dup, at_least_join}
use types.Kit.{‵, ◌⊛◌, given, later, ◌$◌, ◌∵◌, !, qed, move, drop, split, learn, check, done, use1, use2, updating, await, now}
use Rattle.rising.specs.Owning.{log_owns, front_owns}

-- what two fronts become: both began it, and it is one of them
pub record Joined {E : Type 0} (a b c : List E) : Type 0 where
  pub this : IsPrefix a c
  pub that : IsPrefix b c
  pub one : (c ≡ a) ⊎ (c ≡ b)

module _ {E : Type 0} where
  abbrev rest : List E → List E
  rest [] = []
  rest (x ∷ xs) = xs

  abbrev head_or : E → List E → E
  head_or d [] = d
  head_or d (x ∷ xs) = x

  lift_line : (x y : E) → x ≡ y → (a b : List E) → IsPrefix a b ⊎ IsPrefix b a → IsPrefix (x ∷ a) (y ∷ b) ⊎ IsPrefix (y ∷ b) (x ∷ a)
  lift_line x y e a b (inl t) = inl (t.0, λ i. e i ∷ t.1 i)
  lift_line x y e a b (inr t) = inr (t.0, λ i. sym e i ∷ t.1 i)

  -- of two beginnings of a list, one is a beginning of the other
  pub in_line : (a b l : List E) → IsPrefix a l → IsPrefix b l → IsPrefix a b ⊎ IsPrefix b a
  in_line [] b l h k = inl (b, refl)
  in_line (x ∷ a) [] l h k = inr (x ∷ a, refl)
  in_line (x ∷ a) (y ∷ b) l h k = let same : x ≡ y = ap (head_or x) (h.1 ∙ sym k.1) in lift_line x y same a b (in_line a b (rest l) (h.0, ap rest h.1) (k.0, ap rest k.1))

  least_one : (c : Coded E) (a b d : List E) → Least IsPrefix a b d → IsPrefix a b ⊎ IsPrefix b a → Joined a b d
  least_one c a b d so (inl t) = record { this = so.0; that = so.1; one = inr ((prefixes c).anti d b (so.2 b t (prefix_refl b)) so.1) }
  least_one c a b d so (inr t) = record { this = so.0; that = so.1; one = inl ((prefixes c).anti d a (so.2 a (prefix_refl a) t) so.0) }

  pub joined : (c : Coded E) (a b d : List E) → Least IsPrefix a b d → Joined a b d
  joined c a b d so = least_one c a b d so (in_line a b d so.0 so.1)

module _ {M : Type 1} {𝓤 : Ura M} (𝓛 : Logic 𝓤) {E : Type 0} (c : Coded E) where
  open 𝓛 use {H}

  abbrev ⟦◌⟧ : Fml → SProp 𝓤
  ⟦ P ⟧ = sem 𝓛 P

  abbrev ◌∗◌ : SProp 𝓤 → SProp 𝓤 → SProp 𝓤
  P ∗ Q = sep 𝓤 P Q

  abbrev ◌⊢◌ : SProp 𝓤 → SProp 𝓤 → Type 1
  P ⊢ Q = ent 𝓤 P Q

  infix 26 ◌⊢◌
  infixr 35 ◌∗◌
  abbrev L : ℕ → List E → Fml
  L = log_owns c

  abbrev R : ℕ → List E → Fml
  R = front_owns c

  pub begins : emp 𝓤 ⊢ H.⇛ (ex 𝓤 (λ (γ : ℕ). ⟦ log_owns c γ [] ⟧))
  unfolding log_owns
  begins = via 𝓤 _ (latest_new (prefixes c) 𝓛 []) (basic 𝓛 _)

  pub shows : (γ : ℕ) (n : List E) → ⟦ log_owns c γ n ⟧ ⊢ ⟦ log_owns c γ n ⟧ ∗ ⟦ front_owns c γ n ⟧
  unfolding log_owns front_owns
  shows γ n = latest_shows (prefixes c) 𝓛 full_share γ n n (prefix_refl n)

  pub twice : (γ : ℕ) (n : List E) → ⟦ front_owns c γ n ⟧ ⊢ ⟦ front_owns c γ n ⟧ ∗ ⟦ front_owns c γ n ⟧
  unfolding front_owns
  twice γ n = at_least_dup (prefixes c) 𝓛 γ n

  bounds : (γ : ℕ) (n m : List E) → ⟦ log_owns c γ n ⟧ ∗ ⟦ front_owns c γ m ⟧ ⊢ guard 𝓤 (IsPrefix m n) (⟦ log_owns c γ n ⟧ ∗ ⟦ front_owns c γ m ⟧)
  unfolding log_owns front_owns
  bounds γ n m = latest_bounds (prefixes c) 𝓛 full_share γ n m

  grows : (γ : ℕ) (n m : List E) → IsPrefix n m → ⟦ log_owns c γ n ⟧ ⊢ H.⇛ ⟦ log_owns c γ m ⟧
  unfolding log_owns
  grows γ n m up = via 𝓤 _ (latest_grows (prefixes c) 𝓛 γ n m up) (basic 𝓛 _)

  -- the log grows, and what was seen was a beginning of it
  pub adds : (γ : ℕ) (n m more : List E) → ⟦ log_owns c γ n ⟧ ∗ ⟦ front_owns c γ m ⟧ ⊢ H.⇛ (guard 𝓤 (IsPrefix m n) (⟦ log_owns c γ (n ++ more) ⟧ ∗ ⟦ front_owns c γ (n ++ more) ⟧))
  adds γ n m more =
      qed 𝓛 (‵ (L γ n) ∷ ‵ (R γ m) ∷ []) ∵ updating ! $ use2 𝓛 (given (IsPrefix m n) (‵ (L γ n) ⊛ ‵ (R γ m))) (bounds γ n m) $ learn ! (λ behind. split ! $ move ! (1 ∷ []) $ drop ! $
      use1 𝓛 (later (‵ (L γ (n ++ more)))) (grows γ n (n ++ more) (more, refl)) $ await ! tt $ use1 𝓛 (‵ (L γ (n ++ more)) ⊛ ‵ (R γ (n ++ more))) (shows γ (n ++ more)) $ split ! $ now ! $ check ! behind $ done !)

  -- the log stays, and what was seen was a beginning of it
  pub observes : (γ : ℕ) (n m : List E) → ⟦ log_owns c γ n ⟧ ∗ ⟦ front_owns c γ m ⟧ ⊢ guard 𝓤 (IsPrefix m n) (⟦ log_owns c γ n ⟧ ∗ ⟦ front_owns c γ n ⟧)
  observes γ n m =
      qed 𝓛 (‵ (L γ n) ∷ ‵ (R γ m) ∷ []) ∵ use2 𝓛 (given (IsPrefix m n) (‵ (L γ n) ⊛ ‵ (R γ m))) (bounds γ n m) $ learn ! (λ behind. split ! $ move ! (1 ∷ []) $ drop ! $
      use1 𝓛 (‵ (L γ n) ⊛ ‵ (R γ n)) (shows γ n) $ split ! $ check ! behind $ done !)

  -- what two fronts know is what the longer knows
  pub joins : (γ : ℕ) (n m : List E) → ⟦ front_owns c γ n ⟧ ∗ ⟦ front_owns c γ m ⟧ ⊢ ex 𝓤 (λ (l : List E). guard 𝓤 (Least IsPrefix n m l) ⟦ front_owns c γ l ⟧)
  unfolding front_owns
  joins γ n m = at_least_join (prefixes c) 𝓛 γ n m
