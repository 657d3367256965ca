-- Lookups so far, and those for one successor more.
use Rattle.std.proofs.Common.{◌≡◌, ◌≤◌, ◌+◌, ◌*◌, ℕ, Bool, true, false, cond, not, List, [], ◌∷◌, ◌++◌, ◌∙◌, length, length-append, filter, ap, sym, subst, refl, arith, All, Option, Some}
use Rattle.std.proofs.Math.Nat.{add-mul, mul-le-mul_left, mul-le-mul_right}
use Rattle.std.proofs.lemmas.List.Sums.{sum_by-cons}
use Rattle.std.proofs.lemmas.List.Elements.{All-head, All-tail}
use Rattle.message_core.specs.Instances.{IsRising, after, next_of}
use Rattle.message_core.specs.declared.binding.Binding.{Binding}
use Rattle.agent_core.specs.Lookups.{hidden_count, most_lookups}

-- so many times as much
pub lookups_more : (start now later i u : ℕ) → now ≤ start + i * u → later ≤ now + u → later ≤ start + (i + 1) * u
lookups_more start now later i u before one = let e : (i + 1) * u ≡ i * u + 1 * u = add-mul i 1 u in omega (arith, before, one, e)

pub lookups_within : (start now i n u : ℕ) → now ≤ start + i * u → i ≤ n → now ≤ start + n * u
lookups_within start now i n u before h = let m : i * u ≤ n * u = mul-le-mul_right u h in omega (arith, before, m)

-- a binding more is sent
pub pushed_lookups : (start now later old left0 left left1 : ℕ) (sent new : List Binding) (b : Binding) → now + old + left ≤ start + length sent + left0 → later + left1 ≤ now + 1 + left → new ≡ sent ++ b ∷ [] →
    later + old + left1 ≤ start + length new + left0
pushed_lookups start now later old left0 left left1 sent new b before one push =
    let len : length new ≡ length sent + 1 = ap length push ∙ length-append sent (b ∷ []) in
    omega (arith, before, one, len)

-- a successor more is found, and not sent
pub cut_lookups : (start now later old left0 left : ℕ) (sent new : List Binding) → now + old + left ≤ start + length sent + left0 → later ≤ now + 1 + left → new ≡ sent →
    later + old ≤ start + length new + 1 + left0
cut_lookups start now later old left0 left sent new before one same =
    let len : length new ≡ length sent = ap length same in
    omega (arith, before, one, len)

-- by the product that bounds them too
pub product_of : (start now l h u : ℕ) → u ≡ h + 1 → now ≤ start + l + 1 + h → now ≤ start + (l + 1) * u
product_of start now l h u is before =
    let e : (l + 1) * u ≡ l * u + 1 * u = add-mul l 1 u in
    let some : 1 ≤ u = omega (arith, is) in
    let m : l * 1 ≤ l * u = mul-le-mul_left l some in
    omega (arith, before, e, m, is)

-- one instance more in front
hidden_cons : (shows : List ℕ → Bool) (x : Binding) (xs : List Binding) → hidden_count shows (x ∷ xs) ≡ cond (not (shows x.name)) 1 0 + hidden_count shows xs
hidden_cons shows x xs = sum_by-cons (λ (row : Binding). cond (not (shows row.name)) 1 0) x xs

-- nothing is hidden
all_seen : (shows : List ℕ → Bool) (rows : List Binding) → All (λ row. shows row.name ≡ true) rows → hidden_count shows rows ≡ 0
all_seen shows [] h = refl
all_seen shows (x ∷ xs) h =
    let seen : shows x.name ≡ true = All-head (λ (y : Binding). shows y.name ≡ true) x xs h in
    let here : ◌≡◌ {A = ℕ} (cond (not (shows x.name)) 1 0) 0 = ap (λ (b : Bool). cond (not b) 1 0) seen in
    let more : hidden_count shows xs ≡ 0 = all_seen shows xs (All-tail (λ (y : Binding). shows y.name ≡ true) x xs h) in
    omega (arith, hidden_cons shows x xs, here, more)

pub one_lookup_law : (shows : List ℕ → Bool) (rows : List Binding) → All (λ row. shows row.name ≡ true) rows → most_lookups shows rows ≡ 1
unfolding most_lookups
one_lookup_law shows rows h = let none : hidden_count shows rows ≡ 0 = all_seen shows rows h in omega (arith, none)
