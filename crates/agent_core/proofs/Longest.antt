-- The longest front that fits.
use Rattle.std.proofs.Common.{◌≡◌, ◌↔◌, ℕ, zero, suc, ◌+◌, ◌-◌, ◌<◌, ◌≤◌, ◌∙◌, sym, ap, refl, Bool, true, false, cond, nat_le, List, [], ◌∷◌, ◌++◌, length, take, drop, arith, append-nil, inl, inr, length-append}
use Rattle.std.proofs.lemmas.Bool.{cases_lt}
use Rattle.std.proofs.lemmas.Bool.Decides.{nat_tests}
use Rattle.std.proofs.lemmas.List.{take-append-drop, length-take}
use Rattle.std.proofs.Math.Seq.{take-append-add}
use Rattle.message_core.specs.Canon.{answer_to}
use Rattle.message_core.specs.declared.limits.TheConstants.{MAX_COMMUNITY, MAX_REPLY}
use Rattle.message_core.specs.declared.binding.Binding.{Binding}
use Rattle.message_core.specs.declared.request.Request.{Request}
use Rattle.message_core.specs.declared.status.ErrorStatus.TheVariants.{NoError}
use Rattle.message_core.proofs.Short.{reply_short}
use Rattle.agent_core.specs.Fitting.{total, reply_size, longest_front, fitting_front, IsFront, IsLongestFitting, IsFilled}
use Rattle.agent_core.proofs.Fits.{total-append}

pub le_true : (m n : ℕ) → m ≤ n → nat_le m n ≡ true
le_true m n h = grind (arith, nat_tests, h)

pub true_le : (m n : ℕ) → nat_le m n ≡ true → m ≤ n
true_le m n h = grind (arith, nat_tests, h)

pub false_lt : (m n : ℕ) → nat_le m n ≡ false → n < m
false_lt m n h = grind (arith, nat_tests, h)

pub lt_false : (m n : ℕ) → n < m → nat_le m n ≡ false
lt_false m n h = grind (arith, nat_tests, h)

front_yes : (passes : List Binding → Bool) (k : ℕ) (all : List Binding) → passes (take (suc k) all) ≡ true → longest_front passes (suc k) all ≡ take (suc k) all
front_yes passes k all h = rw h refl

front_no : (passes : List Binding → Bool) (k : ℕ) (all : List Binding) → passes (take (suc k) all) ≡ false → longest_front passes (suc k) all ≡ longest_front passes k all
front_no passes k all h = rw h refl

nothing : (xs : List Binding) → length xs ≤ 0 → xs ≡ []
nothing [] h = refl
nothing (x ∷ xs) h = absurd (omega (arith, h))

take_nothing : (n : ℕ) (xs : List Binding) → xs ≡ [] → take n xs ≡ []
take_nothing zero xs e = refl
take_nothing (suc n) xs e = rw e refl

-- a front that is no shorter than another
take_past : (all sent rest : List Binding) → sent ++ rest ≡ all → (k : ℕ) → length sent ≤ k → take k all ≡ sent ++ take (k - length sent) rest
take_past all sent rest e k h =
    let sum : k ≡ length sent + (k - length sent) = omega (arith, h) in
    ap (take k) (sym e) ∙ ap (λ n. take n (sent ++ rest)) sum ∙ take-append-add sent rest (k - length sent)

-- what passes, where nothing longer does, is the longest
pub longest_is : (passes : List Binding → Bool) (all sent rest : List Binding) → sent ++ rest ≡ all → passes sent ≡ true →
    ((b : Binding) (more behind : List Binding) → rest ≡ b ∷ more → passes (sent ++ b ∷ behind) ≡ false) →
    (most : ℕ) → length sent ≤ most → longest_front passes most all ≡ sent
longest_is passes all sent rest e fits full zero h = sym (nothing sent h)
longest_is passes all sent rest e fits full (suc k) h = elim (cases_lt k (length sent)) [
  | inl less ↦
      let none : suc k - length sent ≡ 0 = omega (arith, less) in
      let same : take (suc k) all ≡ sent = take_past all sent rest e (suc k) h ∙ ap (λ n. sent ++ take n rest) none ∙ append-nil sent in
      front_yes passes k all (ap passes same ∙ fits) ∙ same
  | inr past ↦ next rest refl (longest_is passes all sent rest e fits full k past)
]
  where
    next : (behind : List Binding) → rest ≡ behind → longest_front passes k all ≡ sent → longest_front passes (suc k) all ≡ sent
    next [] is more =
        let same : take (suc k) all ≡ sent = take_past all sent rest e (suc k) h ∙ ap (λ z. sent ++ z) (take_nothing (suc k - length sent) rest is) ∙ append-nil sent in
        front_yes passes k all (ap passes same ∙ fits) ∙ same
    next (b ∷ bs) is more = elim (cases_lt k (length sent)) [
      | inl less ↦
          let none : suc k - length sent ≡ 0 = omega (arith, less) in
          let same : take (suc k) all ≡ sent = take_past all sent rest e (suc k) h ∙ ap (λ n. sent ++ take n rest) none ∙ append-nil sent in
          front_yes passes k all (ap passes same ∙ fits) ∙ same
      | inr past ↦
          let some : suc k - length sent ≡ suc (k - length sent) = omega (arith, past) in
          let longer : take (suc k) all ≡ sent ++ b ∷ take (k - length sent) bs =
          take_past all sent rest e (suc k) h ∙ ap (λ n. sent ++ take n rest) some ∙ ap (λ z. sent ++ take (suc (k - length sent)) z) is in
          front_no passes k all (ap passes longer ∙ full b bs (take (k - length sent) bs) is) ∙ more
    ]

total_grows : (sent : List Binding) (b : Binding) (behind : List Binding) → total (sent ++ b ∷ []) ≤ total (sent ++ b ∷ behind)
total_grows sent b behind =
    omega (arith, total-append sent (b ∷ []), total-append sent (b ∷ behind), total-append (b ∷ []) behind)

too_long : (request : Request) (space : ℕ) (bs : List Binding) → ((bindings : List Binding) → (total bindings ≤ space) ↔ (reply_size request bindings ≤ MAX_REPLY)) → space < total bs →
    (w : Bool) → nat_le (reply_size request bs) MAX_REPLY ≡ w → w ≡ false
too_long request space bs decides past false e = refl
too_long request space bs decides past true e = let within : total bs ≤ space = (decides bs).1 (true_le (reply_size request bs) MAX_REPLY e) in absurd (omega (arith, within, past))

-- what is sent as far as there is space is the longest front that fits
pub filled_fits : (request : Request) (space : ℕ) (all sent : List Binding) → ((bindings : List Binding) → (total bindings ≤ space) ↔ (reply_size request bindings ≤ MAX_REPLY)) →
    total sent ≤ space → IsFilled space all sent → sent ≡ fitting_front request all
unfolding fitting_front
filled_fits request space all sent decides within filled =
    let len : length sent ≤ length all = omega (arith, ap length filled.front, length-append sent filled.rest) in
    sym (longest_is (λ front. nat_le (reply_size request front) MAX_REPLY) all sent filled.rest filled.front
    (le_true (reply_size request sent) MAX_REPLY ((decides sent).0 within))
    (λ b more behind is.
    let past : space < total (sent ++ b ∷ []) = false_lt (total (sent ++ b ∷ [])) space (filled.full b more is) in
    let grows : total (sent ++ b ∷ []) ≤ total (sent ++ b ∷ behind) = total_grows sent b behind in
    too_long request space (sent ++ b ∷ behind) decides (omega (arith, past, grows)) _ refl)
    (length all) len)

front_is : (passes : List Binding → Bool) (most : ℕ) (all : List Binding) → IsFront (longest_front passes most all) all
front_is passes zero all = (all, refl)
front_is passes (suc k) all = elim (passes (take (suc k) all)) as (λ w. IsFront (cond w (take (suc k) all) (longest_front passes k all)) all) [
  | true ↦ (drop (suc k) all, take-append-drop (suc k) all)
  | false ↦ front_is passes k all
]

front_passes : (passes : List Binding → Bool) (most : ℕ) (all : List Binding) → passes [] ≡ true → passes (longest_front passes most all) ≡ true
front_passes passes zero all none = none
front_passes passes (suc k) all none = split (passes (take (suc k) all)) refl (front_passes passes k all none)
  where
    split : (w : Bool) → passes (take (suc k) all) ≡ w → passes (longest_front passes k all) ≡ true → passes (cond w (take (suc k) all) (longest_front passes k all)) ≡ true
    split true e more = e
    split false e more = more

front_longest : (passes : List Binding → Bool) (all other rest : List Binding) → other ++ rest ≡ all → passes other ≡ true →
    (most : ℕ) → length other ≤ most → length other ≤ length (longest_front passes most all)
front_longest passes all other rest e fits zero h = omega (arith, h)
front_longest passes all other rest e fits (suc k) h = split (passes (take (suc k) all)) refl (λ less. front_longest passes all other rest e fits k less)
  where
    split : (w : Bool) → passes (take (suc k) all) ≡ w → (length other ≤ k → length other ≤ length (longest_front passes k all)) → length other ≤ length (cond w (take (suc k) all) (longest_front passes k all))
    split true w more = omega (arith, h, length-take (suc k) all, ap length e, length-append other rest)
    split false w more = elim (cases_lt k (length other)) [
      | inr within ↦ more within
      | inl past ↦
          let none : suc k - length other ≡ 0 = omega (arith, past) in
          let same : take (suc k) all ≡ other = take_past all other rest e (suc k) h ∙ ap (λ n. other ++ take n rest) none ∙ append-nil other in
          let no : passes other ≡ false = ap passes (sym same) ∙ w in
          absurd (cc)
    ]

pub longest_law : (request : Request) (all : List Binding) → length request.community ≤ MAX_COMMUNITY → IsLongestFitting request all (fitting_front request all)
unfolding fitting_front
longest_law request all community = record {
  front = front_is (λ front. nat_le (reply_size request front) MAX_REPLY) (length all) all;
  fits = true_le (reply_size request (longest_front (λ front. nat_le (reply_size request front) MAX_REPLY) (length all) all)) MAX_REPLY
      (front_passes (λ front. nat_le (reply_size request front) MAX_REPLY) (length all) all
      (le_true (reply_size request []) MAX_REPLY (reply_short (answer_to request NoError _ []) community refl)));
  longest = λ other front fits.
      front_longest (λ f. nat_le (reply_size request f) MAX_REPLY) all other front.0 front.1 (le_true (reply_size request other) MAX_REPLY fits) (length all)
      (omega (arith, ap length front.1, length-append other front.0));
}
